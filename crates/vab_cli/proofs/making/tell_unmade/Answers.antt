use Rattle.std.proofs.Common.{◌≡◌, ◌∙◌, true, false, sym}
use Rattle.vab_cli.specs.Verbs.{is_silent}
use Rattle.vab_cli.proofs.Makings.{tells_nothing}
use Rattle.vab_cli.proofs.making.tell_unmade.Goals as goal

pub returns-then-is_silent-clause-tells : goal.returns-then-is_silent-clause-tells
returns-then-is_silent-clause-tells g c = λ t.
    tells_nothing g.P.Disk c.args.fault c.args.port.now c.from.result
    (sym c.is_silent.ensures ∙ c.if-is_silent.true)

pub returns-clause-silent : goal.returns-clause-silent
returns-clause-silent g c = λ silent.
    let loud : is_silent c.args.fault ≡ false = sym c.is_silent.ensures ∙ c.if-is_silent.false in
    let bad : true ≡ false = sym silent ∙ loud in
    cc
