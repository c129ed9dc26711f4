use Rattle.std.proofs.Common.{◌≡◌, List, ℕ, sym, ap, subst, rules}
use Rattle.vab_make.specs.declared.fault.MakeFault.TheVariants as make
use Rattle.vab_cli.specs.declared.status.Status.{Status}
use Rattle.vab_cli.specs.Telling.{Tells}
use Rattle.vab_cli.specs.Verbs.{none_line, make_line}
use Rattle.vab_cli.proofs.making.tell_fault.Goals as goal

pub returns-in-TooSmall-clause-tells : goal.returns-in-TooSmall-clause-tells
returns-in-TooSmall-clause-tells g c = λ t.
    let is : c.args.fault ≡ make.TooSmall c.in-TooSmall.field-0 c.in-TooSmall.field-1 =
    search rules in
    let line : none_line ≡ make_line c.args.fault = sym (ap make_line is) in
    subst
    (λ (x : Status).
    Tells g.P.Disk (make_line c.args.fault) x c.args.port.now c.tell.new.port c.tell.result)
    c.from.ensures
    (subst
    (λ (l : List ℕ). Tells g.P.Disk l c.from.result c.args.port.now c.tell.new.port c.tell.result)
    line (c.tell.ensures.tells t))
