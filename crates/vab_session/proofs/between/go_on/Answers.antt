use Rattle.std.proofs.Common.{◌≡◌, arith}
use Rattle.std.proofs.lemmas.Bool.Decides.{nat_tests}
use Rattle.vab_session.proofs.BetweenLaws.{goes_nowhere, goes, goes_wrong}
use Rattle.vab_session.proofs.between.go_on.Goals as goal

pub returns-then-turns-eq0 : goal.returns-then-turns-eq0
returns-then-turns-eq0 g c =
    let none : c.args.turns ≡ 0 = grind (arith, nat_tests, c.if-turns-eq0.true) in
    goes_nowhere g.D.Disk c.args.kept c.args.turns c.args.d.now c.args.d.now none
    c.requires.device c.requires.stands

pub returns-in-Ok : goal.returns-in-Ok
returns-in-Ok g c =
    goes g.D.Disk c.args.kept c.args.turns c.args.d.now c.merge.new.d
    (λ none. grind (arith, nat_tests, none, c.if-turns-eq0.false))
    c.requires.device c.requires.stands (c.in-Ok.device, c.in-Ok.field-0-1) c.in-Ok.ensures

pub returns-in-Err : goal.returns-in-Err
returns-in-Err g c =
    goes_wrong g.D.Disk c.args.kept c.args.turns c.args.d.now c.merge.new.d
    (λ none. grind (arith, nat_tests, none, c.if-turns-eq0.false))
    c.requires.device c.requires.stands c.in-Err.field-0 c.in-Err.ensures
