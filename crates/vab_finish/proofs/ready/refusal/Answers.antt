use Rattle.std.proofs.Common.{◌∙◌, sym}
use Rattle.std.specs.Prelude.{Some}
use Rattle.vab_finish.proofs.ReadyLaws.{finish_nothing, finish_by}
use Rattle.vab_finish.proofs.ready.refusal.Goals as goal

pub returns-in-None-clause-refused : goal.returns-in-None-clause-refused
returns-in-None-clause-refused c = λ image staged.
    finish_nothing c.args.device.now image staged c.in-None.is

pub returns-in-Some-least_declared-clause-refused :
    goal.returns-in-Some-least_declared-clause-refused
returns-in-Some-least_declared-clause-refused c = λ image staged.
    finish_by c.args.device.now image staged c.in-Some.plan (Some c.in-Some-least_declared.name)
    c.in-Some.is (sym c.least_declared.ensures ∙ c.in-Some-least_declared.is)
