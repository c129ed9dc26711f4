use Rattle.std.proofs.Common.{◌≡◌, ◌∙◌, ◌<◌, List, length, get_or, ap, sym, subst}
use Rattle.vab_device.specs.declared.device.Part.{Part}
use Rattle.vab_edit.specs.Carried.{planned_named}
use Rattle.vab_edit.proofs.CarryLaws.{planned_without}
use Rattle.vab_edit.proofs.carry.take.Goals as goal

pub returns-in-Some-clause-others : goal.returns-in-Some-clause-others
returns-in-Some-clause-others c = λ n differ.
    let here = c.in-Some.ensures.is c.remove.result in
    ap (planned_named n) c.remove.ensures.items
    ∙ planned_without n c.args.plan.now.items c.in-Some.at c.remove.result
    (subst (λ (l : List Part). c.in-Some.at < length l) c.as_slice.ensures.value
    c.in-Some.ensures.within)
    (λ e. differ (sym e
    ∙ subst (λ (l : List Part). (get_or l c.in-Some.at c.remove.result).name ≡ c.args.name.now)
    c.as_slice.ensures.value here))
