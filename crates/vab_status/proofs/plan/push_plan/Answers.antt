use Rattle.vab_status.proofs.PageLaws.{small_sorted}
use Rattle.vab_status.proofs.plan.push_plan.Goals as goal

pub push_planned-requires : goal.push_planned-requires
push_planned-requires c =
    small_sorted c.requires.0 c.args.plan.now c.in-Some.plan c.as_slice.result.now
    c.in_ok-by_name-in-Some.field-0.items c.deref.result.now c.requires.1 c.in-Some.is
    c.as_slice.ensures c.in_ok-by_name-in-Some.ensures c.deref.ensures.value
