use Rattle.vab_status.proofs.PageLaws.{small_sorted}
use Rattle.vab_status.proofs.slot.push_slot.Goals as goal

pub push_images-requires : goal.push_images-requires
push_images-requires c =
    small_sorted c.requires.0 c.args.parts.now c.in-Some.parts c.as_slice.result.now
    c.in_ok-by_name-in-Some.field-0.items c.deref.result.now c.requires.1 c.in-Some.is
    c.as_slice.ensures c.in_ok-by_name-in-Some.ensures c.deref.ensures.value
