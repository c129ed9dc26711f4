use Rattle.std.proofs.Common.{◌≡◌, ◌++◌, take}
use Rattle.std.specs.List.{flat_map}
use Rattle.vab_status.specs.Kept as kept
use Rattle.vab_status.proofs.OrderLaws.{targets}
use Rattle.vab_status.proofs.slot.push_images.Given as goal

abbrev pub invariant-loop-part : goal.invariant-loop-part
invariant-loop-part l =
    l.page.items
    ≡ l.fn.page.items ++ flat_map (kept.image_line l.slot) (targets (take l.part-index l.parts))
