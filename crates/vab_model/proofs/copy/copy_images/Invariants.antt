use Rattle.std.proofs.Common.{◌≡◌, take}
use Rattle.vab_model.proofs.copy.copy_images.Given as goal

abbrev pub invariant-loop-image : goal.invariant-loop-image
invariant-loop-image l = l.copies.items ≡ take l.image-index l.image-items
