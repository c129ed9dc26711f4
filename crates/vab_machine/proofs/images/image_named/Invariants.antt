use Rattle.std.proofs.Common.{◌≡◌, drop}
use Rattle.vab_model.specs.State.{image_named}
use Rattle.vab_machine.proofs.images.image_named.Given as goal

abbrev pub invariant-loop-image : goal.invariant-loop-image
invariant-loop-image l = image_named l.base (drop l.image-index l.images)
    ≡ image_named l.base l.images
