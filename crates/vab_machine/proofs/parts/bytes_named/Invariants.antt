use Rattle.std.proofs.Common.{◌≡◌, drop}
use Rattle.vab_model.specs.Plans.{bytes_named}
use Rattle.vab_machine.proofs.parts.bytes_named.Given as goal

abbrev pub invariant-loop-image : goal.invariant-loop-image
invariant-loop-image l =
    bytes_named l.name (drop l.image-index l.images) ≡ bytes_named l.name l.images
