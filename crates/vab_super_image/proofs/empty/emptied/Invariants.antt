use Rattle.std.proofs.Common.{◌≡◌, take, map}
use Rattle.vab_super_image.specs.SuperImage.{emptied}
use Rattle.vab_super_image.proofs.empty.emptied.Given as goal

abbrev pub invariant-loop-partition : goal.invariant-loop-partition
invariant-loop-partition l =
    l.empty.items ≡ map emptied (take l.partition-index l.partitions)
