use Rattle.std.proofs.Common.{◌≡◌, drop}
use Rattle.vab_super_image.specs.SuperImage.{first_filled}
use Rattle.vab_super_image.proofs.empty.first_filled.Given as goal

abbrev pub invariant-loop-partition : goal.invariant-loop-partition
invariant-loop-partition l =
    first_filled l.table.partitions ≡ first_filled (drop l.partition-index l.table.partitions)
