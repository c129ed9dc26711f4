use Rattle.std.proofs.Common.{◌≡◌, sum_by, take}
use Rattle.vab_builder.specs.Sums.{own_size}
use Rattle.vab_builder.proofs.sizes.slot_blocks.Given as goal

abbrev pub invariant-loop-partition : goal.invariant-loop-partition
invariant-loop-partition l =
    l.blocks ≡ sum_by (own_size l.slot l.table) (take l.partition-index l.partitions)
