use Rattle.std.proofs.Common.{◌≡◌, sum_by, take}
use Rattle.vab_builder.specs.Sums.{size_in}
use Rattle.vab_builder.proofs.groups.group_blocks.Given as goal

abbrev pub invariant-loop-partition : goal.invariant-loop-partition
invariant-loop-partition l =
    l.blocks
    ≡ sum_by (size_in l.slot l.table l.group l.name l.count) (take l.partition-index l.partitions)
