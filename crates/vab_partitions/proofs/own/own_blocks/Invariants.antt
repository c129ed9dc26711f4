use Rattle.std.proofs.Common.{◌≡◌}
use Rattle.vab_layout.specs.Layout.{blocks_of_parts}
use Rattle.vab_partitions.specs.Own.{own_before}
use Rattle.vab_partitions.proofs.own.own_blocks.Given as goal

abbrev pub invariant-loop-partition : goal.invariant-loop-partition
invariant-loop-partition l =
    l.blocks ≡ blocks_of_parts (own_before l.slot l.table l.partition-index)
