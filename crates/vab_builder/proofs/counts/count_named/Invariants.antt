use Rattle.std.proofs.Common.{◌≡◌, drop, map}
use Rattle.vab_layout.specs.Layout.{layout_of, part_of}
use Rattle.vab_layout.specs.Slots.{blocks_named}
use Rattle.vab_builder.proofs.counts.count_named.Given as goal

abbrev pub invariant-loop-partition : goal.invariant-loop-partition
invariant-loop-partition l =
    blocks_named l.name (layout_of l.table).parts
    ≡ blocks_named l.name (map (part_of l.table) (drop l.partition-index l.partitions))
