use Rattle.std.proofs.Common.{◌≡◌, drop, map}
use Rattle.vab_layout.specs.Layout.{layout_of, part_of}
use Rattle.vab_builder.specs.Edits.{group_named}
use Rattle.vab_builder.proofs.counts.group_named.Given as goal

abbrev pub invariant-loop-partition : goal.invariant-loop-partition
invariant-loop-partition l =
    group_named l.name (layout_of l.table).parts
    ≡ group_named l.name (map (part_of l.table) (drop l.partition-index l.partitions))
