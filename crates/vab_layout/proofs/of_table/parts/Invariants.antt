use Rattle.std.proofs.Common.{◌≡◌, take, map}
use Rattle.vab_layout.specs.Layout.{part_of}
use Rattle.vab_layout.proofs.of_table.parts.Given as goal

abbrev pub invariant-loop-partition : goal.invariant-loop-partition
invariant-loop-partition l =
    l.parts.items ≡ map (part_of l.table) (take l.partition-index l.table.partitions)
