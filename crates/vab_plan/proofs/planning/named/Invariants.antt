use Rattle.std.proofs.Common.{◌≡◌, drop}
use Rattle.std.specs.Prelude.{map}
use Rattle.vab_layout.specs.Layout.{layout_of, part_of}
use Rattle.vab_device.specs.Stores.{first_named}
use Rattle.vab_plan.proofs.planning.named.Given as goal

abbrev pub invariant-loop-partition : goal.invariant-loop-partition
invariant-loop-partition l =
    first_named l.name (layout_of l.table).parts
    ≡ first_named l.name (map (part_of l.table) (drop l.partition-index l.table.partitions))
