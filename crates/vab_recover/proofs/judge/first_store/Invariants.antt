use Rattle.std.proofs.Common.{◌≡◌, drop}
use Rattle.std.specs.Prelude.{map}
use Rattle.vab_layout.specs.Layout.{layout_of, part_of}
use Rattle.vab_device.specs.Phases.{first_store}
use Rattle.vab_recover.proofs.judge.first_store.Given as goal

abbrev pub invariant-loop-partition : goal.invariant-loop-partition
invariant-loop-partition l =
    first_store (layout_of l.table).parts
    ≡ first_store (map (part_of l.table) (drop l.partition-index l.table.partitions))
