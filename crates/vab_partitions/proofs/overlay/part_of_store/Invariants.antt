use Rattle.std.proofs.Common.{◌≡◌}
use Rattle.vab_layout.specs.Layout.{part_of}
use Rattle.vab_layout.specs.Overlay.{part_of_store}
use Rattle.vab_partitions.specs.Own.{own_from}
use Rattle.vab_partitions.specs.Overlay.{own_of}
use Rattle.vab_partitions.proofs.overlay.part_of_store.Given as goal

abbrev pub invariant-loop-partition : goal.invariant-loop-partition
invariant-loop-partition l =
    part_of_store (own_of l.slot l.table) (part_of l.table l.store)
    ≡ part_of_store (own_from l.slot l.table l.partition-index) (part_of l.table l.store)
