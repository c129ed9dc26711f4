use Rattle.std.proofs.Common.{◌≡◌, ◌≤◌, ◌<◌, ℕ, length, get_or}
use Rattle.std.specs.Prelude.{map}
use Rattle.vab_tables.specs.declared.entries.Partition.{Partition}
use Rattle.vab_layout.specs.Layout.{layout_of}
use Rattle.vab_partitions.specs.Own.{own_before}
use Rattle.vab_device.specs.Phases.{planned_on}
use Rattle.vab_device.specs.Stores.{scanned_named}
use Rattle.vab_plan.specs.Scans.{scans_of}
use Rattle.vab_plan.proofs.planning.plan.Given as goal

abbrev pub invariant-loop-partition : goal.invariant-loop-partition
invariant-loop-partition l = record {
  plan : l.plan.items
      ≡ map (planned_on (layout_of l.table) (scans_of l.fn.scans.items))
      (own_before l.slot l.table l.partition-index);
  left : (k : ℕ) (d : Partition)
      → l.partition-index ≤ k
      → k < length l.table.partitions
      → scanned_named (get_or l.table.partitions k d).name (scans_of l.left.items)
      ≡ scanned_named (get_or l.table.partitions k d).name (scans_of l.fn.scans.items);
}
