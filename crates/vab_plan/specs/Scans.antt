-- The exceptions of stores, and the tables of targets that a plan is made of.
use Rattle.std.specs.Prelude.{ℕ, List, map, ◌++◌}
use Rattle.vab_tables.specs.declared.table.Table.{Table}
use Rattle.vab_tables.specs.Rules.{KeepsRules}
use Rattle.vab_layout.specs.Layout.{layout_of, blocks_of_parts}
use Rattle.vab_layout.specs.Slots.{own_parts, store_parts, IsOwn, IsDistinct}
use Rattle.vab_device.specs.Stores.{Scanned}
use Rattle.vab_plan.specs.declared.planning.Scan.{Scan}

abbrev pub scanned_of : Scan → Scanned
scanned_of s = record { name = s.name; chunk = s.chunk; exceptions = s.view }

abbrev pub scans_of : List Scan → List Scanned
scans_of scans = map scanned_of scans

-- A target's table: its rules, those of the slot's own partitions, and no block twice in these and
-- their stores.
pub record IsTargetTable (slot : ℕ) (t : Table) : Type 0 where
  pub rules : KeepsRules t
  pub own : IsOwn slot (layout_of t).parts
  pub once : IsDistinct
      (blocks_of_parts
      (own_parts slot (layout_of t).parts ++ store_parts slot (layout_of t).parts))
