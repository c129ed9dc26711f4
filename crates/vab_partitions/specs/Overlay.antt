-- The stores over a slot's own partitions from a place of the table on.
use Rattle.std.specs.Prelude.{ℕ, List, map, drop}
use Rattle.vab_tables.specs.declared.entries.Partition.{Partition}
use Rattle.vab_tables.specs.declared.table.Table.{Table}
use Rattle.vab_layout.specs.declared.layout.Part.{Part}
use Rattle.vab_layout.specs.Layout.{part_of, layout_of}
use Rattle.vab_layout.specs.Slots.{own_parts}
use Rattle.vab_layout.specs.Overlay.{Overlaid, overlays_of}

-- the slot's own partitions of a table
abbrev pub own_of : ℕ → Table → List Part
own_of slot t = own_parts slot (layout_of t).parts

-- a partition of the table, and a store of it
abbrev pub pair_of : Table → (partition store : Partition) → Overlaid
pair_of t partition store = record { part = part_of t partition; store = part_of t store }

-- the stores over the slot's partitions from a place on, each with its partition
abbrev pub overlays_from : ℕ → Table → ℕ → List Overlaid
overlays_from slot t i = overlays_of (own_of slot t) (map (part_of t) (drop i t.partitions))
