-- The own partitions in front of a place of the table, and those behind it.
use Rattle.std.specs.Prelude.{ℕ, List, map, take, drop}
use Rattle.vab_tables.specs.declared.table.Table.{Table}
use Rattle.vab_layout.specs.declared.layout.Part.{Part}
use Rattle.vab_layout.specs.Layout.{part_of}
use Rattle.vab_layout.specs.Slots.{own_parts}

abbrev pub own_before : ℕ → Table → ℕ → List Part
own_before slot t i = own_parts slot (map (part_of t) (take i t.partitions))

abbrev pub own_from : ℕ → Table → ℕ → List Part
own_from slot t i = own_parts slot (map (part_of t) (drop i t.partitions))
