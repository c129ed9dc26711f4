-- What the tables of a test's update keep.
use Rattle.std.specs.Prelude.{◌≡◌, ℕ, Bool, ◌<◌, ◌^◌}
use Rattle.vab_tables.specs.declared.table.Table.{Table}
use Rattle.vab_tables.specs.Rules.{KeepsRules}
use Rattle.vab_tables.specs.Spelling.{table_size_of}
use Rattle.vab_layout.specs.Layout.{layout_of}
use Rattle.vab_layout.specs.Slots.{other_slot, twins_by, IsOwn, IsTargetBeside}

-- a slot and the other one
pub record AreSlots (from to : ℕ) : Type 0 where
  pub low : from < 2
  pub high : to < 2
  pub there : to ≡ other_slot from
  pub back : from ≡ other_slot to

-- a small table of a slot
pub record IsSource (slot : ℕ) (t : Table) : Type 0 where
  pub keeps : KeepsRules t
  pub small : table_size_of t < 2 ^ 24
  pub own : IsOwn slot (layout_of t).parts

-- a small table of a slot's update beside its source, or apart from it
pub record IsUpdated (slot : ℕ) (apart : Bool) (source target : Table) : Type 0 where
  pub keeps : KeepsRules target
  pub small : table_size_of target < 2 ^ 24
  pub parts : IsTargetBeside slot (twins_by apart (layout_of source).parts)
      (layout_of source).parts (layout_of target).parts
  pub device : source.devices ≡ target.devices
