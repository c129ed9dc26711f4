-- The target of an update as it begins.
use Rattle.std.specs.Prelude.{◌≡◌, ℕ, ◌≤◌, Bool, [], length, Some, Result, Err}
use Rattle.vab_tables.specs.declared.table.Table.{Table}
use Rattle.vab_tables.specs.Rules.{KeepsRules}
use Rattle.vab_tables.specs.Spelling.{table_size_of, table_text, as_minor_2}
use Rattle.vab_tables.specs.Text.{IsTableText}
use Rattle.vab_layout.specs.declared.layout.Layout.{Layout}
use Rattle.vab_layout.specs.Layout.{layout_of}
use Rattle.vab_layout.specs.Slots.{other_slot, twins_by, IsTargetBeside, groups_of_slot}
use Rattle.vab_builder.specs.declared.fault.EditFault.{EditFault}
use Rattle.vab_builder.specs.Import.{imported_by}
use Rattle.vab_builder.specs.Edits.{fitting}
use Rattle.vab_builder.specs.Gives.{IsTableOf, GivesTable}
use Rattle.vab_device.specs.declared.device.Device.{Device}
use Rattle.vab_device.specs.Kept.{table_of_slot}
use Rattle.vab_device.specs.Phases.{plan_of}
use Rattle.vab_begin.specs.declared.target.Target.{Target}

-- the layout of the target's table, where it stands apart or not, or why there is none
abbrev pub layout_for : (apart : Bool) → ℕ → ℕ → Table → Result Layout EditFault
layout_for apart max slot source = fitting max (imported_by apart slot (layout_of source))

-- a table with its text and the plan of a slot
pub record IsSpelled (slot : ℕ) (t : Table) (x : Target) : Type 0 where
  pub table : x.table ≡ t
  pub text : x.text ≡ table_text t
  pub long : length x.text ≡ table_size_of t
  pub stands : (max : ℕ) → table_size_of t ≤ max → IsTableText max x.text (as_minor_2 t)
  pub plan : x.plan ≡ plan_of slot (layout_of t) []

-- The target from this slot, whose table this is: its table, with its text, and its plan.
pub record IsTargetOf (apart : Bool) (max slot : ℕ) (source : Table) (x : Target) : Type 0 where
  pub gives : IsTableOf x.table (layout_for apart max slot source)
  pub layout : layout_of x.table ≡ imported_by apart slot (layout_of source)
  pub rules : KeepsRules x.table
  pub size : table_size_of x.table ≤ max
  pub target : IsTargetBeside (other_slot slot)
      (twins_by apart (layout_of source).parts)
      (layout_of source).parts
      (layout_of x.table).parts
  pub device : x.table.devices ≡ source.devices
  pub groups : groups_of_slot (other_slot slot) x.table.groups ≡ groups_of_slot slot source.groups
  pub spelled : IsSpelled (other_slot slot) x.table x

-- there is none for this cause; memory may be refused in place of one
abbrev pub IsRefusedBy : (apart : Bool) → ℕ → ℕ → Table → EditFault → Type 0
IsRefusedBy apart max slot source fault =
    GivesTable (Err fault) (layout_for apart max slot source)

-- ---- from the slot of a device

pub record IsTargetFor (apart : Bool) (d : Device) (x : Target) : Type 0 where
  pub source : Table
  pub is : table_of_slot d d.mark.slot ≡ Some source
  pub target : IsTargetOf apart d.geometry.max d.mark.slot source x

pub record IsRefusedFor (apart : Bool) (d : Device) (fault : EditFault) : Type 0 where
  pub source : Table
  pub is : table_of_slot d d.mark.slot ≡ Some source
  pub refused : IsRefusedBy apart d.geometry.max d.mark.slot source fault
