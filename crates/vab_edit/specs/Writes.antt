-- The command that an edit is, and what it writes.
use Rattle.std.specs.Prelude.{◌≡◌, ◌≤◌, ◌^◌, ℕ, nat_le, Bool, true, List, length, map, None}
use Rattle.std.specs.Prelude.{Result, Ok}
use Rattle.vab_disk.specs.Disk.{Image}
use Rattle.vab_tables.specs.declared.table.Table.{Table}
use Rattle.vab_tables.specs.Spelling.{table_text}
use Rattle.vab_tables.specs.Text.{IsTableText}
use Rattle.vab_lpstore.specs.Storing.{IsOfTable}
use Rattle.vab_layout.specs.declared.layout.Layout.{Layout}
use Rattle.vab_layout.specs.Layout.{layout_of, table_of}
use Rattle.vab_layout.specs.Slots.{other_slot}
use Rattle.vab_builder.specs.declared.edit.Edit.{Edit}
use Rattle.vab_builder.specs.declared.edit.Edit.TheVariants as edits
use Rattle.vab_builder.specs.declared.fault.EditFault.{EditFault}
use Rattle.vab_builder.specs.Edits.{if_fitting}
use Rattle.vab_model.specs.declared.state.Plan.{Plan}
use Rattle.vab_model.specs.Commands.{Command, Create, Resize, Delete, Snapshot}
use Rattle.vab_device.specs.declared.device.Part.{Part}
use Rattle.vab_device.specs.declared.device.Device.{Device}
use Rattle.vab_device.specs.Mounted.{entry_on}
use Rattle.vab_device.specs.Updates.{EditOf, create_edit, resize_edit, delete_edit, snapshot_edit}
use Rattle.vab_device.specs.Updates.{Guard, no_guard, settled_guard, store_guard}
use Rattle.vab_edit.specs.Tables.{HasTables}

-- the command that asks for an edit
abbrev pub command_by : Edit → Command
command_by (edits.Create name bytes) = Create name.now bytes
command_by (edits.Resize name bytes) = Resize name.now bytes
command_by (edits.Delete name) = Delete name.now
command_by (edits.AddStore name bytes) = Snapshot name.now bytes

-- what it gives of two layouts
abbrev pub edit_by : Edit → EditOf
edit_by (edits.Create name bytes) = create_edit name.now bytes
edit_by (edits.Resize name bytes) = resize_edit name.now bytes
edit_by (edits.Delete name) = delete_edit name.now
edit_by (edits.AddStore name bytes) = snapshot_edit name.now bytes

-- what keeps it from a plan
abbrev pub guard_by : Edit → Guard
guard_by (edits.Create name bytes) = no_guard
guard_by (edits.Resize name bytes) = settled_guard (nat_le bytes (2 ^ 40)) name.now
guard_by (edits.Delete name) = settled_guard true name.now
guard_by (edits.AddStore name bytes) = store_guard

-- the plan of these partitions, whose target stands apart or not
abbrev pub plan_at : (apart : Bool) → Image → List Part → Plan
plan_at apart image plan = record { apart = apart; entries = map (entry_on image) plan }

-- the layout that an edit gives of the tables of an update from this source, whose target stands
-- apart or not, or why there is none
abbrev pub layout_by : EditOf → (apart : Bool) → (max source : ℕ) → (s t : Table)
    → Result Layout EditFault
layout_by edit apart max source s t =
    if_fitting max (edit apart (other_slot source) (layout_of s) (layout_of t))

-- What an edit with this guard writes: a sector of the copies of the target's table, with its part
-- of the text of the table that the edit gives of those of source and target, whose extents are the
-- maximal runs of its partitions. Where no update is installed, where the guard keeps the edit from
-- the plan, and where it gives no table, nothing is written.
pub record IsOfEdit (d : Device) (guard : Guard) (edit : EditOf) (s : ℕ) (b : List ℕ)
    : Type 0 where
  pub source : Table
  pub target : Table
  pub tables : HasTables d source target
  pub free : (image : Image)
      → guard d.mark.slot (plan_at d.mark.apart image tables.old_plan) ≡ None
  pub layout : Layout
  pub gives : layout_by edit d.mark.apart d.geometry.max d.mark.slot source target ≡ Ok layout
  pub stands : IsTableText d.geometry.max (table_text (table_of layout)) (table_of layout)
  pub short : length (table_text (table_of layout)) ≤ d.geometry.max
  pub writes : IsOfTable d.geometry (other_slot d.mark.slot) (table_text (table_of layout)) s b
