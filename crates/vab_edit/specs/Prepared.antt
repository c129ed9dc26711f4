-- A table that an edit gives, ready to be written.
use Rattle.std.specs.Prelude.{◌≡◌, ◌⊎◌, ℕ, ◌<◌, ◌≤◌, ◌^◌, List, [], length, map, Option, Some, None}
use Rattle.std.specs.Prelude.{Ok, Err, ◌==◌, if◌then◌else◌, Bool, true, Result}
use Rattle.vab_tables.specs.declared.table.Table.{Table}
use Rattle.vab_tables.specs.Rules.{KeepsRules}
use Rattle.vab_tables.specs.Spelling.{table_size_of, table_text}
use Rattle.vab_tables.specs.Text.{IsTableText}
use Rattle.vab_layout.specs.declared.layout.Layout.{Layout}
use Rattle.vab_layout.specs.Layout.{layout_of, table_of}
use Rattle.vab_layout.specs.Slots.{other_slot, twins_by, IsOwn, IsTargetBeside, groups_of_slot}
use Rattle.vab_builder.specs.declared.edit.Edit.{Edit}
use Rattle.vab_builder.specs.declared.fault.EditFault.{EditFault}
use Rattle.vab_builder.specs.Asked.{edited_name, KeepsOthers}
use Rattle.vab_builder.specs.Edits.{changed_beside, edited_beside}
use Rattle.vab_model.specs.declared.command.Refusal.{Refusal}
use Rattle.vab_model.specs.declared.command.Refusal.TheVariants.{NoMemory, NotInstalling}
use Rattle.vab_device.specs.declared.device.Part.{Part}
use Rattle.vab_device.specs.declared.device.Device.{Device}
use Rattle.vab_device.specs.Phases.{plan_of}
use Rattle.vab_device.specs.Updates.{refusal_of, wants_for}
use Rattle.vab_edit.specs.Carried.{carried}
use Rattle.vab_edit.specs.Guards.{kept_off}
use Rattle.vab_edit.specs.Tables.{HasTables}

-- The tables of an update that an edit is tried on, whose target stands apart or not: the most
-- bytes of a table's text, the slot of the source, its table and the target's.
pub record MayBeEdited (apart : Bool) (max source : ℕ) (s t : Table) : Type 0 where
  pub slot : source < 2
  pub most : max ≤ 2 ^ 20
  pub source_keeps : KeepsRules s
  pub target_keeps : KeepsRules t
  pub source_small : table_size_of s < 2 ^ 24
  pub target_small : table_size_of t < 2 ^ 24
  pub own : IsOwn source (layout_of s).parts
  pub target : IsTargetBeside (other_slot source)
      (twins_by apart (layout_of s).parts)
      (layout_of s).parts
      (layout_of t).parts
  pub device : s.devices ≡ t.devices

-- The table that an edit gives beside the source's: its layout, whose maximal runs are its extents,
-- its rules, and what it has of the table before it.
pub record IsEdited (apart : Bool) (max source : ℕ) (edit : Edit) (s t u : Table) : Type 0 where
  pub rules : KeepsRules u
  pub size : table_size_of u ≤ max
  pub layout : changed_beside (other_slot source)
      (twins_by apart (layout_of s).parts)
      (layout_of s)
      (layout_of t)
      edit
      ≡ Ok (layout_of u)
  pub runs : u ≡ table_of (layout_of u)
  pub others : KeepsOthers (edited_name edit) (layout_of t) (layout_of u)
  pub target : IsTargetBeside (other_slot source)
      (twins_by apart (layout_of s).parts)
      (layout_of s).parts
      (layout_of u).parts
  pub device : u.devices ≡ t.devices
  pub groups : groups_of_slot (other_slot source) u.groups
      ≡ groups_of_slot (other_slot source) t.groups

-- with its text, and its plan with nothing written
pub record IsGiven
    (apart : Bool)
    (max source : ℕ)
    (edit : Edit)
    (s t u : Table)
    (text : List ℕ)
    (plan : List Part) : Type 0 where
  pub is_edited : IsEdited apart max source edit s t u
  pub gives : edited_beside (other_slot source)
      (twins_by apart (layout_of s).parts)
      (layout_of s)
      (layout_of t)
      max
      edit
      ≡ Ok (layout_of u)
  pub text_is : text ≡ table_text u
  pub is_text : IsTableText max text u
  pub fits : length text ≤ max
  pub is_plan : plan ≡ plan_of (other_slot source) (layout_of u) []

-- what an edit of a device's tables gives, from whose plan nothing keeps it
pub record IsPrepared (d : Device) (edit : Edit) (u : Table) (text : List ℕ) (plan : List Part)
    : Type 0 where
  pub s : Table
  pub t : Table
  pub tables : HasTables d s t
  pub free : kept_off d.mark.apart (other_slot d.mark.slot) d.plan edit ≡ None
  pub given : IsGiven d.mark.apart d.geometry.max d.mark.slot edit s t u text plan

-- the refusal of a definition, or want of memory where that may come in its place
abbrev pub RefusesBy : Result Layout EditFault → Refusal → Type 0
RefusesBy said r =
    ((r ≡ NoMemory) × (wants_for said ≡ true))
    ⊎ ((f : EditFault) × (said ≡ Err f) × (r ≡ refusal_of f))

-- why an edit of a device's tables is refused, from whose plan nothing keeps it
pub record IsRefused (d : Device) (edit : Edit) (r : Refusal) : Type 0 where
  pub s : Table
  pub t : Table
  pub tables : HasTables d s t
  pub free : kept_off d.mark.apart (other_slot d.mark.slot) d.plan edit ≡ None
  pub by : RefusesBy
      (edited_beside (other_slot d.mark.slot)
      (twins_by d.mark.apart (layout_of s).parts)
      (layout_of s)
      (layout_of t)
      d.geometry.max
      edit)
      r

-- or something keeps it from the plan, or there is no update
abbrev pub Refuses : Device → Edit → Refusal → Type 0
Refuses d edit r =
    ((d.plan ≡ None) × (r ≡ NotInstalling))
    ⊎ (kept_off d.mark.apart (other_slot d.mark.slot) d.plan edit ≡ Some r)
    ⊎ IsRefused d edit r

-- the device with another table and plan of the target in this slot
abbrev pub with_target : Device → (target : ℕ) → Table → List Part → Device
with_target d target t plan =
    if target == 0
    then record d { table_a = Some t; plan = Some plan }
    else record d { table_b = Some t; plan = Some plan }

-- a plan with what the one before it has written
abbrev pub carried_over : Option (List Part) → List Part → List Part
carried_over None plan = plan
carried_over (Some olds) plan = map (carried olds) plan
