-- What keeps an edit from a plan whose target stands apart.
use Rattle.std.specs.Prelude.{ℕ, ◌^◌, Bool, true, false, not, ◌&&◌, nat_le, if◌then◌else◌, List}
use Rattle.std.specs.Prelude.{Option, Some, None, is_some}
use Rattle.vab_names.specs.Names.{is_full, base_of}
use Rattle.vab_builder.specs.declared.edit.Edit.{Edit}
use Rattle.vab_builder.specs.declared.edit.Edit.TheVariants.{Create, Resize, Delete, AddStore}
use Rattle.vab_model.specs.declared.command.Refusal.{Refusal}
use Rattle.vab_model.specs.declared.command.Refusal.TheVariants as refusals
use Rattle.vab_device.specs.declared.device.Part.{Part}
use Rattle.vab_device.specs.declared.device.PartImage.{PartImage}
use Rattle.vab_device.specs.declared.device.PartImage.TheVariants.{Kept, Declared, Written}
use Rattle.vab_edit.specs.Carried.{planned_named}

-- an image was written
abbrev pub is_written : PartImage → Bool
is_written Kept = false
is_written Declared = false
is_written (Written k es) = true

-- it was written in place: the partition has no store, and the target stands apart
abbrev pub is_settled : (apart : Bool) → Option Part → Bool
is_settled apart None = false
is_settled apart (Some p) = not (is_some p.store) && (apart && is_written p.image)

-- an edit of a partition of this whole name, which passes so far: its image was written in place
abbrev pub unless_settled : (apart passes : Bool) → (target : ℕ) → List ℕ → List Part
    → Option Refusal
unless_settled apart passes target name plan =
    if is_full target name && passes && is_settled apart (planned_named (base_of name) plan)
    then Some refusals.Written
    else None

-- by the edit: a new partition is kept from no plan, and a target that stands apart has no stores
abbrev pub kept_from : (apart : Bool) → (target : ℕ) → List Part → Edit → Option Refusal
kept_from apart target plan (Create name bytes) = None
kept_from apart target plan (Resize name bytes) =
    unless_settled apart (nat_le bytes (2 ^ 40)) target name.now plan
kept_from apart target plan (Delete name) = unless_settled apart true target name.now plan
kept_from apart target plan (AddStore name bytes) =
    if apart then Some refusals.InPlace else None

-- from the plan of a device, where there is one
abbrev pub kept_off : (apart : Bool) → (target : ℕ) → Option (List Part) → Edit → Option Refusal
kept_off apart target None edit = None
kept_off apart target (Some plan) edit = kept_from apart target plan edit
