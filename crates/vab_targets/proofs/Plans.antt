-- What a begin and the edits make of a plan: names, groups and numbers alone.
use Rattle.std.specs.Prelude.{◌≡◌, ℕ, Bool, true, false, List, [], ◌∷◌, ◌++◌, Option, Some}
use Rattle.vab_disk.specs.Disk.{Image}
use Rattle.vab_names.specs.Names.{base_of}
use Rattle.vab_space.specs.Space.{blocks_of}
use Rattle.vab_model.specs.declared.state.GroupLimit.{GroupLimit}
use Rattle.vab_model.specs.declared.state.Image.{Image as ImageOfSlot}
use Rattle.vab_model.specs.declared.state.Plan.{Plan}
use Rattle.vab_model.specs.declared.state.PlanEntry.{PlanEntry}
use Rattle.vab_model.specs.declared.state.Phase.TheVariants.{Installing}
use Rattle.vab_model.specs.declared.state.State.{State}
use Rattle.vab_model.specs.declared.command.Reply.TheVariants as replies
use Rattle.vab_model.specs.Commands.{Command, Begin, Factory, Create}
use Rattle.vab_model.specs.Commands.{Resize, Delete, Snapshot}
use Rattle.vab_model.specs.Effects.{after_of}
use Rattle.vab_model.specs.Kinds.{is_edit}
use Rattle.vab_model.specs.State.{images_at}
use Rattle.vab_model.specs.Plans.{begun_plan, created_entry, resized_entry, stored_entry}
use Rattle.vab_model.specs.Plans.{at_entry, without_entry, with_entries}
use Rattle.vab_device.specs.Mounted.{Mounted}
use Rattle.vab_device.specs.Reading.{IsIn}
use Rattle.vab_device.specs.Updates.{effect_on}
use Rattle.vab_targets.specs.Sectors.{HasWholeSectors}

-- what begins an installation, whose target stands apart or not
abbrev pub begin_of : (apart : Bool) → Command
begin_of true = Factory
begin_of false = Begin

-- what an edit makes of a plan's entries, where the update has these groups
abbrev pub edited_entries : List GroupLimit → Command → List PlanEntry → List PlanEntry
edited_entries groups (Create name bytes) entries =
    entries ++ created_entry groups (base_of name) bytes ∷ []
edited_entries groups (Resize name bytes) entries =
    at_entry (base_of name) (resized_entry (blocks_of bytes)) entries
edited_entries groups (Delete name) entries = without_entry (base_of name) entries
edited_entries groups (Snapshot name bytes) entries =
    at_entry (base_of name) (stored_entry bytes) entries
edited_entries groups _ entries = entries

abbrev pub edited_plan : List GroupLimit → Command → Plan → Plan
edited_plan groups c plan = with_entries plan (edited_entries groups c plan.entries)

-- ---- laws

-- the state where an update from this source has this plan
abbrev pub with_plan : State → (source : ℕ) → Plan → State
with_plan s source plan = record s { phase = Installing source plan }

-- On a disk of whole sectors that is a device, where a begin is done: the current slot has images,
-- and the plan begins with them, or where the target stands apart with none.
abbrev pub BeginKeepsImages : Type 0
BeginKeepsImages =
    (size : ℕ) (image : Image) (m : Mounted) (staged : Option (List ℕ)) (apart : Bool)
    → HasWholeSectors size image
    → IsIn size m image
    → (effect_on m staged (begin_of apart)).reply ≡ replies.Done
    → (images : List ImageOfSlot)
    × (images_at m.state m.state.control.current ≡ Some images)
    × ((after_of m (effect_on m staged (begin_of apart))).state
    ≡ with_plan m.state m.state.control.current (begun_plan apart images))

-- On a disk of whole sectors that is a device, where an edit is done.
abbrev pub EditsFollowSizes : Type 0
EditsFollowSizes =
    (size : ℕ) (image : Image) (m : Mounted) (staged : Option (List ℕ)) (c : Command)
    (source : ℕ) (plan : Plan)
    → HasWholeSectors size image
    → IsIn size m image
    → m.state.phase ≡ Installing source plan
    → is_edit c ≡ true
    → (effect_on m staged c).reply ≡ replies.Done
    → (after_of m (effect_on m staged c)).state
    ≡ with_plan m.state source (edited_plan m.state.groups c plan)
