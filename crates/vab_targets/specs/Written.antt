-- What a factory install leaves: the images that were written, and no other.
use Rattle.std.specs.Prelude.{◌≡◌, ℕ, true, List, [], map, Option, Some, All}
use Rattle.vab_disk.specs.Disk.{Image}
use Rattle.vab_layout.specs.Slots.{other_slot}
use Rattle.vab_model.specs.declared.state.Image.{Image as ImageOfSlot}
use Rattle.vab_model.specs.declared.state.PlanImage.{PlanImage}
use Rattle.vab_model.specs.declared.state.PlanImage.TheVariants.{Kept, Declared, Written}
use Rattle.vab_model.specs.declared.state.Plan.{Plan}
use Rattle.vab_model.specs.declared.state.PlanEntry.{PlanEntry}
use Rattle.vab_model.specs.declared.state.Phase.TheVariants.{Installing}
use Rattle.vab_model.specs.declared.command.Reply.TheVariants as replies
use Rattle.vab_model.specs.Commands.{Finish}
use Rattle.vab_model.specs.Effects.{after_of}
use Rattle.vab_model.specs.State.{images_at}
use Rattle.vab_device.specs.Mounted.{Mounted}
use Rattle.vab_device.specs.Reading.{IsIn}
use Rattle.vab_device.specs.Updates.{effect_on}
use Rattle.vab_targets.specs.Sectors.{HasWholeSectors}

-- it isn't the source's
abbrev pub IsOwnImage : PlanImage → Type 0
IsOwnImage Kept = ⊥
IsOwnImage Declared = Unit {0}
IsOwnImage (Written bytes exceptions) = Unit {0}

-- On a disk of whole sectors that is a device: where the target stands apart, its plan keeps no
-- image of the source.
abbrev pub ApartKeepsNothing : Type 0
ApartKeepsNothing =
    (size : ℕ) (image : Image) (m : Mounted) (source : ℕ) (plan : Plan)
    → HasWholeSectors size image
    → IsIn size m image
    → m.state.phase ≡ Installing source plan
    → plan.apart ≡ true
    → All (λ (e : PlanEntry). IsOwnImage e.image) plan.entries

-- what was written to a planned partition
abbrev pub bytes_written : PlanImage → List ℕ
bytes_written Kept = []
bytes_written Declared = []
bytes_written (Written bytes exceptions) = bytes

abbrev pub written_image : PlanEntry → ImageOfSlot
written_image e = record { name = e.name; group = e.group; bytes = bytes_written e.image }

-- There the end of the installation gives the target what was written.
abbrev pub FinishGivesWritten : Type 0
FinishGivesWritten =
    (size : ℕ) (image : Image) (m : Mounted) (staged : Option (List ℕ)) (source : ℕ) (plan : Plan)
    → HasWholeSectors size image
    → IsIn size m image
    → m.state.phase ≡ Installing source plan
    → plan.apart ≡ true
    → (effect_on m staged Finish).reply ≡ replies.Done
    → images_at (after_of m (effect_on m staged Finish)).state (other_slot source)
    ≡ Some (map written_image plan.entries)
