-- A slot keeps its images until a merge from it is begun, or it is wiped.
use Rattle.std.specs.Prelude.{◌≡◌, ◌⊎◌, ℕ, ◌<◌, List, Some}
use Rattle.vab_disk.specs.Disk.{Image}
use Rattle.vab_layout.specs.Slots.{other_slot}
use Rattle.vab_model.specs.declared.state.Image.{Image as ImageOfSlot}
use Rattle.vab_model.specs.declared.state.Phase.{Phase}
use Rattle.vab_model.specs.declared.state.Phase.TheVariants.{Idle, Installing, Staged, Merging}
use Rattle.vab_model.specs.State.{images_at}
use Rattle.vab_device.specs.Mounted.{Mounted}
use Rattle.vab_device.specs.Reading.{IsIn}
use Rattle.vab_session.specs.Alone.{IsAlone, IsWiped, Finds}

-- an update is ready that was installed from this slot
abbrev pub IsStagedFrom : (slot : ℕ) → Phase → Type 0
IsStagedFrom slot Idle = ⊥
IsStagedFrom slot (Installing source plan) = ⊥
IsStagedFrom slot (Staged source left) = source ≡ slot
IsStagedFrom slot (Merging target left) = ⊥

-- The same, and the slot has these images.
pub record IsReadyFrom (slot : ℕ) (images : List ImageOfSlot) (m : Mounted) : Type 0 where
  pub below : slot < 2
  pub has : images_at m.state slot ≡ Some images
  pub ready : IsStagedFrom slot m.state.phase

-- The slot alone has images, or is the one that a ready update was installed from: whatever the
-- slot that is booted, these are the images to go back to.
abbrev pub HasKept : (slot : ℕ) → List ImageOfSlot → Mounted → Type 0
HasKept slot images m = IsAlone slot images m ⊎ IsReadyFrom slot images m

-- the update from this slot is merged
abbrev pub IsMergedFrom : (slot : ℕ) → Phase → Type 0
IsMergedFrom slot Idle = ⊥
IsMergedFrom slot (Installing source plan) = ⊥
IsMergedFrom slot (Staged source left) = ⊥
IsMergedFrom slot (Merging target left) = target ≡ other_slot slot

-- on one of these devices it is
abbrev pub FindsMergedFrom : (slot : ℕ) → List Mounted → Type 0
FindsMergedFrom slot = Finds (λ m. IsMergedFrom slot m.state.phase)

-- these images of the slot are given up: the update from it is merged, or it was wiped
abbrev pub AreGone : (slot : ℕ) → List ImageOfSlot → Mounted → Type 0
AreGone slot images m = IsMergedFrom slot m.state.phase ⊎ IsWiped slot images m

-- on one of these devices they are
abbrev pub FindsGone : (slot : ℕ) → List ImageOfSlot → List Mounted → Type 0
FindsGone slot images = Finds (AreGone slot images)

-- On the disk the slot has these images.
pub record StandsKept
    (size slot : ℕ)
    (images : List ImageOfSlot)
    (image : Image) : Type 0 where
  pub mounted : Mounted
  pub is : IsIn size mounted image
  pub has : images_at mounted.state slot ≡ Some images
  pub kept : HasKept slot images mounted
