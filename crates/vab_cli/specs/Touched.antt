-- The sectors that a verb may write.
use Rattle.std.specs.Prelude.{◌≡◌, ◌⊎◌, ℕ, ◌==◌, if◌then◌else◌, List, [], Option, Some, None}
use Rattle.std.specs.Prelude.{is_some}
use Rattle.vab_disk.specs.Disk.{Image, IsAt}
use Rattle.vab_disk.specs.Calls.{SameBut}
use Rattle.vab_bootctl.specs.declared.slots.Control.{Control}
use Rattle.vab_marks.specs.declared.mark.MarkPhase.TheVariants as marks
use Rattle.vab_marks.specs.declared.mark.UpdateMark.{UpdateMark}
use Rattle.vab_marks.specs.Mark.{mark_spelling, rephased}
use Rattle.vab_model.specs.declared.state.Phase.{Phase}
use Rattle.vab_model.specs.declared.state.Phase.TheVariants.{Idle, Installing, Staged, Merging}
use Rattle.vab_model.specs.Commands.{Command}
use Rattle.vab_model.specs.Commands.{Cancel, BeginMerge}
use Rattle.vab_model.specs.Commands.{Merge}
use Rattle.vab_device.specs.declared.device.Device.{Device}
use Rattle.vab_device.specs.Mounted.{Mounted}
use Rattle.vab_device.specs.Reading.{Represents}
use Rattle.vab_recover.specs.Opening.{IsOfOpening}
use Rattle.vab_make.specs.Making.{IsMade}
use Rattle.vab_make.specs.Touched.{IsOfMaking}
use Rattle.vab_set.specs.declared.set.SetImage.{SetImage}
use Rattle.vab_manager.specs.Controls.{IsOfSlots}
use Rattle.vab_merging.specs.GateWrites.{IsOfMergeBegun}
use Rattle.vab_merging.specs.Writes.{IsOfMerge}

-- the source of an update that may be dropped, where this slot was booted last
abbrev pub dropped_from : (current : ℕ) → Phase → Option ℕ
dropped_from current Idle = None
dropped_from current (Installing source plan) = Some source
dropped_from current (Staged source left) = if current == source then Some source else None
dropped_from current (Merging target left) = None

-- What a cancel writes: the mark that is kept, of its source, with no update. Where none may be
-- dropped nothing is written.
pub record IsDropped (m : Mounted) (s : ℕ) (bytes : List ℕ) : Type 0 where
  pub source : ℕ
  pub is : dropped_from m.state.control.current m.state.phase ≡ Some source
  pub kept : UpdateMark
  pub of : kept.slot ≡ source
  pub mark : IsAt 2048 (mark_spelling (rephased marks.Idle kept)) s bytes

-- What the command of a verb that isn't of a merge writes on a device whose boot control is this
-- one, in a sector with these bytes: the boot control that the boot rules make of it, of both
-- slots; a cancel the mark.
abbrev pub IsOfItem : Mounted → Control → Command → List ℕ → ℕ → List ℕ → Type 0
IsOfItem m boot c old s bytes =
    IsOfSlots boot (is_some m.state.a) (is_some m.state.b) old c s bytes
    ⊎ ((c ≡ Cancel) × IsDropped m s bytes)

-- What a command of a merge writes: the begin its mark; some turns the blocks of exceptions and
-- their entries, and the mark that all are merged. The others aren't of a merge.
abbrev pub IsOfMerging : Device → Command → ℕ → List ℕ → Type 0
IsOfMerging d BeginMerge s bytes = IsOfMergeBegun d s bytes
IsOfMerging d (Merge blocks) s bytes = IsOfMerge d blocks s bytes
IsOfMerging d _ s bytes = ⊥

-- either, where this device is kept
abbrev pub IsOfDone : Device → Mounted → Control → Command → List ℕ → ℕ → List ℕ → Type 0
IsOfDone d m boot c old s bytes = IsOfItem m boot c old s bytes ⊎ IsOfMerging d c s bytes

-- What is written so on the device of a disk, once it is opened.
pub record IsServed
    (W : Device → List ℕ → ℕ → List ℕ → Type 0)
    (size : ℕ)
    (image : Image)
    (s : ℕ)
    (bytes : List ℕ) : Type 0 where
  pub device : Device
  pub opened : Image
  pub opens : SameBut (IsOfOpening size image) image opened
  pub represents : Represents device size opened
  pub writes : W device (image 4) s bytes

-- what a command of a merge writes there
abbrev pub IsMergedThere : ℕ → Image → Command → ℕ → List ℕ → Type 0
IsMergedThere size image c = IsServed (λ d old. IsOfMerging d c) size image

-- What a verb that is a command writes: what opening may write, and what its command does.
abbrev pub IsOfVerb : ℕ → Image → Mounted → Control → Command → ℕ → List ℕ → Type 0
IsOfVerb size image m boot c s bytes =
    IsOfOpening size image s bytes
    ⊎ IsOfItem m boot c (image 4) s bytes
    ⊎ IsMergedThere size image c s bytes

-- What a session writes, whose commands write so: that, and what opening may write.
abbrev pub IsOfServing : (Device → List ℕ → ℕ → List ℕ → Type 0)
    → ℕ
    → Image
    → ℕ
    → List ℕ
    → Type 0
IsOfServing W size image s bytes = IsOfOpening size image s bytes ⊎ IsServed W size image s bytes

-- What commands write on the device of a set, which was made on the disk.
pub record IsServedMade
    (set : List SetImage)
    (W : Device → List ℕ → ℕ → List ℕ → Type 0)
    (size : ℕ)
    (s : ℕ)
    (bytes : List ℕ) : Type 0 where
  pub made : Image
  pub is : IsMade set 0 65536 size made
  pub serves : IsServed W size made s bytes

-- What commands on a device that is made first write: what its making does, and that.
abbrev pub IsOfMade : List SetImage
    → (Device → List ℕ → ℕ → List ℕ → Type 0)
    → ℕ
    → ℕ
    → List ℕ
    → Type 0
IsOfMade set W size s bytes = IsOfMaking set 65536 s ⊎ IsServedMade set W size s bytes

-- what a session over a fresh device writes, which is that of the empty set
abbrev pub IsOfFresh : (Device → List ℕ → ℕ → List ℕ → Type 0) → ℕ → ℕ → List ℕ → Type 0
IsOfFresh = IsOfMade []
