-- What the flash of a partition may write.
use Rattle.std.specs.Prelude.{◌≡◌, ◌⊎◌, ℕ, Bool, true, false, List, [], Option, Some, None}
use Rattle.vab_disk.specs.Disk.{Image}
use Rattle.vab_marks.specs.declared.status.StatusImage.{StatusImage}
use Rattle.vab_marks.specs.Status.{status_spelling}
use Rattle.vab_statuses.specs.Statuses.{IsOfStatuses, IsFirstFree}
use Rattle.vab_device.specs.declared.device.Part.{Part}
use Rattle.vab_device.specs.declared.device.Device.{Device}
use Rattle.vab_device.specs.Reading.{IsOfBlocks}
use Rattle.vab_flash.specs.Place.{HasPlace, planned_at}

-- the blocks that the image of a partition goes into, by its store and its own blocks
abbrev pub blocks_by : (apart : Bool) → Option (List ℕ) → List ℕ → List ℕ
blocks_by apart (Some store) own = store
blocks_by true None own = own
blocks_by false None own = []

abbrev pub blocks_for : (apart : Bool) → Part → List ℕ
blocks_for apart p = blocks_by apart p.store p.map

-- A sector of the statuses with a status of this partition.
pub record IsStatusOf (name : List ℕ) (s : ℕ) (bytes : List ℕ) : Type 0 where
  pub there : IsOfStatuses s
  pub image : StatusImage
  pub is : bytes ≡ status_spelling (record { name = name; image = image })

-- A sector of the blocks of that partition's store, or of its own where it has none and the target
-- stands apart; or one of the statuses with a status of it. Where no partition of this name is
-- planned, nothing is written.
pub record IsOfFlash (d : Device) (name : List ℕ) (s : ℕ) (bytes : List ℕ) : Type 0 where
  pub place : ℕ
  pub has : HasPlace d name place
  pub writes : IsOfBlocks (blocks_for d.mark.apart (planned_at d place)) s
      ⊎ IsStatusOf name s bytes

-- Of the sectors of the statuses the first that is all zeros, and any other sector.
abbrev pub IsFreeOrOther : Image → ℕ → Type 0
IsFreeOrOther image s = IsOfStatuses s → IsFirstFree image (Some s)
