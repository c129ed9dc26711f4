-- What making a device leaves.
use Rattle.std.specs.Prelude.{◌≡◌, ◌⊎◌, ℕ, List, Option, Some, None, Result, Ok, Err}
use Rattle.vab_disk.specs.Disk.{Image, Outcome}
use Rattle.vab_set.specs.declared.set.SetImage.{SetImage}
use Rattle.vab_device.specs.declared.fault.StartFault.{StartFault}
use Rattle.vab_device.specs.Reading.{device, IsIn}
use Rattle.vab_make.specs.declared.fault.MakeFault.{MakeFault}
use Rattle.vab_make.specs.declared.fault.MakeFault.TheVariants.{TooSmall, GroupLimit, NoRoom}
use Rattle.vab_make.specs.declared.fault.MakeFault.TheVariants.{TableFull, NoMemory, Disk}
use Rattle.vab_make.specs.Made.{made_device_of}

-- What was answered is the refusal, or there is none. Memory may be refused in place of either, and
-- the disk may fail where there is none.
abbrev pub Gives : {A : Type 0} → Result A MakeFault → Option MakeFault → Type 0
Gives (Ok done) said = said ≡ None
Gives (Err (TooSmall need have)) said = said ≡ Some (TooSmall need have)
Gives (Err (GroupLimit used limit)) said = said ≡ Some (GroupLimit used limit)
Gives (Err (NoRoom used cap)) said = said ≡ Some (NoRoom used cap)
Gives (Err (TableFull size max)) said = said ≡ Some (TableFull size max)
Gives (Err NoMemory) said = Unit {0}
Gives (Err (Disk fault)) said = said ≡ None

-- the disk has failed
abbrev pub IsOfDisk : MakeFault → Type 0
IsOfDisk (TooSmall need have) = ⊥
IsOfDisk (GroupLimit used limit) = ⊥
IsOfDisk (NoRoom used cap) = ⊥
IsOfDisk (TableFull size max) = ⊥
IsOfDisk NoMemory = ⊥
IsOfDisk (Disk fault) = Unit {0}

-- the image is no device
abbrev pub IsNone : ℕ → Image → Type 0
IsNone size image = (fault : StartFault) × (device size image ≡ Err fault)

-- the image is the made device
abbrev pub IsMade : List SetImage → ℕ → ℕ → ℕ → Image → Type 0
IsMade set limit max size image = IsIn size (made_device_of set limit max size) image

-- with nothing more told, the disk is as it was, or no device, or the made one
pub record LeavesMaking
    (told : List ℕ) (set : List SetImage) (limit max size : ℕ) (old : Image) (o : Outcome)
    : Type 0 where
  pub told_so_far : o.told ≡ told
  pub either : (o.image ≡ old) ⊎ (IsNone size o.image ⊎ IsMade set limit max size o.image)
