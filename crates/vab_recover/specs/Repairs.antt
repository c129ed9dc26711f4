-- What a repair of a device's tables may write.
use Rattle.std.specs.Prelude.{◌≡◌, ◌⊎◌, ℕ, List, [], ◌∷◌}
use Rattle.vab_disk.specs.Disk.{Image}
use Rattle.vab_geometry.specs.declared.geometry.Geometry.{Geometry}
use Rattle.vab_lpstore.specs.declared.loaded.Loaded.{Loaded}
use Rattle.vab_lpstore.specs.Layout.{primary_bytes, backup_bytes, BothHold}
use Rattle.vab_lpstore.specs.Loading.{IsLoaded}
use Rattle.vab_lpstore.specs.Storing.{IsOfRepair}
use Rattle.vab_device.specs.Phases.{phase_at}
use Rattle.vab_device.specs.Reading.{Read, Reads}

-- the copies of the slot's table are loaded so
abbrev pub IsLoadedAt : Geometry → ℕ → Image → Loaded → Type 0
IsLoadedAt g slot image l =
    IsLoaded g.max (primary_bytes g slot image) (backup_bytes g slot image) l

-- one of these slots
abbrev pub IsOneOf : ℕ → List ℕ → Type 0
IsOneOf slot [] = ⊥
IsOneOf slot (s ∷ ss) = (slot ≡ s) ⊎ IsOneOf slot ss

-- What a repair may write: of a table that is read, the one copy which doesn't hold its text.
pub record IsRepair (size : ℕ) (image : Image) (s : ℕ) (b : List ℕ) : Type 0 where
  pub read : Read
  pub reads : Reads size read image
  pub slot : ℕ
  pub is_read : IsOneOf slot (phase_at read.mark).tables
  pub table : Loaded
  pub loaded : IsLoadedAt read.geometry slot image table
  pub writes : IsOfRepair table.primary table.backup read.geometry slot table.text s b

-- both copies of each table that is read hold its text
abbrev pub BothCopiesHold : ℕ → Image → Type 0
BothCopiesHold size image = (r : Read) (slot : ℕ) (l : Loaded)
    → Reads size r image
    → IsOneOf slot (phase_at r.mark).tables
    → IsLoadedAt r.geometry slot image l
    → BothHold r.geometry slot l.text image
