-- Boot control, before an update is written.
use Rattle.std.specs.Prelude.{◌≡◌, ℕ, ◌==◌, if◌then◌else◌, false, List, Ok}
use Rattle.vab_disk.specs.Disk.{Image, set_sector}
use Rattle.vab_bootctl.specs.declared.slots.Info.{Info}
use Rattle.vab_bootctl.specs.declared.slots.Control.{Control}
use Rattle.vab_bootctl.specs.Control.{control_of, KeepsRest}

-- what is said of a slot that is never booted
abbrev pub no_info : Info
no_info = record { priority = 0; tries = 0; successful = false }

-- with nothing said of this slot
unfoldable pub cleared_of : Control → ℕ → Control
cleared_of c slot = if slot == 0 then record c { a = no_info } else record c { b = no_info }

-- the bytes of a sector have this boot control, and its other bits as the old ones have them
pub record IsWritten (c : Control) (old new : List ℕ) : Type 0 where
  pub control : control_of new ≡ Ok c
  pub rest : KeepsRest old new

-- The new image is the old one with a sector of this boot control in its place; the bits of the
-- sector that no field has stay.
abbrev pub HasControl : Control → Image → Image → Type 0
HasControl c old new =
    (sector : List ℕ) × IsWritten c (old 4) sector × (new ≡ set_sector old 4 sector)

-- The boot control's sector with this boot control. Where the contents are told, its other bits are
-- those of these bytes.
pub record IsControl (told : Type 0) (c : Control) (old : List ℕ) (s : ℕ) (b : List ℕ) : Type 0
  where
    pub at : s ≡ 4
    pub control : control_of b ≡ Ok c
    pub rest : told → KeepsRest old b
