-- Where the copies of a slot's table stand: behind the geometries, first the primary tables of all
-- slots and then the backups.
use Rattle.std.specs.Prelude.{◌≡◌, ℕ, ◌+◌, ◌*◌, ◌/◌, List, length, take, max}
use Rattle.vab_disk.specs.Disk.{Image}
use Rattle.vab_gate.specs.Gate.{sectors_at}
use Rattle.vab_geometry.specs.declared.geometry.Geometry.{Geometry}

-- sectors of a copy
abbrev pub copy_sectors : Geometry → ℕ
copy_sectors g = g.max / 512

-- the first disk sector of a slot's primary table, at super byte 12288 + slot * max
unfoldable pub primary_of : Geometry → ℕ → ℕ
primary_of g slot = 4120 + slot * copy_sectors g

-- and of its backup, at super byte 12288 + (slots + slot) * max
unfoldable pub backup_of : Geometry → ℕ → ℕ
backup_of g slot = 4120 + (g.slots + slot) * copy_sectors g

-- the bytes of each
abbrev pub primary_bytes : Geometry → ℕ → Image → List ℕ
primary_bytes g slot image = sectors_at (copy_sectors g) image (primary_of g slot)

abbrev pub backup_bytes : Geometry → ℕ → Image → List ℕ
backup_bytes g slot image = sectors_at (copy_sectors g) image (backup_of g slot)

-- sectors that a text of so many bytes takes, at least one
unfoldable pub text_sectors : ℕ → ℕ
text_sectors bytes = max 1 ((bytes + 511) / 512)

-- a copy's bytes begin with a text
abbrev pub Begins : List ℕ → List ℕ → Type 0
Begins bytes text = take (length text) bytes ≡ text

-- both copies of a slot's table do
pub record BothHold (g : Geometry) (slot : ℕ) (text : List ℕ) (image : Image) : Type 0 where
  pub primary : Begins (primary_bytes g slot image) text
  pub backup : Begins (backup_bytes g slot image) text
