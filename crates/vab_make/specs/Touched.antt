-- The sectors that making a device touches.
use Rattle.std.specs.Prelude.{◌≡◌, ◌⊎◌, ℕ, ◌+◌, ◌*◌, ◌/◌, List}
use Rattle.vab_disk.specs.Calls.{IsBetween}
use Rattle.vab_set.specs.declared.set.SetImage.{SetImage}
use Rattle.vab_make.specs.Made.{set_blocks}

-- the blocks of both geometries
abbrev pub IsOfGeometry : ℕ → Type 0
IsOfGeometry s = IsBetween 4104 4120 s

-- both copies of the table of slot a, of so many bytes at most
pub data IsOfCopies (max s : ℕ) : Type 0 where
  of_primary : IsBetween 4120 (4120 + max / 512) s → IsOfCopies max s
  of_backup : IsBetween (4120 + 2 * (max / 512)) (4120 + 3 * (max / 512)) s → IsOfCopies max s

abbrev pub IsOfPlaces : ℕ → ℕ → Type 0
IsOfPlaces max s = IsOfGeometry s ⊎ IsOfCopies max s

-- all but the mark
pub data IsOfContents (set : List SetImage) (max s : ℕ) : Type 0 where
  of_control : s ≡ 4 → IsOfContents set max s
  of_places : IsOfPlaces max s → IsOfContents set max s
  of_images : IsBetween 6144 (6144 + 8 * set_blocks set) s → IsOfContents set max s

-- The boot control, the mark, the geometries, the table of slot a, and the blocks of the images.
abbrev pub IsOfMaking : List SetImage → ℕ → ℕ → Type 0
IsOfMaking set max s = (s ≡ 2048) ⊎ IsOfContents set max s
