-- What each step of making a device leaves on the disk.
use Rattle.std.specs.Prelude.{◌≡◌, ◌≢◌, ◌⊎◌, ℕ, ◌+◌, ◌-◌, ◌*◌, ◌<◌, ◌≤◌, List, ◌++◌, length, take}
use Rattle.std.specs.Prelude.{drop, slice_index_or, replicate, Ok}
use Rattle.vab_disk.specs.Disk.{Image}
use Rattle.vab_gate.specs.Gate.{sectors_at}
use Rattle.vab_space.specs.Space.{blocks_of}
use Rattle.vab_bootctl.specs.Control.{control_of, KeepsRest}
use Rattle.vab_geometry.specs.Reading.{geometry_of}
use Rattle.vab_lpstore.specs.Layout.{BothHold}
use Rattle.vab_set.specs.declared.set.SetImage.{SetImage}
use Rattle.vab_make.specs.Made.{set_blocks, made_geometry, made_control}

-- ---- images

-- the k-th 4096 bytes, filled with zeros
abbrev pub block_of : List ℕ → ℕ → List ℕ
block_of bytes k =
    take 4096 (drop (4096 * k) bytes)
    ++ replicate (4096 - length (take 4096 (drop (4096 * k) bytes))) 0

-- n blocks from this sector on are those of the bytes
abbrev pub HoldsBlocks : ℕ → ℕ → List ℕ → Image → Type 0
HoldsBlocks n at bytes image = (k : ℕ) → k < n → sectors_at 8 image (at + 8 * k) ≡ block_of bytes k

-- the first n images stand one after another from sector 6144 on, each filled with zeros to whole
-- blocks
abbrev pub HoldsImages : ℕ → List SetImage → Image → Type 0
HoldsImages n set image =
    (j : ℕ) (d : SetImage)
    → j < n
    → HoldsBlocks (blocks_of (slice_index_or set j d).size) (6144 + 8 * set_blocks (take j set))
    (slice_index_or set j d).bytes image

-- all sectors below this one stay
abbrev pub SameBelow : ℕ → Image → Image → Type 0
SameBelow at old new = (s : ℕ) → s < at → new s ≡ old s

-- and but for n sectors from this one on
abbrev pub SameAround : ℕ → ℕ → Image → Image → Type 0
SameAround at n old new = (s : ℕ) → (s < at) ⊎ (at + n ≤ s) → new s ≡ old s

-- ---- boot control

-- what the sum covers is zeros
abbrev pub blanked : List ℕ → List ℕ
blanked sector = replicate 28 0 ++ drop 28 sector

-- Sector 4 is the boot control, and its bytes without a field are zeros before the sum, and stay
-- behind it. All other sectors stay.
pub record HasControl (old new : Image) : Type 0 where
  pub control : control_of (new 4) ≡ Ok made_control
  pub rest : KeepsRest (blanked (old 4)) (new 4)
  pub others : (s : ℕ) → s ≢ 4 → new s ≡ old s

-- ---- the places

-- both copies of the geometry and of slot 0's table
pub record HasPlaces (max : ℕ) (text : List ℕ) (image : Image) : Type 0 where
  pub primary : geometry_of (image 4104) ≡ Ok (made_geometry max)
  pub backup : geometry_of (image 4112) ≡ Ok (made_geometry max)
  pub table : BothHold (made_geometry max) 0 text image

-- ---- all but the mark

pub record HasAll (set : List SetImage) (max : ℕ) (text : List ℕ) (image : Image) : Type 0 where
  pub places : HasPlaces max text image
  pub images : HoldsImages (length set) set image
  pub control : control_of (image 4) ≡ Ok made_control
