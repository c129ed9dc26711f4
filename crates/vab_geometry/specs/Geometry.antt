-- What a geometry is, and its bytes (AOSP liblp, `LpMetadataGeometry`).
use Rattle.std.specs.Prelude.{◌≡◌, ℕ, ◌≤◌, ◌%◌, ◌^◌, List, ◌++◌, replicate, take}
use Rattle.std.specs.Int.{w32, to_le_bytes}
use Rattle.sha2.specs.Sha256.{sha256}
use Rattle.vab_geometry.specs.declared.geometry.Geometry.{Geometry}

-- the rules of its fields
pub record IsGeometry (g : Geometry) : Type 0 where
  pub sectors : g.max % 512 ≡ 0
  pub least : 512 ≤ g.max
  pub most : g.max ≤ 2 ^ 20
  pub two : 2 ≤ g.slots
  pub eight : g.slots ≤ 8

-- the magic number, and the structure's size
abbrev pub front_bytes : List ℕ
front_bytes = to_le_bytes w32 0x616C4467 ++ to_le_bytes w32 52

-- bytes of a copy of a table, slots, and bytes of a logical block
abbrev pub back_bytes : Geometry → List ℕ
back_bytes g = to_le_bytes w32 g.max ++ (to_le_bytes w32 g.slots ++ to_le_bytes w32 4096)

-- the sum of what stands before it and behind it, with zeros in its own place
unfoldable pub sum_around : List ℕ → List ℕ → List ℕ
sum_around front back = sha256 (front ++ (replicate 32 0 ++ back))

-- the 52 bytes of a geometry
abbrev pub geometry_bytes : Geometry → List ℕ
geometry_bytes g = front_bytes ++ (sum_around front_bytes (back_bytes g) ++ back_bytes g)

-- a sector's bytes stand for a geometry; the rest of the sector isn't read
abbrev pub Represents : List ℕ → Geometry → Type 0
Represents bytes g = take 52 bytes ≡ geometry_bytes g

-- the sector that is written: the rest is zeros
unfoldable pub geometry_sector : Geometry → List ℕ
geometry_sector g = geometry_bytes g ++ replicate 460 0
