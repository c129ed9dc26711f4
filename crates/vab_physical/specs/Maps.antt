-- The blocks of the physical partitions, each as its first sector: boot of slot a and of slot b,
-- and then vbmeta of both, one behind another from the end of `super` on.
use Rattle.std.specs.Prelude.{ℕ, ◌+◌, ◌*◌, ◌<◌, ◌≤◌, List, [], ◌∷◌, codes, length, slice_index}
use Rattle.vab_linear.specs.Map.{run_of}
use Rattle.vab_marks.specs.declared.physical.PhysicalSizes.{PhysicalSizes}
use Rattle.vab_store.specs.Layout.{AreDisjoint, IsApart, IsOnDisk}
use Rattle.vab_physical.specs.declared.maps.PhysicalMaps.{PhysicalMaps}

abbrev pub boot_text : List ℕ
boot_text = codes "boot"

abbrev pub vbmeta_text : List ℕ
vbmeta_text = codes "vbmeta"

-- a partition of so many blocks, slot a's from this sector on and slot b's behind it
abbrev pub maps_of : List ℕ → (first blocks : ℕ) → PhysicalMaps
maps_of name first blocks = record {
  name = name;
  a = run_of first blocks;
  b = run_of (first + 8 * blocks) blocks;
}

abbrev pub maps_behind : PhysicalSizes → (end : ℕ) → List PhysicalMaps
maps_behind s end =
    maps_of boot_text end s.boot ∷ maps_of vbmeta_text (end + 16 * s.boot) s.vbmeta ∷ []

-- The blocks stand behind the end of `super` on a disk of so many sectors, and no two have a sector
-- in common.
pub record IsBehind (end size : ℕ) (map : List ℕ) : Type 0 where
  pub behind : (i : ℕ) → i < length map → end ≤ slice_index map i
  pub on_disk : IsOnDisk map size
  pub apart : IsApart map

-- so do those of both slots, and no block is of both
pub record AreBehind (end size : ℕ) (m : PhysicalMaps) : Type 0 where
  pub a : IsBehind end size m.a
  pub b : IsBehind end size m.b
  pub apart : AreDisjoint m.a m.b

-- no block of the one partition is one of the other's
pub record AreApartFrom (m n : PhysicalMaps) : Type 0 where
  pub a_a : AreDisjoint m.a n.a
  pub a_b : AreDisjoint m.a n.b
  pub b_a : AreDisjoint m.b n.a
  pub b_b : AreDisjoint m.b n.b
