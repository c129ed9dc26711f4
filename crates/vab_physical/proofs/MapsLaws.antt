-- The physical partitions stand behind `super`, on the disk, and apart from one another.
use Rattle.std.proofs.Common.{ℕ, ◌+◌, ◌*◌, ◌≤◌, ◌<◌, List, length, inl, refl, arith}
use Rattle.std.specs.Prelude.{slice_index}
use Rattle.vab_linear.specs.Map.{run_of}
use Rattle.vab_linear.proofs.MapLaws.{length-run_of, run_of-at}
use Rattle.vab_marks.specs.declared.physical.PhysicalSizes.{PhysicalSizes}
use Rattle.vab_store.specs.Layout.{AreApart}
use Rattle.vab_store.proofs.PartLaws.{run_on_disk, run_apart, runs_disjoint}
use Rattle.vab_physical.specs.Maps.{maps_of, boot_text, vbmeta_text, IsBehind}
use Rattle.vab_physical.specs.Maps.{AreBehind, AreApartFrom}
use Rattle.vab_physical.specs.Tail.{sectors_taken}

-- blocks from a sector on, where that stands behind `super` and they end on the disk
run_behind : (end size first blocks : ℕ)
    → end ≤ first
    → first + 8 * blocks ≤ size
    → IsBehind end size (run_of first blocks)
run_behind end size first blocks behind fits = record {
  behind = λ i below.
      let lt : i < blocks = omega (arith, below, length-run_of first blocks) in
      omega (arith, run_of-at first blocks i lt, behind);
  on_disk = run_on_disk _ first blocks size refl fits;
  apart = run_apart _ first blocks refl;
}

-- one partition of both slots
partition_behind : (end size : ℕ) (name : List ℕ) (first blocks : ℕ)
    → end ≤ first
    → first + 16 * blocks ≤ size
    → AreBehind end size (maps_of name first blocks)
partition_behind end size name first blocks behind fits = record {
  a = run_behind end size first blocks behind (omega (arith, fits));
  b = run_behind end size (first + 8 * blocks) blocks (omega (arith, behind)) (omega (arith, fits));
  apart = runs_disjoint _ _ first blocks (first + 8 * blocks) blocks refl refl (omega arith);
}

module _ (s : PhysicalSizes) (end size : ℕ) (fits : end + sectors_taken s ≤ size) where
  pub boot_behind : AreBehind end size (maps_of boot_text end s.boot)
  boot_behind = partition_behind end size boot_text end s.boot (omega arith) (omega (arith, fits))

  pub vbmeta_behind : AreBehind end size (maps_of vbmeta_text (end + 16 * s.boot) s.vbmeta)
  vbmeta_behind =
      partition_behind end size vbmeta_text (end + 16 * s.boot) s.vbmeta (omega arith)
      (omega (arith, fits))

-- no block of boot is one of vbmeta
pub boot_apart : (s : PhysicalSizes) (end : ℕ)
    → AreApartFrom (maps_of boot_text end s.boot) (maps_of vbmeta_text (end + 16 * s.boot) s.vbmeta)
boot_apart s end = record {
  a_a = runs_disjoint _ _ end s.boot (end + 16 * s.boot) s.vbmeta refl refl (omega arith);
  a_b = runs_disjoint _ _ end s.boot (end + 16 * s.boot + 8 * s.vbmeta) s.vbmeta refl refl
      (omega arith);
  b_a = runs_disjoint _ _ (end + 8 * s.boot) s.boot (end + 16 * s.boot) s.vbmeta refl refl
      (omega arith);
  b_b = runs_disjoint _ _ (end + 8 * s.boot) s.boot (end + 16 * s.boot + 8 * s.vbmeta) s.vbmeta
      refl refl (omega arith);
}

-- a block that ends in `super` has no sector of one behind it
pub super_apart : (end size : ℕ) (map : List ℕ) (block i : ℕ)
    → IsBehind end size map
    → block + 8 ≤ end
    → i < length map
    → AreApart block (slice_index map i)
super_apart end size map block i is within below = inl (omega (arith, within, is.behind i below))
