-- Where the begin of an update writes.
use Rattle.std.proofs.Common.{◌≡◌, inl, inr, ⊎_elim, ℕ, ◌≤◌, List, arith}
use Rattle.vab_disk.specs.Disk.{Image}
use Rattle.vab_disk.specs.Calls.{SameBut}
use Rattle.vab_copies.specs.Copies.{IsOfCopy}
use Rattle.vab_geometry.specs.declared.geometry.Geometry.{Geometry}
use Rattle.vab_lpstore.specs.Layout.{primary_of, backup_of}
use Rattle.vab_lpstore.specs.Storing.{IsOfTable}

copy_behind : (n at : ℕ) (text : List ℕ) (s : ℕ) (b : List ℕ)
    → IsOfCopy n at text s b
    → at ≤ s
copy_behind n at text s b (inl piece) = omega (arith, piece.first)
copy_behind n at text s b (inr zeros) = omega (arith, zeros.0)

pub table_behind : (g : Geometry) (slot : ℕ) (text : List ℕ) (s : ℕ) (b : List ℕ)
    → IsOfTable g slot text s b
    → 4120 ≤ s
unfolding primary_of backup_of
table_behind g slot text s b (inl primary) =
    omega (arith, copy_behind _ (primary_of g slot) text s b primary)
table_behind g slot text s b (inr backup) =
    omega (arith, copy_behind _ (backup_of g slot) text s b backup)

-- a sector that isn't written stays
pub stays : (W : ℕ → List ℕ → Type 0) (old new : Image) (s : ℕ)
    → SameBut W old new
    → (W s (new s) → ⊥)
    → new s ≡ old s
stays W old new s same not = ⊎_elim (λ is. is) (λ w. absurd (not w)) (same s)
