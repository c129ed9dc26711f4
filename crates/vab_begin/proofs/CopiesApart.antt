-- The copies of one slot's table stand apart from the other's.
use Rattle.std.proofs.Common.{◌≡◌, ◌≢◌, ◌⊎◌, inl, inr, ⊎_elim, ℕ, ◌+◌, ◌*◌, ◌≤◌, ◌<◌}
use Rattle.std.proofs.Common.{List, [], ◌∷◌}
use Rattle.std.proofs.Common.{length, arith, add-mul}
use Rattle.std.proofs.lemmas.Bool.{cases_lt}
use Rattle.std.proofs.Math.Nat.{mul-le-mul_right}
use Rattle.vab_disk.specs.Calls.{IsBetween}
use Rattle.vab_copies.specs.Copies.{IsOfCopy}
use Rattle.vab_geometry.specs.declared.geometry.Geometry.{Geometry}
use Rattle.vab_geometry.specs.Geometry.{IsGeometry}
use Rattle.vab_lpstore.specs.Layout.{copy_sectors, primary_of, backup_of, text_sectors}
use Rattle.vab_lpstore.specs.Storing.{IsOfTable}
use Rattle.vab_lpstore.proofs.StoreLaws.{text_fits, text_some, copies_apart}
use Rattle.vab_device.specs.Kept.{copies_end, super_bytes}
use Rattle.vab_device.specs.Reading.{IsOfTables}
use Rattle.vab_device.proofs.RepairLaws.{end_of}
use Rattle.vab_device.proofs.RepairLaws.{ends_within}

-- ---- a text in the copies

copy_in : (n at c : ℕ) (text : List ℕ) (s : ℕ) (b : List ℕ)
    → 0 < n
    → n ≤ c
    → IsOfCopy n at text s b
    → IsBetween at (at + c) s
copy_in n at c text s b some fits (inl piece) =
    record { from = omega (arith, piece.first); below = omega (arith, piece.last, fits) }
copy_in n at c text s b some fits (inr zeros) =
    record { from = omega (arith, zeros.0); below = omega (arith, zeros.0, some, fits) }

pub table_in : (g : Geometry) (slot : ℕ) (text : List ℕ) (s : ℕ) (b : List ℕ)
    → IsGeometry g
    → length text ≤ g.max
    → IsOfTable g slot text s b
    → IsOfTables g (slot ∷ []) s
table_in g slot text s b is short (inl primary) =
    inl (copy_in (text_sectors (length text)) (primary_of g slot) (copy_sectors g) text s b
    (text_some (length text)) (text_fits g (length text) is short) primary)
table_in g slot text s b is short (inr backup) =
    inr (inl (copy_in (text_sectors (length text)) (backup_of g slot) (copy_sectors g) text s b
    (text_some (length text)) (text_fits g (length text) is short) backup))

-- ---- two slots

module _
    (g : Geometry) (j k : ℕ)
    (two : 2 ≤ g.slots) (j_below : j < 2) (k_below : k < 2)
    (other : j ≢ k) where
  abbrev c : ℕ
  c = copy_sectors g

  first_or : (j * c + c ≤ k * c) ⊎ (k * c + c ≤ j * c)
  first_or = elim (cases_lt j k) [
    | inl before ↦
        let more : (j + 1) * c ≤ k * c = mul-le-mul_right c (omega (arith, before)) in
        inl (omega (arith, more))
    | inr behind ↦
        let lt : k < j = omega (arith, behind, other) in
        let more : (k + 1) * c ≤ j * c = mul-le-mul_right c (omega (arith, lt)) in
        inr (omega (arith, more))
  ]

  backups : k * c + c ≤ (g.slots + j) * c
  backups =
      let more : (k + 1) * c ≤ (g.slots + j) * c = mul-le-mul_right c
      (omega (arith, k_below, two)) in
      omega (arith, more)

  backups_too : j * c + c ≤ (g.slots + k) * c
  backups_too =
      let more : (j + 1) * c ≤ (g.slots + k) * c = mul-le-mul_right c
      (omega (arith, j_below, two)) in
      omega (arith, more)

  primaries : (s : ℕ)
      → IsBetween (primary_of g j) (primary_of g j + copy_sectors g) s
      → IsBetween (primary_of g k) (primary_of g k + copy_sectors g) s
      → ⊥
  unfolding primary_of backup_of
  primaries s a b = ⊎_elim
      (λ before. omega (arith, before, a.below, b.from))
      (λ behind. omega (arith, behind, b.below, a.from))
      first_or

  both_backups : (s : ℕ)
      → IsBetween (backup_of g j) (backup_of g j + copy_sectors g) s
      → IsBetween (backup_of g k) (backup_of g k + copy_sectors g) s
      → ⊥
  unfolding primary_of backup_of
  both_backups s a b =
      let spread : (g.slots + j) * c ≡ g.slots * c + j * c = add-mul g.slots j c in
      let spread_k : (g.slots + k) * c ≡ g.slots * c + k * c = add-mul g.slots k c in
      ⊎_elim
      (λ before. omega (arith, before, a.below, b.from, spread, spread_k))
      (λ behind. omega (arith, behind, b.below, a.from, spread, spread_k))
      first_or

  pub tables_apart : (s : ℕ) → IsOfTables g (j ∷ []) s → IsOfTables g (k ∷ []) s → ⊥
  unfolding primary_of backup_of
  tables_apart s (inl a) (inl b) = primaries s a b
  tables_apart s (inl a) (inr (inl b)) = omega (arith, a.below, b.from, backups_too)
  tables_apart s (inr (inl a)) (inl b) = omega (arith, a.from, b.below, backups)
  tables_apart s (inr (inl a)) (inr (inl b)) = both_backups s a b
  tables_apart s a (inr (inr b)) = absurd b
  tables_apart s (inr (inr a)) b = absurd a

-- ---- where both copies end

pub ends_behind : (g : Geometry) (slot s : ℕ)
    → IsGeometry g
    → slot < 2
    → IsOfTables g (slot ∷ []) s
    → s < end_of g slot
ends_behind g slot s is below (inl a) =
    omega (arith, a.below, copies_apart g slot (omega (arith, is.two, below)))
ends_behind g slot s is below (inr (inl b)) = b.below
ends_behind g slot s is below (inr (inr none)) = absurd none

-- where the copies lie in `super`, they end where it ends or before
pub copies_on_disk : (g : Geometry) (slot super_end : ℕ)
    → IsGeometry g
    → slot < 2
    → 4120 ≤ super_end
    → copies_end g ≤ super_bytes super_end
    → backup_of g slot + copy_sectors g ≤ super_end
copies_on_disk g slot super_end is below enough on =
    omega (arith, ends_within g slot is below, enough, on)
