-- Where one slot's table is written, the copies of the other's stay.
use Rattle.std.proofs.Common.{◌≡◌, ◌≢◌, ◌⊎◌, ◌∙◌, inl, inr, ⊎_elim, ℕ, ◌+◌, ◌-◌, ◌*◌, ◌/◌, ◌≤◌, ◌<◌}
use Rattle.std.proofs.Common.{List, length, take, ap, arith, add-mul}
use Rattle.std.proofs.lemmas.Bool.{cases_lt}
use Rattle.std.proofs.Math.Nat.{mul-le-mul_right}
use Rattle.vab_disk.specs.Disk.{Image}
use Rattle.vab_geometry.specs.declared.geometry.Geometry.{Geometry}
use Rattle.vab_geometry.specs.Geometry.{IsGeometry}
use Rattle.vab_gate.proofs.Blocks.{sectors_same}
use Rattle.vab_lpstore.specs.Layout.{copy_sectors, primary_of, backup_of, primary_bytes}
use Rattle.vab_lpstore.specs.Layout.{backup_bytes}
use Rattle.vab_lpstore.specs.Layout.{BothHold}
use Rattle.vab_lpstore.specs.Storing.{SameElsewhere}
use Rattle.vab_lpstore.proofs.StoreLaws.{backup_byte}
use Rattle.vab_device.specs.Kept.{copies_end}
use Rattle.vab_device.proofs.RepairLaws.{end_of}

pub ends_within : (g : Geometry) (slot : ℕ)
    → IsGeometry g
    → slot < 2
    → 512 * (end_of g slot - 4096) ≤ copies_end g
ends_within g slot is below =
    let whole : 512 * (g.max / 512) ≡ g.max = omega (arith, is.sectors) in
    let second = backup_byte g slot is in
    let most : (g.slots + slot + 1) * g.max ≤ (2 * g.slots) * g.max =
    mul-le-mul_right g.max (omega (arith, is.two, below)) in
    omega (arith, second, most, whole)

module _
    (g : Geometry) (j k n : ℕ) (old new : Image)
    (two : 2 ≤ g.slots) (j_below : j < 2) (k_below : k < 2)
    (other : j ≢ k)
    (fits : n ≤ copy_sectors g)
    (others : SameElsewhere g k n old new) where
  abbrev c : ℕ
  c = copy_sectors g

  -- one of the two slots stands behind the other
  first_or : (j * c + c ≤ k * c) ⊎ (k * c + c ≤ j * c)
  first_or = elim (cases_lt j k) [
    | inl before ↦
        let more : (j + 1) * c ≤ k * c = mul-le-mul_right c (omega (arith, before)) in
        inl (omega (arith, more))
    | inr behind ↦
        let lt : k < j = omega (arith, behind, other) in
        let more : (k + 1) * c ≤ j * c = mul-le-mul_right c (omega (arith, lt)) in
        inr (omega (arith, more))
  ]

  -- the backups stand behind both primaries
  backups : k * c + c ≤ (g.slots + j) * c
  backups =
      let more : (k + 1) * c ≤ (g.slots + j) * c = mul-le-mul_right c (omega
      (arith, k_below, two)) in
      omega (arith, more)

  backups_too : j * c + c ≤ (g.slots + k) * c
  backups_too =
      let more : (j + 1) * c ≤ (g.slots + k) * c = mul-le-mul_right c (omega
      (arith, j_below, two)) in
      omega (arith, more)

  primary_kept : primary_bytes g j new ≡ primary_bytes g j old
  unfolding primary_of backup_of
  primary_kept =
      sectors_same c (primary_of g j) old new
      (λ i below. others (primary_of g j + i)
      (⊎_elim
      (λ before. inl (omega (arith, before, below)))
      (λ behind. inr (omega (arith, behind, fits))) first_or)
      (inl (omega (arith, below, backups_too))))

  backup_kept : backup_bytes g j new ≡ backup_bytes g j old
  unfolding primary_of backup_of
  backup_kept =
      let spread : (g.slots + j) * c ≡ g.slots * c + j * c = add-mul g.slots j c in
      let spread_k : (g.slots + k) * c ≡ g.slots * c + k * c = add-mul g.slots k c in
      sectors_same c (backup_of g j) old new
      (λ i below. others (backup_of g j + i)
      (inr (omega (arith, fits, backups)))
      (⊎_elim
      (λ before. inl (omega (arith, before, below, spread, spread_k)))
      (λ behind. inr (omega (arith, behind, fits, spread, spread_k))) first_or))

  -- both copies of the other slot's table hold what they held
  pub both_kept : (text : List ℕ) → BothHold g j text old → BothHold g j text new
  both_kept text held = record {
    primary = ap (λ (l : List ℕ). take (length text) l) primary_kept ∙ held.primary;
    backup = ap (λ (l : List ℕ). take (length text) l) backup_kept ∙ held.backup;
  }
