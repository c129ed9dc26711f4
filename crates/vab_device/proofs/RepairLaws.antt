-- Copies of a table that are written while the slot's table stays: all is read as before.
use Rattle.std.proofs.Common.{◌≡◌, ◌≢◌, ◌⊎◌, inl, inr, ⊎_elim, ℕ, ◌+◌, ◌-◌, ◌*◌, ◌/◌, ◌≤◌, ◌<◌}
use Rattle.std.proofs.Common.{List, [], ◌∷◌, Ok, refl, sym, subst, arith, add-mul}
use Rattle.std.proofs.lemmas.Bool.{cases_lt, cases_eq}
use Rattle.std.proofs.Math.Nat.{mul-le-mul_right}
use Rattle.vab_disk.specs.Disk.{Image}
use Rattle.vab_geometry.specs.declared.geometry.Geometry.{Geometry}
use Rattle.vab_geometry.specs.Geometry.{IsGeometry}
use Rattle.vab_gate.proofs.Blocks.{sectors_same}
use Rattle.vab_marks.specs.declared.mark.MarkPhase.{MarkPhase}
use Rattle.vab_marks.specs.declared.mark.MarkPhase.TheVariants as marks
use Rattle.vab_marks.specs.declared.mark.UpdateMark.{UpdateMark}
use Rattle.vab_lpstore.specs.Layout.{copy_sectors, primary_of, backup_of, primary_bytes}
use Rattle.vab_lpstore.specs.Layout.{backup_bytes}
use Rattle.vab_lpstore.specs.Loading.{slot_table}
use Rattle.vab_lpstore.specs.Loading as loading
use Rattle.vab_tables.specs.Reading.{table_of}
use Rattle.vab_lpstore.specs.Storing.{SameElsewhere}
use Rattle.vab_lpstore.proofs.StoreLaws.{backup_byte, copies_apart}
use Rattle.vab_device.specs.Checks.{◌>>=◌}
use Rattle.vab_device.specs.Kept.{copies_end}
use Rattle.vab_device.specs.Phases.{phase_in, phase_at}
use Rattle.vab_device.specs.Reading.{Read, tables_in, stores_of, kept, Reads, SameRead}
use Rattle.vab_device.proofs.SameLaws.{mark_same, control_same, tail_kept, geometry_same}
use Rattle.vab_device.proofs.SameLaws.{table_same, images_same, version_same, most_same}
use Rattle.vab_device.proofs.StoreLaws.{statuses_kept, stores_kept, plan_kept, overlay_kept}
use Rattle.vab_device.proofs.Behind.{images_behind, stores_behind, plan_behind, overlay_behind}

-- where both copies of a slot's table end
abbrev pub end_of : Geometry → ℕ → ℕ
end_of g slot = backup_of g slot + copy_sectors g

pub ends_within : (g : Geometry) (slot : ℕ)
    → IsGeometry g
    → slot < 2
    → 512 * (end_of g slot - 4096) ≤ copies_end g
ends_within g slot is below =
    let whole : 512 * (g.max / 512) ≡ g.max = omega (arith, is.sectors) in
    let second = backup_byte g slot is in
    let most : (g.slots + slot + 1) * g.max ≤ (2 * g.slots) * g.max =
    mul-le-mul_right g.max (omega (arith, is.two, below)) in
    omega (arith, second, most, whole)

-- the copies of another slot's table
module _
    (g : Geometry) (j k n : ℕ) (old new : Image)
    (two : 2 ≤ g.slots) (j_below : j < 2) (k_below : k < 2)
    (other : j ≢ k)
    (fits : n ≤ copy_sectors g)
    (others : SameElsewhere g k n old new) where
  abbrev c : ℕ
  c = copy_sectors g

  -- one of the two slots stands behind the other
  first_or : (j * c + c ≤ k * c) ⊎ (k * c + c ≤ j * c)
  first_or = elim (cases_lt j k) [
    | inl before ↦
        let more : (j + 1) * c ≤ k * c = mul-le-mul_right c (omega (arith, before)) in
        inl (omega (arith, more))
    | inr behind ↦
        let lt : k < j = omega (arith, behind, other) in
        let more : (k + 1) * c ≤ j * c = mul-le-mul_right c (omega (arith, lt)) in
        inr (omega (arith, more))
  ]

  -- the backups stand behind both primaries
  backups : k * c + c ≤ (g.slots + j) * c
  backups =
      let more : (k + 1) * c ≤ (g.slots + j) * c =
      mul-le-mul_right c (omega (arith, k_below, two)) in
      omega (arith, more)

  backups_too : j * c + c ≤ (g.slots + k) * c
  backups_too =
      let more : (j + 1) * c ≤ (g.slots + k) * c =
      mul-le-mul_right c (omega (arith, j_below, two)) in
      omega (arith, more)

  pub primary_kept : primary_bytes g j new ≡ primary_bytes g j old
  unfolding primary_of backup_of
  primary_kept =
      sectors_same c (primary_of g j) old new
      (λ i below. others (primary_of g j + i)
      (⊎_elim
      (λ before. inl (omega (arith, before, below)))
      (λ behind. inr (omega (arith, behind, fits))) first_or)
      (inl (omega (arith, below, backups_too))))

  pub backup_kept : backup_bytes g j new ≡ backup_bytes g j old
  unfolding primary_of backup_of
  backup_kept =
      let spread : (g.slots + j) * c ≡ g.slots * c + j * c = add-mul g.slots j c in
      let spread_k : (g.slots + k) * c ≡ g.slots * c + k * c = add-mul g.slots k c in
      sectors_same c (backup_of g j) old new
      (λ i below. others (backup_of g j + i)
      (inr (omega (arith, fits, backups)))
      (⊎_elim
      (λ before. inl (omega (arith, before, below, spread, spread_k)))
      (λ behind. inr (omega (arith, behind, fits, spread, spread_k))) first_or))

  pub other_table : slot_table g j new ≡ slot_table g j old
  unfolding slot_table
  other_table =
      (λ i. loading.first_of (table_of g.max (primary_kept i)) (table_of g.max (backup_kept i)))

-- all of these slots are a or b
abbrev AreSlots : List ℕ → Type 0
AreSlots [] = Unit {0}
AreSlots (j ∷ js) = (j < 2) × AreSlots js

slots_read : (p : MarkPhase) (m : UpdateMark) → m.slot < 2 → AreSlots (phase_in p m).tables
slots_read marks.Idle m below = (below, tt)
slots_read marks.Installing m below = (below, (omega arith, tt))
slots_read marks.Staged m below = (below, (omega arith, tt))
slots_read marks.Merging m below = (below, tt)
slots_read marks.Completed m below = (below, tt)

each_same : (super_end k n : ℕ) (g : Geometry) (slots : List ℕ) (old new : Image)
    → 2 ≤ g.slots
    → k < 2
    → AreSlots slots
    → n ≤ copy_sectors g
    → SameElsewhere g k n old new
    → slot_table g k new ≡ slot_table g k old
    → tables_in super_end g slots new ≡ tables_in super_end g slots old
each_same super_end k n g [] old new two below are fits others table = refl
each_same super_end k n g (j ∷ js) old new two below are fits others table =
    let here : slot_table g j new ≡ slot_table g j old = elim (cases_eq j k) [
      | inl same ↦
          subst (λ (x : ℕ). slot_table g x new ≡ slot_table g x old) (sym same) table
      | inr other ↦ other_table g j k n old new two are.0 below other fits others
    ] in
    let first = table_same super_end g j old new here in
    let rest = each_same super_end k n g js old new two below are.1 fits others table in
    (λ i. first i >>= λ t. rest i >>= λ ts. Ok (t ∷ ts))

pub repair_same : (size n k : ℕ) (r : Read) (old new : Image)
    → IsGeometry r.geometry
    → r.mark.slot < 2
    → k < 2
    → n ≤ copy_sectors r.geometry
    → Reads size r old
    → SameElsewhere r.geometry k n old new
    → slot_table r.geometry k new ≡ slot_table r.geometry k old
    → SameRead size r old new
unfolding primary_of backup_of
repair_same size n k r old new geometry slot k_below fits reads others table =
    let g = r.geometry in
    let before : (s : ℕ) → s < 4120 → new s ≡ old s =
    λ s lt. others s (inl (omega (arith, lt))) (inl (omega (arith, lt))) in
    let apart : primary_of g k + copy_sectors g ≤ backup_of g k =
    copies_apart g k (omega (arith, geometry.two, k_below)) in
    let behind : (s : ℕ) → end_of g k ≤ s → new s ≡ old s =
    λ s le. others s (inr (omega (arith, le, apart, fits))) (inr (omega (arith, le, fits))) in
    let within = ends_within g k geometry k_below in
    record {
      most = most_same old new (before 2048 (omega arith));
      mark = mark_same old new (before 2048 (omega arith));
      statuses = statuses_kept (phase_at r.mark).reads_statuses old new
          (version_same old new (before 2048 (omega arith)))
          (λ read s is. before s (omega (arith, is.below)));
      control = control_same _ _ old new (before 4 (omega arith));
      tail = tail_kept r.mark.physical size old new (λ some. before 2113 (omega arith));
      geometry = geometry_same r.tail.super_end old new (before 4104 (omega arith))
          (before 4112 (omega arith));
      tables = each_same r.tail.super_end k n g (phase_at r.mark).tables old new
          geometry.two k_below (slots_read r.mark.phase r.mark slot) fits others table;
      stores = stores_kept (stores_of r) old new r.scanned
          (λ s is. behind s (stores_behind size (end_of g k) r old s reads within is))
          reads.stores;
      images_a = images_same old new (kept r).a
          (λ s is. behind s (images_behind size (end_of g k) 0 _ _ r old s reads within is));
      images_b = images_same old new (kept r).b
          (λ s is. behind s (images_behind size (end_of g k) 1 _ _ r old s reads within is));
      plan = plan_kept (kept r).plan old new
          (λ s is. behind s (plan_behind size (end_of g k) r old s reads within is));
      overlay = overlay_kept (kept r).overlay old new
          (λ s is. behind s (overlay_behind size (end_of g k) r old s reads within is));
    }
