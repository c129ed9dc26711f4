-- How many blocks the slot's partitions have, and the store over one of them.
use Rattle.std.proofs.Common.{◌≡◌, ◌∙◌, inl, inr, ℕ, zero, suc, ◌*◌, ◌≤◌, ◌<◌, ◌^◌, false}
use Rattle.std.proofs.Common.{List, [], ◌∷◌, length, get_or, refl, sym, ap, subst, arith}
use Rattle.std.specs.Prelude.{◌==◌, if◌then◌else◌, Option, Some, map, sum_by, All, Contains}
use Rattle.std.specs.Str.{bytes_eq}
use Rattle.std.proofs.lemmas.Bool.{cases_Bool}
use Rattle.std.proofs.lemmas.List.Elements.{All-head, All-tail, All-map}
use Rattle.std.proofs.lemmas.List.Sums.{sum_by-cons}
use Rattle.vab_disk.specs.Disk.{Image}
use Rattle.vab_marks.specs.declared.mark.MarkPhase.TheVariants as marks
use Rattle.vab_marks.specs.declared.mark.UpdateMark.{UpdateMark}
use Rattle.vab_marks.specs.Mark.{resloted}
use Rattle.vab_bootctl.specs.declared.slots.Control.{Control}
use Rattle.vab_geometry.specs.declared.geometry.Geometry.{Geometry}
use Rattle.vab_tables.specs.declared.table.Table.{Table}
use Rattle.vab_physical.specs.declared.tail.Tail.{Tail}
use Rattle.vab_blocks.proofs.Contained.{first, later}
use Rattle.vab_layout.specs.Layout.{layout_of}
use Rattle.vab_layout.specs.Slots.{own_parts}
use Rattle.vab_model.specs.Overlay.{store_of_size}
use Rattle.vab_device.specs.declared.device.Part.{Part}
use Rattle.vab_device.specs.declared.device.PartImage.TheVariants.{Kept}
use Rattle.vab_device.specs.declared.device.Device.{Device}
use Rattle.vab_device.specs.Kept.{IsDevice, IsPart, AreParts, ArePresent, part_named, parts_at}
use Rattle.vab_device.specs.Kept.{parts_of, part_on, table_of_slot}
use Rattle.vab_device.specs.Reading.{Represents}
use Rattle.vab_device.proofs.UpdateLaws.{kept_with}
use Rattle.vab_overlaying.specs.Prepared.{AreWhole}
use Rattle.vab_device.proofs.StandsLaws.{read_at, stands_idle}
use Rattle.vab_overlaying.proofs.RowLaws.{IsCounted, counted}

-- ---- the partitions that are kept

present_at : (n k : ℕ) (a b : Option (List Part)) (ps : List Part)
    → k < 2
    → ArePresent n a
    → ArePresent n b
    → (if k == 0 then a else b) ≡ Some ps
    → AreParts n ps
present_at n zero a b ps below of_a of_b is = subst (ArePresent n) is of_a
present_at n (suc zero) a b ps below of_a of_b is = subst (ArePresent n) is of_b
present_at n (suc (suc k)) a b ps below of_a of_b is = absurd (omega (arith, below))

pub parts_present : (d : Device) (n : ℕ) (ps : List Part)
    → IsDevice d n
    → parts_at d d.mark.slot ≡ Some ps
    → AreParts d.tail.super_end ps
parts_present d n ps dev is =
    present_at d.tail.super_end d.mark.slot d.a d.b ps dev.slot dev.parts_a dev.parts_b is

kept_parts : (m : UpdateMark) (slot : ℕ) (c seen : Control) (tail : Tail) (g : Geometry)
    (t : Table)
    → slot < 2
    → parts_at (kept_with (read_at (resloted slot m) seen tail g t) c) slot
    ≡ Some (parts_of slot (layout_of t))
kept_parts m zero c seen tail g t below = refl
kept_parts m (suc zero) c seen tail g t below = refl
kept_parts m (suc (suc k)) c seen tail g t below = absurd (omega (arith, below))

-- those of its disk are those of the table
pub parts_are : (d : Device) (n : ℕ) (image : Image) (t : Table)
    → IsDevice d n
    → Represents d n image
    → d.mark.phase ≡ marks.Idle
    → d.mark.overlaid ≡ false
    → table_of_slot d d.mark.slot ≡ Some t
    → parts_at d d.mark.slot ≡ Some (parts_of d.mark.slot (layout_of t))
parts_are d n image t dev is idle plain table =
    let st = stands_idle d n image t dev.slot idle plain table is in
    ap (λ (k : Device). parts_at k d.mark.slot) st.is
    ∙ kept_parts d.mark d.mark.slot d.control d.control d.tail d.geometry t dev.slot

-- ---- their blocks

pub named_there : (base : List ℕ) (ps : List Part) (p : Part)
    → part_named base ps ≡ Some p
    → Contains ps p
named_there base [] p is = absurd cc
named_there base (q ∷ qs) p is = elim (cases_Bool (bytes_eq q.name base)) [
  | inl here ↦
      let found : (let o : Option Part = Some q in o ≡ Some p) = rw here at is in
      let same : q ≡ p = cc in
      subst (λ (x : Part). Contains (q ∷ qs) x) same (first q qs)
  | inr other ↦ later q qs p (named_there base qs p (rw other at is))
]

parts_kept : (at slot : ℕ) (t : Table)
    → All (λ (p : Part). p.image ≡ Kept)
    (map (part_on at) (own_parts slot (layout_of t).parts))
parts_kept at slot t =
    All-map (λ (p : Part). p.image ≡ Kept) (part_on at) (own_parts slot (layout_of t).parts)
    (λ k q lt. refl)

pub each_counted : (d : Device) (n : ℕ) (image : Image) (t : Table) (ps : List Part)
    → IsDevice d n
    → Represents d n image
    → AreWhole n image
    → d.mark.phase ≡ marks.Idle
    → d.mark.overlaid ≡ false
    → table_of_slot d d.mark.slot ≡ Some t
    → parts_at d d.mark.slot ≡ Some ps
    → All (IsCounted image) ps
each_counted d n image t ps dev is whole idle plain table parts =
    let both : Some ps ≡ Some (parts_of d.mark.slot (layout_of t)) =
    sym parts ∙ parts_are d n image t dev is idle plain table in
    let same : ps ≡ parts_of d.mark.slot (layout_of t) = cc in
    let kept : All (λ (p : Part). p.image ≡ Kept) ps =
    subst (λ (l : List Part). All (λ (p : Part). p.image ≡ Kept) l) (sym same)
    (parts_kept (layout_of t).device.first_logical_sector d.mark.slot t) in
    λ k p lt.
    counted d.tail.super_end image (get_or ps k p)
    (λ s below. whole s (omega (arith, below, dev.ends)))
    ((parts_present d n ps dev parts).each k p lt)
    (kept k p lt)

sizes_small : (n : ℕ) (ps : List Part)
    → All (IsPart n) ps
    → sum_by (λ p. length p.map) ps ≤ 2 ^ 28 * length ps
sizes_small n [] are = omega arith
sizes_small n (p ∷ ps) are =
    omega (
      arith,
      sum_by-cons (λ (q : Part). length q.map) p ps,
      (All-head (IsPart n) p ps are).small,
      sizes_small n ps (All-tail (IsPart n) p ps are),
    )

pub parts_small : (n : ℕ) (ps : List Part)
    → AreParts n ps
    → sum_by (λ p. length p.map) ps ≤ 2 ^ 34
parts_small n ps are = omega (arith, sizes_small n ps are.each, are.few)

-- ---- those of a store

pub store_small : (blocks size : ℕ)
    → blocks < 2 ^ 60
    → size < 2 ^ 64
    → store_of_size blocks size < 2 ^ 62
store_small blocks size few short = elim (cases_Bool (size == 0)) [
  | inl none ↦ rw none (omega (arith, few))
  | inr some ↦ rw some (omega (arith, short))
]
