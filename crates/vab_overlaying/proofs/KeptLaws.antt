-- The devices that are kept as an overlay begins.
use Rattle.std.proofs.Common.{◌≡◌, ◌∙◌, inl, inr, ℕ, ◌<◌, false, List, refl, sym, ap, subst}
use Rattle.std.specs.Prelude.{◌==◌, Option, Some}
use Rattle.vab_marks.specs.declared.mark.MarkPhase.{MarkPhase}
use Rattle.vab_marks.specs.declared.mark.MarkPhase.TheVariants as marks
use Rattle.vab_tables.specs.declared.table.Table.{Table}
use Rattle.vab_layout.specs.Layout.{layout_of}
use Rattle.vab_layout.specs.Slots.{other_slot}
use Rattle.vab_device.specs.declared.device.Part.{Part}
use Rattle.vab_device.specs.declared.device.Device.{Device}
use Rattle.vab_device.specs.Kept.{IsDevice, IsTableOf, IsOverlay, IsOverlaidOn}
use Rattle.vab_device.specs.Kept.{table_of_slot, parts_of, parts_at, has_slot}
use Rattle.vab_device.specs.Kept.{reads_both, is_installing}
use Rattle.vab_device.proofs.PhaseCases.{cases_slot}
use Rattle.vab_overlaying.specs.Begun.{with_table, over_part, over_device, IsOver}
use Rattle.vab_device.proofs.SlotTable.{kept_table, no_update, retabled_a, retabled_b}
use Rattle.vab_overlaying.proofs.OverlaidLaws.{is_overlaid_on}

-- ---- with the table that has the store

module _
    (d : Device) (size : ℕ) (u : Table)
    (kept : IsDevice d size)
    (idle : d.mark.phase ≡ marks.Idle)
    (plain : d.mark.overlaid ≡ false)
    (new_table : IsTableOf d.tail.super_end d.geometry d.mark.slot u) where
  pub table_kept : IsDevice (with_table d u) size
  table_kept = elim (cases_slot d.mark.slot kept.slot) [
    | inl e ↦
        rw (ap (λ (n : ℕ). n == 0) e) (retabled_a d size u d.groups kept idle plain new_table e)
    | inr e ↦
        rw (ap (λ (n : ℕ). n == 0) e) (retabled_b d size u d.groups kept idle plain new_table e)
  ]

-- what the device with the table has
pub table_now : (d : Device) (u : Table)
    → d.mark.slot < 2
    → table_of_slot (with_table d u) (with_table d u).mark.slot ≡ Some u
table_now d u below = elim (cases_slot d.mark.slot below) [
  | inl e ↦ let is = ap (λ (n : ℕ). n == 0) e in rw is (rw is refl)
  | inr e ↦ let is = ap (λ (n : ℕ). n == 0) e in rw is (rw is refl)
]

pub parts_now : (d : Device) (u : Table)
    → d.mark.slot < 2
    → parts_at (with_table d u) (with_table d u).mark.slot
    ≡ Some (parts_of d.mark.slot (layout_of u))
parts_now d u below = elim (cases_slot d.mark.slot below) [
  | inl e ↦ let is = ap (λ (n : ℕ). n == 0) e in rw is (rw is refl)
  | inr e ↦ let is = ap (λ (n : ℕ). n == 0) e in rw is (rw is refl)
]

pub mark_now : (d : Device) (u : Table) → d.mark.slot < 2 → (with_table d u).mark ≡ d.mark
mark_now d u below = elim (cases_slot d.mark.slot below) [
  | inl e ↦ rw (ap (λ (n : ℕ). n == 0) e) refl
  | inr e ↦ rw (ap (λ (n : ℕ). n == 0) e) refl
]

-- ---- with the partition overlaid

pub over_kept : (d : Device) (size : ℕ) (p : Part) (store : List ℕ)
    → IsDevice d size
    → IsOver d p store
    → IsDevice (over_device d p store) size
over_kept d size p store kept over =
    let t : Table = over.table in
    let has : (slot : ℕ) → has_slot d.mark.phase d.mark.slot slot
    ≡ has_slot marks.Idle d.mark.slot slot =
    λ slot. ap (λ (ph : MarkPhase). has_slot ph d.mark.slot slot) over.idle in
    let on : IsOverlaidOn d.tail.super_end (parts_of d.mark.slot (layout_of t))
    (over_part p store) =
    subst (λ (q : Part). IsOverlaidOn d.tail.super_end (parts_of d.mark.slot (layout_of t)) q)
    (λ i. over_part (sym over.part i) (sym over.stored i))
    (is_overlaid_on d.tail.super_end d.mark.slot d.geometry t kept.enough
    (kept_table d size t kept over.is) over.over over.by over.two) in
    record {
      enough = kept.enough;
      ends = kept.ends;
      geometry = kept.geometry;
      control = kept.control;
      phase = inl refl;
      slot = kept.slot;
      flags = (refl, refl);
      current = sym (has d.control.current) ∙ kept.current;
      has_a = kept.has_a ∙ has 0;
      has_b = kept.has_b ∙ has 1;
      copies_on = kept.copies_on;
      parts_a = kept.parts_a;
      parts_b = kept.parts_b;
      table_a = kept.table_a;
      table_b = kept.table_b;
      source = kept.source;
      target = kept.target ∙ ap reads_both over.idle;
      planned = kept.planned ∙ ap is_installing over.idle;
      plan = kept.plan;
      update =
          no_update false d.mark.slot
          (table_of_slot d d.mark.slot)
          (table_of_slot d (other_slot d.mark.slot))
          (kept.target ∙ ap reads_both over.idle);
      overlaid = refl;
      overlay =
          subst
          (λ (ps : Option (List Part)). IsOverlay d.tail.super_end ps (Some (over_part p store)))
          (sym over.parts) on;
    }
