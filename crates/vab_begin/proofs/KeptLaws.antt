-- What is kept of a device as its phase and the other slot's table change.
use Rattle.std.proofs.Common.{◌≡◌, ◌∙◌, inl, inr, ℕ, zero, suc, ◌<◌, List, refl, sym}
use Rattle.std.proofs.Common.{ap}
use Rattle.std.proofs.Common.{subst, arith, true, false, eq-eqb}
use Rattle.std.specs.Prelude.{◌==◌, if◌then◌else◌, Bool, Option, None, is_some}
use Rattle.std.proofs.lemmas.Bool.{cases_Bool, eqb-true}
use Rattle.vab_marks.specs.declared.mark.MarkPhase.{MarkPhase}
use Rattle.vab_marks.specs.declared.mark.UpdateMark.{UpdateMark}
use Rattle.vab_marks.specs.Mark.{FlagsFit}
use Rattle.vab_bootctl.specs.declared.slots.Control.{Control}
use Rattle.vab_bootctl.specs.Control.{Fits}
use Rattle.vab_geometry.specs.declared.geometry.Geometry.{Geometry}
use Rattle.vab_tables.specs.declared.table.Table.{Table}
use Rattle.vab_layout.specs.Slots.{other_slot}
use Rattle.vab_device.specs.declared.device.Part.{Part}
use Rattle.vab_device.specs.declared.device.Device.{Device}
use Rattle.vab_device.specs.Kept.{IsDevice, IsKeptTable, ArePresent, IsPhase, IsUpdate, IsOverlay}
use Rattle.vab_device.specs.Kept.{is_installing, has_both, has_slot, reads_both, table_of_slot}
use Rattle.vab_begin.specs.Kept.{with_control, with_update, without_update}
use Rattle.vab_begin.specs.Writes.{MayEnd}
use Rattle.vab_device.proofs.PhaseCases.{no_target}
use Rattle.vab_device.specs.Kept.{parts_at}
use Rattle.vab_device.proofs.MarkLaws.{not_overlaid}
use Rattle.vab_device.proofs.OverlayLaws.{plain_none}
use Rattle.vab_marks.specs.Mark.{is_idle}

-- ---- the phase that is kept

-- ---- the slots

own_has : (p : MarkPhase) (own slot : ℕ) → own ≡ slot → has_slot p own slot ≡ true
own_has p own slot same = elim (cases_Bool (has_both p)) [
  | inl both ↦ rw both refl
  | inr one ↦ rw one (eq-eqb own slot same)
]

-- the slot of the mark has images
pub source_a : (d : Device) (size : ℕ) → IsDevice d size → d.mark.slot ≡ 0 → is_some d.a ≡ true
source_a d size is own = is.has_a ∙ own_has d.mark.phase d.mark.slot 0 own

pub source_b : (d : Device) (size : ℕ) → IsDevice d size → d.mark.slot ≡ 1 → is_some d.b ≡ true
source_b d size is own = is.has_b ∙ own_has d.mark.phase d.mark.slot 1 own

-- where one slot has images, the other has none
one_has : (p : MarkPhase) (own slot : ℕ)
    → has_both p ≡ false
    → has_slot p own slot ≡ (own == slot)
one_has p own slot one = rw one refl

pub no_target_b : (d : Device) (size : ℕ)
    → IsDevice d size
    → has_both d.mark.phase ≡ false
    → d.mark.slot ≡ 0
    → is_some d.b ≡ false
no_target_b d size is one own =
    is.has_b ∙ one_has d.mark.phase d.mark.slot 1 one ∙ ap (λ (n : ℕ). n == 1) own

pub no_target_a : (d : Device) (size : ℕ)
    → IsDevice d size
    → has_both d.mark.phase ≡ false
    → d.mark.slot ≡ 1
    → is_some d.a ≡ false
no_target_a d size is one own =
    is.has_a ∙ one_has d.mark.phase d.mark.slot 0 one ∙ ap (λ (n : ℕ). n == 0) own

-- and is the one that was booted last
pub current_of : (d : Device) (size : ℕ)
    → IsDevice d size
    → has_both d.mark.phase ≡ false
    → d.control.current ≡ d.mark.slot
current_of d size is one =
    sym (eqb-true d.mark.slot d.control.current
    (sym (one_has d.mark.phase d.mark.slot d.control.current one) ∙ is.current))

-- ---- the tables

source_at : (n : ℕ) (a b t : Option Table)
    → (if n == 0 then (if n == 0 then a else t) else (if n == 0 then t else b))
    ≡ (if n == 0 then a else b)
source_at n a b t = elim (cases_Bool (n == 0)) [
  | inl h ↦ rw h refl
  | inr h ↦ rw h refl
]

target_at : (n : ℕ) (a b t : Option Table)
    → n < 2
    → (if other_slot n == 0 then (if n == 0 then a else t) else (if n == 0 then t else b)) ≡ t
target_at zero a b t below = refl
target_at (suc zero) a b t below = refl
target_at (suc (suc n)) a b t below = absurd (omega (arith, below))

table_a_at : (n size : ℕ) (g : Geometry) (a t : Option Table)
    → n < 2
    → IsKeptTable size g 0 a
    → IsKeptTable size g (other_slot n) t
    → IsKeptTable size g 0 (if n == 0 then a else t)
table_a_at zero size g a t below is new = is
table_a_at (suc zero) size g a t below is new = new
table_a_at (suc (suc n)) size g a t below is new = absurd (omega (arith, below))

table_b_at : (n size : ℕ) (g : Geometry) (b t : Option Table)
    → n < 2
    → IsKeptTable size g 1 b
    → IsKeptTable size g (other_slot n) t
    → IsKeptTable size g 1 (if n == 0 then t else b)
table_b_at zero size g b t below is new = new
table_b_at (suc zero) size g b t below is new = is
table_b_at (suc (suc n)) size g b t below is new = absurd (omega (arith, below))

-- ---- the device

-- the mark in this phase, whose target stands apart or not
abbrev pub phased : MarkPhase → Bool → UpdateMark → UpdateMark
phased phase apart m = record m { phase = phase; apart = apart; overlaid = false }

-- With another phase, table of the other slot, plan and boot control it is a device.
pub update_kept : (d : Device) (size : ℕ) (c : Control) (phase : MarkPhase) (apart : Bool)
    (t : Option Table) (plan : Option (List Part))
    → IsDevice d size
    → Fits c
    → c.current ≡ d.mark.slot
    → IsPhase phase
    → FlagsFit (phased phase apart d.mark)
    → d.mark.overlaid ≡ false
    → has_both d.mark.phase ≡ false
    → has_both phase ≡ false
    → IsKeptTable d.tail.super_end d.geometry (other_slot d.mark.slot) t
    → is_some t ≡ reads_both phase
    → is_some plan ≡ is_installing phase
    → ArePresent d.tail.super_end plan
    → IsUpdate apart d.mark.slot (table_of_slot d d.mark.slot) t
    → IsDevice (with_control c (with_update d (phased phase apart d.mark) t plan)) size
update_kept d size c phase apart t plan is fits current known stands plain was one table there
    planned plans update =
    let source : table_of_slot (with_update d (phased phase apart d.mark) t plan) d.mark.slot
    ≡ table_of_slot d d.mark.slot =
    source_at d.mark.slot d.table_a d.table_b t in
    let target : table_of_slot (with_update d (phased phase apart d.mark) t plan)
    (other_slot d.mark.slot)
    ≡ t =
    target_at d.mark.slot d.table_a d.table_b t is.slot in
    record {
      enough = is.enough;
      ends = is.ends;
      geometry = is.geometry;
      control = fits;
      phase = known;
      slot = is.slot;
      flags = stands;
      current = own_has phase d.mark.slot c.current (sym current);
      has_a =
          is.has_a ∙ one_has d.mark.phase d.mark.slot 0 was ∙ sym (one_has phase d.mark.slot 0 one);
      has_b =
          is.has_b ∙ one_has d.mark.phase d.mark.slot 1 was ∙ sym (one_has phase d.mark.slot 1 one);
      copies_on = is.copies_on;
      parts_a = is.parts_a;
      parts_b = is.parts_b;
      table_a =
          table_a_at d.mark.slot d.tail.super_end d.geometry d.table_a t is.slot is.table_a table;
      table_b =
          table_b_at d.mark.slot d.tail.super_end d.geometry d.table_b t is.slot is.table_b table;
      source = ap is_some source ∙ is.source;
      target = ap is_some target ∙ there;
      planned = planned;
      plan = plans;
      update = (subst (λ (x : Option Table). IsUpdate apart d.mark.slot x
          (table_of_slot (with_update d (phased phase apart d.mark) t plan)
          (other_slot d.mark.slot)))
          (sym source)
          (subst (λ (x : Option Table). IsUpdate apart d.mark.slot (table_of_slot d d.mark.slot) x)
          (sym target) update));
      overlaid = is.overlaid ∙ plain;
      overlay = is.overlay;
    }

-- ---- without an update

images_a_at : (n size : ℕ) (a : Option (List Part))
    → ArePresent size a
    → ArePresent size (if n == 0 then a else None)
images_a_at n size a is = elim (cases_Bool (n == 0)) [ inl h ↦ rw h is | inr h ↦ rw h tt ]

images_b_at : (n size : ℕ) (b : Option (List Part))
    → ArePresent size b
    → ArePresent size (if n == 0 then None else b)
images_b_at n size b is = elim (cases_Bool (n == 0)) [ inl h ↦ rw h tt | inr h ↦ rw h is ]

has_a_at : (n : ℕ) (a : Option (List Part))
    → n < 2
    → (n ≡ 0 → is_some a ≡ true)
    → is_some (if n == 0 then a else None) ≡ (n == 0)
has_a_at zero a below has = has refl
has_a_at (suc zero) a below has = refl
has_a_at (suc (suc n)) a below has = absurd (omega (arith, below))

has_b_at : (n : ℕ) (b : Option (List Part))
    → n < 2
    → (n ≡ 1 → is_some b ≡ true)
    → is_some (if n == 0 then None else b) ≡ (n == 1)
has_b_at zero b below has = refl
has_b_at (suc zero) b below has = has refl
has_b_at (suc (suc n)) b below has = absurd (omega (arith, below))

-- no partition is overlaid where an update ends
pub ends_plain : (d : Device) (size : ℕ) → IsDevice d size → MayEnd d → d.mark.overlaid ≡ false
ends_plain d size is (inl installing) =
    not_overlaid d.mark is.flags (ap is_idle installing)
ends_plain d size is (inr staged) = not_overlaid d.mark is.flags (ap is_idle staged.0)

-- the slot that was booted last is the source
pub ends_at_source : (d : Device) (size : ℕ)
    → IsDevice d size
    → MayEnd d
    → d.control.current ≡ d.mark.slot
ends_at_source d size is (inl installing) =
    current_of d size is (ap has_both installing)
ends_at_source d size is (inr staged) = staged.1

pub ended_kept : (d : Device) (size : ℕ)
    → IsDevice d size
    → MayEnd d
    → IsDevice (without_update d) size
ended_kept d size is ends =
    let source : table_of_slot (without_update d) d.mark.slot ≡ table_of_slot d d.mark.slot =
    source_at d.mark.slot d.table_a d.table_b None in
    let target : table_of_slot (without_update d) (other_slot d.mark.slot) ≡ None =
    target_at d.mark.slot d.table_a d.table_b None is.slot in
    record {
      enough = is.enough;
      ends = is.ends;
      geometry = is.geometry;
      control = is.control;
      phase = inl refl;
      slot = is.slot;
      flags = (refl, refl);
      current = eq-eqb d.mark.slot d.control.current (sym (ends_at_source d size is ends));
      has_a = has_a_at d.mark.slot d.a is.slot (source_a d size is);
      has_b = has_b_at d.mark.slot d.b is.slot (source_b d size is);
      copies_on = is.copies_on;
      parts_a = images_a_at d.mark.slot d.tail.super_end d.a is.parts_a;
      parts_b = images_b_at d.mark.slot d.tail.super_end d.b is.parts_b;
      table_a =
          table_a_at d.mark.slot d.tail.super_end d.geometry d.table_a None is.slot is.table_a tt;
      table_b =
          table_b_at d.mark.slot d.tail.super_end d.geometry d.table_b None is.slot is.table_b tt;
      source = ap is_some source ∙ is.source;
      target = ap is_some target;
      planned = refl;
      plan = tt;
      update = (subst (λ (x : Option Table). IsUpdate false d.mark.slot x
          (table_of_slot (without_update d) (other_slot d.mark.slot)))
          (sym source)
          (subst (λ (x : Option Table). IsUpdate false d.mark.slot (table_of_slot d d.mark.slot) x)
          (sym target) (no_target false d.mark.slot (table_of_slot d d.mark.slot))));
      overlaid = is.overlaid ∙ ends_plain d size is ends;
      overlay = subst
          (IsOverlay d.tail.super_end (parts_at (without_update d) d.mark.slot))
          (sym (plain_none d size is (ends_plain d size is ends)))
          tt;
    }

-- its source stays
pub source_parts : (n : ℕ) (a b : Option (List Part))
    → (if n == 0 then (if n == 0 then a else None) else (if n == 0 then None else b))
    ≡ (if n == 0 then a else b)
source_parts n a b = elim (cases_Bool (n == 0)) [ inl h ↦ rw h refl | inr h ↦ rw h refl ]
