-- What is kept of a device as its installation ends.
use Rattle.std.proofs.Common.{◌≡◌, ◌∙◌, inl, inr, ℕ, zero, suc, ◌<◌, true, refl, ap, subst, sym}
use Rattle.std.proofs.Common.{arith}
use Rattle.std.specs.Prelude.{◌==◌, if◌then◌else◌, List, Option, is_some}
use Rattle.std.proofs.lemmas.Bool.{cases_Bool}
use Rattle.vab_marks.specs.declared.mark.MarkPhase.TheVariants as marks
use Rattle.vab_layout.specs.Slots.{other_slot}
use Rattle.vab_device.specs.declared.device.Part.{Part}
use Rattle.vab_device.specs.declared.device.Device.{Device}
use Rattle.vab_device.specs.Kept.{ArePresent, IsDevice, is_installing, reads_both}
use Rattle.vab_device.proofs.MarkLaws.{rephased_fits}
use Rattle.vab_begin.proofs.KeptLaws.{source_a, source_b}
use Rattle.vab_finish.specs.Finished.{finished_device}
use Rattle.vab_begin.proofs.BegunLaws.{cleared_fits}
use Rattle.vab_device.proofs.MarkLaws.{not_overlaid}
use Rattle.vab_device.proofs.OverlayLaws.{update_none}
use Rattle.vab_marks.specs.Mark.{is_idle}
use Rattle.vab_device.specs.Kept.{IsOverlay, parts_at}

either_present : (n size : ℕ) (x y : Option (List Part))
    → ArePresent size x
    → ArePresent size y
    → ArePresent size (if n == 0 then x else y)
either_present n size x y first second = elim (cases_Bool (n == 0)) [
  | inl h ↦ rw h first
  | inr h ↦ rw h second
]

has_a_now : (n : ℕ) (a plan : Option (List Part))
    → (n ≡ 0 → is_some a ≡ true)
    → n < 2
    → is_some plan ≡ true
    → is_some (if n == 0 then a else plan) ≡ true
has_a_now zero a plan a_there below there = a_there refl
has_a_now (suc zero) a plan a_there below there = there
has_a_now (suc (suc n)) a plan a_there below there = absurd (omega (arith, below))

has_b_now : (n : ℕ) (b plan : Option (List Part))
    → (n ≡ 1 → is_some b ≡ true)
    → n < 2
    → is_some plan ≡ true
    → is_some (if n == 0 then plan else b) ≡ true
has_b_now zero b plan b_there below there = there
has_b_now (suc zero) b plan b_there below there = b_there refl
has_b_now (suc (suc n)) b plan b_there below there = absurd (omega (arith, below))

pub finished_kept : (d : Device) (size : ℕ)
    → IsDevice d size
    → d.mark.phase ≡ marks.Installing
    → IsDevice (finished_device d) size
finished_kept d size is installing =
    let there : is_some d.plan ≡ true = is.planned ∙ ap is_installing installing in
    record {
      enough = is.enough;
      ends = is.ends;
      geometry = is.geometry;
      control = cleared_fits d.control (other_slot d.mark.slot) is.control;
      phase = inr (inr (inl refl));
      slot = is.slot;
      flags = rephased_fits marks.Staged d.mark;
      current = refl;
      has_a = has_a_now d.mark.slot d.a d.plan (source_a d size is) is.slot there;
      has_b = has_b_now d.mark.slot d.b d.plan (source_b d size is) is.slot there;
      copies_on = is.copies_on;
      parts_a = either_present d.mark.slot d.tail.super_end d.a d.plan is.parts_a is.plan;
      parts_b = either_present d.mark.slot d.tail.super_end d.plan d.b is.plan is.parts_b;
      table_a = is.table_a;
      table_b = is.table_b;
      source = is.source;
      target = is.target ∙ ap reads_both installing;
      planned = refl;
      plan = tt;
      update = is.update;
      overlaid = is.overlaid ∙ not_overlaid d.mark is.flags (ap is_idle installing);
      overlay = subst
          (IsOverlay d.tail.super_end (parts_at (finished_device d) d.mark.slot))
          (sym (update_none d size is (ap is_idle installing)))
          tt;
    }

-- its source stays
pub source_stays : (n : ℕ) (a b plan : Option (List Part))
    → (if n == 0 then (if n == 0 then a else plan) else (if n == 0 then plan else b))
    ≡ (if n == 0 then a else b)
source_stays n a b plan = elim (cases_Bool (n == 0)) [ inl h ↦ rw h refl | inr h ↦ rw h refl ]
