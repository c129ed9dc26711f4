-- What is kept of a device as a merge begins, and as it ends.
use Rattle.std.proofs.Common.{◌≡◌, ◌∙◌, inl, inr, ℕ, zero, suc, ◌<◌, List, [], ◌∷◌, length}
use Rattle.std.proofs.Common.{refl, sym, ap, subst, arith, true, eq-eqb}
use Rattle.std.specs.Prelude.{Bool, false, ◌==◌, if◌then◌else◌, Option, Some, None, is_some, map}
use Rattle.std.specs.Prelude.{All}
use Rattle.std.proofs.lemmas.Bool.{cases_Bool}
use Rattle.std.proofs.lemmas.List.Elements.{All-map, All-weaker}
use Rattle.vab_marks.specs.declared.mark.MarkPhase.{MarkPhase}
use Rattle.vab_marks.specs.declared.mark.MarkPhase.TheVariants as marks
use Rattle.vab_tables.specs.declared.table.Table.{Table}
use Rattle.vab_layout.specs.Slots.{other_slot}
use Rattle.vab_device.specs.declared.device.Part.{Part}
use Rattle.vab_device.specs.declared.device.Device.{Device}
use Rattle.vab_device.specs.Kept.{IsDevice, IsKeptTable, IsPart, ArePresent, IsUpdate}
use Rattle.vab_device.specs.Kept.{is_installing, has_both, has_slot, reads_both, table_of_slot}
use Rattle.vab_merging.specs.Kept.{merging_device, plain_part, plain_parts, ended_device}
use Rattle.vab_merging.specs.GateWrites.{MayMerge}
use Rattle.vab_merging.proofs.SlotLaws.{both_of}
use Rattle.vab_marks.specs.Mark.{may_stand_apart}
use Rattle.vab_device.proofs.MarkLaws.{not_apart}
use Rattle.vab_device.proofs.PhaseCases.{no_target}
use Rattle.vab_device.proofs.MarkLaws.{not_overlaid}
use Rattle.vab_device.proofs.OverlayLaws.{update_none}
use Rattle.vab_marks.specs.Mark.{is_idle}
use Rattle.vab_device.specs.Kept.{IsOverlay, parts_at}

-- ---- without the source

module _ {X : Type 0} where
  -- what is given up of slot a, and of slot b
  has_a_at : (n : ℕ) (a : Option X)
      → n < 2
      → is_some a ≡ true
      → is_some (if n == 0 then None else a) ≡ (other_slot n == 0)
  has_a_at zero a below has = refl
  has_a_at (suc zero) a below has = has
  has_a_at (suc (suc n)) a below has = absurd (omega (arith, below))

  has_b_at : (n : ℕ) (b : Option X)
      → n < 2
      → is_some b ≡ true
      → is_some (if n == 0 then b else None) ≡ (other_slot n == 1)
  has_b_at zero b below has = has
  has_b_at (suc zero) b below has = refl
  has_b_at (suc (suc n)) b below has = absurd (omega (arith, below))

  without_first : (P : Option X → Type 0) (n : ℕ) (x : Option X)
      → P None
      → P x
      → P (if n == 0 then None else x)
  without_first P n x none is = elim (cases_Bool (n == 0)) [ inl h ↦ rw h none | inr h ↦ rw h is ]

  without_other : (P : Option X → Type 0) (n : ℕ) (x : Option X)
      → P None
      → P x
      → P (if n == 0 then x else None)
  without_other P n x none is = elim (cases_Bool (n == 0)) [ inl h ↦ rw h is | inr h ↦ rw h none ]

target_at : (n : ℕ) (a b : Option Table)
    → n < 2
    → (if other_slot n == 0 then (if n == 0 then None else a) else (if n == 0 then b else None))
    ≡ (if other_slot n == 0 then a else b)
target_at zero a b below = refl
target_at (suc zero) a b below = refl
target_at (suc (suc n)) a b below = absurd (omega (arith, below))

source_at : (n : ℕ) (a b : Option Table)
    → n < 2
    → (if other_slot (other_slot n) == 0
    then (if n == 0 then None else a)
    else (if n == 0 then b else None))
    ≡ None
source_at zero a b below = refl
source_at (suc zero) a b below = refl
source_at (suc (suc n)) a b below = absurd (omega (arith, below))

pub merging_kept : (d : Device) (size : ℕ)
    → IsDevice d size
    → MayMerge d
    → IsDevice (merging_device d) size
merging_kept d size is may =
    let n = d.mark.slot in
    let both = both_of d size is (ap has_both may.staged) in
    let super_end = d.tail.super_end in
    let g = d.geometry in
    let own : table_of_slot (merging_device d) (other_slot n) ≡ table_of_slot d (other_slot n) =
    target_at n d.table_a d.table_b is.slot in
    let other : table_of_slot (merging_device d) (other_slot (other_slot n)) ≡ None =
    source_at n d.table_a d.table_b is.slot in
    record {
      enough = is.enough;
      ends = is.ends;
      geometry = is.geometry;
      control = is.control;
      phase = inr (inr (inr refl));
      slot = omega arith;
      flags = (refl, refl);
      current = eq-eqb (other_slot n) d.control.current (sym may.running);
      has_a = has_a_at n d.a is.slot (ap is_some both.2);
      has_b = has_b_at n d.b is.slot (ap is_some both.3);
      copies_on = is.copies_on;
      parts_a = without_first (ArePresent super_end) n d.a tt is.parts_a;
      parts_b = without_other (ArePresent super_end) n d.b tt is.parts_b;
      table_a = without_first (IsKeptTable super_end g 0) n d.table_a tt is.table_a;
      table_b = without_other (IsKeptTable super_end g 1) n d.table_b tt is.table_b;
      source = ap is_some own ∙ is.target ∙ ap reads_both may.staged;
      target = ap is_some other;
      planned = is.planned ∙ ap is_installing may.staged;
      plan = is.plan;
      update =
          subst
          (λ (x : Option Table).
          IsUpdate false (other_slot n) (table_of_slot (merging_device d) (other_slot n)) x)
          (sym other)
          (no_target false (other_slot n) (table_of_slot (merging_device d) (other_slot n)));
      overlaid = is.overlaid ∙ not_overlaid d.mark is.flags (ap is_idle may.staged);
      overlay = subst
          (IsOverlay super_end (parts_at (merging_device d) (other_slot n)))
          (sym (update_none d size is (ap is_idle may.staged)))
          tt;
    }

-- ---- without stores

plain_is_part : (size : ℕ) (p : Part) → IsPart size p → IsPart size (plain_part p)
plain_is_part size p is = record {
  name = is.name;
  on_disk = is.on_disk;
  once = is.once;
  small = is.small;
  store = tt;
}

plain_each : (size : ℕ) (ps : List Part)
    → All (IsPart size) ps
    → All (IsPart size) (map plain_part ps)
plain_each size ps are =
    All-map (IsPart size) plain_part ps
    (All-weaker (IsPart size) (λ p. IsPart size (plain_part p)) (plain_is_part size) ps are)

plain_long : (ps : List Part) → length (map plain_part ps) ≡ length ps
plain_long [] = refl
plain_long (p ∷ ps) = ap suc (plain_long ps)

plain_present : (size : ℕ) (x : Option (List Part))
    → ArePresent size x
    → ArePresent size (plain_parts x)
plain_present size None are = tt
plain_present size (Some ps) are = record {
  each = plain_each size ps are.each;
  few = omega (arith, plain_long ps, are.few);
}

pub plain_there : (x : Option (List Part)) → is_some (plain_parts x) ≡ is_some x
plain_there None = refl
plain_there (Some ps) = refl

pub ended_kept : (d : Device) (size : ℕ)
    → IsDevice d size
    → d.mark.phase ≡ marks.Merging
    → IsDevice (ended_device d) size
ended_kept d size is merging =
    let n = d.mark.slot in
    let has = λ (slot : ℕ). ap (λ (p : MarkPhase). has_slot p n slot) merging in
    record {
      enough = is.enough;
      ends = is.ends;
      geometry = is.geometry;
      control = is.control;
      phase = inl refl;
      slot = is.slot;
      flags = (refl, refl);
      current = sym (has d.control.current) ∙ is.current;
      has_a = plain_there d.a ∙ is.has_a ∙ has 0;
      has_b = plain_there d.b ∙ is.has_b ∙ has 1;
      copies_on = is.copies_on;
      parts_a = plain_present d.tail.super_end d.a is.parts_a;
      parts_b = plain_present d.tail.super_end d.b is.parts_b;
      table_a = is.table_a;
      table_b = is.table_b;
      source = is.source;
      target = is.target ∙ ap reads_both merging;
      planned = is.planned ∙ ap is_installing merging;
      plan = is.plan;
      update =
          subst
          (λ (apart : Bool).
          IsUpdate apart n (table_of_slot d n) (table_of_slot d (other_slot n)))
          (not_apart d.mark is.flags (ap may_stand_apart merging)) is.update;
      overlaid = is.overlaid ∙ not_overlaid d.mark is.flags (ap is_idle merging);
      overlay = subst
          (IsOverlay d.tail.super_end (parts_at (ended_device d) n))
          (sym (update_none d size is (ap is_idle merging)))
          tt;
    }
