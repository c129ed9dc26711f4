-- The slot of the mark alone has images while its stores are merged.
use Rattle.std.proofs.Common.{◌≡◌, ◌∙◌, ◌⊎◌, inl, inr, ⊎_elim, ℕ, zero, suc, ◌+◌, ◌<◌, true, false}
use Rattle.std.proofs.Common.{List, refl, sym, ap, subst, arith, add-zero, zero-add}
use Rattle.std.specs.Prelude.{Option, Some, None, is_some, map, ◌==◌}
use Rattle.std.proofs.lemmas.Bool.{cases_Bool}
use Rattle.vab_disk.specs.Disk.{Image}
use Rattle.vab_marks.specs.declared.mark.MarkPhase.{MarkPhase}
use Rattle.vab_marks.specs.declared.mark.MarkPhase.TheVariants as marks
use Rattle.vab_model.specs.declared.state.Phase.TheVariants.{Merging}
use Rattle.vab_device.specs.declared.device.Part.{Part}
use Rattle.vab_device.specs.declared.device.Device.{Device}
use Rattle.vab_device.specs.Kept.{IsDevice, AreParts, has_slot, is_installing}
use Rattle.vab_device.specs.Mounted.{count_in, count_at, image_on, state_on, mounted_on}
use Rattle.vab_device.specs.Updates.{merged_to}
use Rattle.vab_marks.specs.Mark.{rephased, resloted}
use Rattle.vab_device.proofs.MarkLaws.{as_mark}
use Rattle.vab_merging.specs.Turns.{own_of, with_own, left_in}
use Rattle.vab_device.proofs.OverlayLaws.{update_none}
use Rattle.vab_marks.specs.Mark.{is_idle}

-- ---- the two forms

-- slot a alone has images, and they are these
abbrev pub in_a : Device → List Part → Device
in_a d parts = record d {
  mark = rephased marks.Merging (resloted 0 d.mark);
  a = Some parts;
  b = None;
  plan = None;
  overlay = None;
}

abbrev pub in_b : Device → List Part → Device
in_b d parts = record d {
  mark = rephased marks.Merging (resloted 1 d.mark);
  a = None;
  b = Some parts;
  plan = None;
  overlay = None;
}

pub record Single (d : Device) : Type 0 where
  pub parts : List Part
  pub either : (d ≡ in_a d parts) ⊎ (d ≡ in_b d parts)

some_of : {X : Type 0} (o : Option X) → is_some o ≡ true → (x : X) × (o ≡ Some x)
some_of None is = absurd cc
some_of (Some x) is = (x, refl)

none_of : {X : Type 0} (o : Option X) → is_some o ≡ false → o ≡ None
none_of None is = refl
none_of (Some x) is = absurd cc

pub single_of : (d : Device) (size : ℕ)
    → IsDevice d size
    → d.mark.phase ≡ marks.Merging
    → Single d
single_of d size is phase =
    let plan : d.plan ≡ None =
    none_of d.plan (is.planned ∙ ap is_installing phase) in
    let has_a : is_some d.a ≡ (d.mark.slot == 0) =
    is.has_a ∙ ap (λ (m : MarkPhase). has_slot m d.mark.slot 0) phase in
    let has_b : is_some d.b ≡ (d.mark.slot == 1) =
    is.has_b ∙ ap (λ (m : MarkPhase). has_slot m d.mark.slot 1) phase in
    by_slot d.mark.slot refl is.slot plan (update_none d size is (ap is_idle phase)) has_a has_b
  where
    by_slot : (slot : ℕ)
        → d.mark.slot ≡ slot
        → d.mark.slot < 2
        → d.plan ≡ None
        → d.overlay ≡ None
        → is_some d.a ≡ (d.mark.slot == 0)
        → is_some d.b ≡ (d.mark.slot == 1)
        → Single d
    by_slot zero slot below plan plain has_a has_b =
        let a = some_of d.a (has_a ∙ ap (λ (k : ℕ). k == 0) slot) in
        let b = none_of d.b (has_b ∙ ap (λ (k : ℕ). k == 1) slot) in
        record {
          parts = a.0;
          either =
              inl (λ i. record d {
                mark = as_mark d.mark marks.Merging 0 is.flags refl phase slot i;
                a = a.1 i;
                b = b i;
                plan = plan i;
                overlay = plain i;
              });
        }
    by_slot (suc zero) slot below plan plain has_a has_b =
        let a = none_of d.a (has_a ∙ ap (λ (k : ℕ). k == 0) slot) in
        let b = some_of d.b (has_b ∙ ap (λ (k : ℕ). k == 1) slot) in
        record {
          parts = b.0;
          either =
              inr (λ i. record d {
                mark = as_mark d.mark marks.Merging 1 is.flags refl phase slot i;
                a = a i;
                b = b.1 i;
                plan = plan i;
                overlay = plain i;
              });
        }
    by_slot (suc (suc n)) slot below plan plain has_a has_b = absurd (omega (arith, slot, below))

-- what holds of both forms holds of the device
pub by_form : (P : Device → Type 0) (d : Device)
    → (s : Single d)
    → P (in_a d s.parts)
    → P (in_b d s.parts)
    → P d
by_form P d s a b =
    ⊎_elim (λ e. subst P (sym e) a) (λ e. subst P (sym e) b) s.either

-- ---- the partitions of the slot

pub own_with : (d : Device) (ps : List Part) → own_of (with_own d ps) ≡ ps
own_with d ps = elim (cases_Bool (d.mark.slot == 0)) [
  | inl a ↦ rw a refl
  | inr b ↦ rw b refl
]

pub with_again : (d : Device) (ps qs : List Part)
    → with_own (with_own d ps) qs ≡ with_own d qs
with_again d ps qs = elim (cases_Bool (d.mark.slot == 0)) [
  | inl a ↦ rw a refl
  | inr b ↦ rw b refl
]

pub with_same : (d : Device) → Single d → with_own d (own_of d) ≡ d
with_same d s = by_form (λ (k : Device). with_own k (own_of k) ≡ k) d s refl refl

pub left_both : (d : Device) (size : ℕ)
    → IsDevice d size
    → d.mark.phase ≡ marks.Merging
    → count_at d.a + count_at d.b ≡ left_in d
left_both d size is phase =
    let s = single_of d size is phase in
    by_form (λ (k : Device). count_at k.a + count_at k.b ≡ left_in k) d s
    (add-zero (count_in s.parts)) (zero-add (count_in s.parts))

-- ---- other partitions in place of those

pub own_kept : (d : Device) (size : ℕ)
    → Single d
    → IsDevice d size
    → AreParts d.tail.super_end (own_of d)
own_kept d size s is =
    by_form (λ (k : Device). IsDevice k size → AreParts k.tail.super_end (own_of k)) d s
    (λ is. is.parts_a) (λ is. is.parts_b) is

pub with_kept : (d : Device) (size : ℕ) (ps : List Part)
    → Single d
    → IsDevice d size
    → AreParts d.tail.super_end ps
    → IsDevice (with_own d ps) size
with_kept d size ps s is parts =
    by_form
    (λ (k : Device).
    IsDevice k size → AreParts k.tail.super_end ps → IsDevice (with_own k ps) size)
    d s
    (λ is parts. record {
      enough = is.enough;
      ends = is.ends;
      geometry = is.geometry;
      control = is.control;
      phase = is.phase;
      slot = is.slot;
      flags = is.flags;
      current = is.current;
      has_a = refl;
      has_b = refl;
      copies_on = is.copies_on;
      parts_a = parts;
      parts_b = tt;
      table_a = is.table_a;
      table_b = is.table_b;
      source = is.source;
      target = is.target;
      planned = refl;
      plan = tt;
      update = is.update;
      overlaid = is.overlaid;
      overlay = tt;
    })
    (λ is parts. record {
      enough = is.enough;
      ends = is.ends;
      geometry = is.geometry;
      control = is.control;
      phase = is.phase;
      slot = is.slot;
      flags = is.flags;
      current = is.current;
      has_a = refl;
      has_b = refl;
      copies_on = is.copies_on;
      parts_a = tt;
      parts_b = parts;
      table_a = is.table_a;
      table_b = is.table_b;
      source = is.source;
      target = is.target;
      planned = refl;
      plan = tt;
      update = is.update;
      overlaid = is.overlaid;
      overlay = tt;
    })
    is parts

-- ---- what the device means with them

mounted_a : (d : Device) (old new : Image) (ps qs : List Part)
    → map (image_on new) qs ≡ map (image_on old) ps
    → mounted_on (with_own (in_a d ps) qs) new
    ≡ merged_to (mounted_on (in_a d ps) old) 0 (count_in qs)
unfolding state_on
mounted_a d old new ps qs same =
    let left : count_in qs + 0 ≡ count_in qs = add-zero (count_in qs) in
    (λ i. record (mounted_on (in_a d ps) old) {
      state = record (state_on (in_a d ps) old) {
        a = Some (same i);
        phase = Merging 0 (left i);
      };
    })

mounted_b : (d : Device) (old new : Image) (ps qs : List Part)
    → map (image_on new) qs ≡ map (image_on old) ps
    → mounted_on (with_own (in_b d ps) qs) new
    ≡ merged_to (mounted_on (in_b d ps) old) 1 (count_in qs)
unfolding state_on
mounted_b d old new ps qs same =
    let left : 0 + count_in qs ≡ count_in qs = zero-add (count_in qs) in
    (λ i. record (mounted_on (in_b d ps) old) {
      state = record (state_on (in_b d ps) old) {
        b = Some (same i);
        phase = Merging 1 (left i);
      };
    })

-- where the images are the same, that many exceptions are left
pub mounted_with : (d : Device) (old new : Image) (qs : List Part)
    → Single d
    → map (image_on new) qs ≡ map (image_on old) (own_of d)
    → mounted_on (with_own d qs) new
    ≡ merged_to (mounted_on d old) d.mark.slot (count_in qs)
mounted_with d old new qs s same =
    by_form
    (λ (k : Device).
    map (image_on new) qs ≡ map (image_on old) (own_of k)
    → mounted_on (with_own k qs) new ≡ merged_to (mounted_on k old) k.mark.slot (count_in qs))
    d s
    (mounted_a d old new s.parts qs)
    (mounted_b d old new s.parts qs)
    same

-- nothing is merged
pub mounted_here : (d : Device) (image : Image)
    → Single d
    → mounted_on d image ≡ merged_to (mounted_on d image) d.mark.slot (left_in d)
mounted_here d image s =
    ap (λ (k : Device). mounted_on k image) (sym (with_same d s))
    ∙ mounted_with d image image (own_of d) s refl
