-- Turns, one after another, and as many at once.
use Rattle.std.proofs.Common.{◌≡◌, ◌∙◌, ℕ, zero, suc, ◌+◌, ◌-◌, ◌≤◌, ◌<◌, true}
use Rattle.std.proofs.Common.{List, [], ◌∷◌, length, get_or, set, take, refl, sym, ap, arith}
use Rattle.std.proofs.Common.{length-take-le}
use Rattle.std.specs.Prelude.{Bool, Option, Some, None, ◌&&◌}
use Rattle.std.proofs.lemmas.Bool.{ltb-true, lt-ltb}
use Rattle.std.proofs.lemmas.List.{take_all, take-take, get_or-set_same}
use Rattle.std.proofs.lemmas.List.{set-get_or, length-set}
use Rattle.std.proofs.lemmas.List.Elements.{All-get_or}
use Rattle.vab_marks.specs.declared.mark.MarkPhase.TheVariants as marks
use Rattle.vab_store.proofs.ViewLaws.{take_fits}
use Rattle.vab_device.specs.declared.device.Part.{Part}
use Rattle.vab_device.specs.declared.device.PartImage.{PartImage}
use Rattle.vab_device.specs.declared.device.PartImage.TheVariants.{Kept, Declared, Written}
use Rattle.vab_device.specs.declared.device.Device.{Device}
use Rattle.vab_device.specs.Kept.{IsDevice, IsPart, IsStored, table_of_slot}
use Rattle.vab_device.specs.Mounted.{count_of, count_in}
use Rattle.vab_merging.specs.Turns.{next_of, own_of, no_part, part_at, cut_image, cut_part}
use Rattle.vab_merging.specs.Turns.{with_own, cut_at, turn_at, turned, left_in, has_store}
use Rattle.vab_merging.specs.Turns.{has_exceptions, first_place, stores_in}
use Rattle.vab_merging.proofs.PlaceLaws.{takes, first_set, IsFound, found_of}
use Rattle.vab_merging.proofs.OwnLaws.{Single, single_of, own_with, with_again, with_same}
use Rattle.vab_merging.proofs.OwnLaws.{own_kept, with_kept}
use Rattle.vab_device.proofs.NamedParts.{all_set}

-- ---- one partition

cut_image_none : (image : PartImage) → cut_image 0 image ≡ image
cut_image_none Kept = refl
cut_image_none Declared = refl
cut_image_none (Written k es) =
    ap (Written k) (take_all (length es - 0) es (omega arith))

pub cut_none : (p : Part) → cut_part 0 p ≡ p
cut_none p = (λ i. record p { image = cut_image_none p.image i })

cut_image_more : (n : ℕ) (image : PartImage)
    → cut_image n (cut_image 1 image) ≡ cut_image (suc n) image
cut_image_more n Kept = refl
cut_image_more n Declared = refl
cut_image_more n (Written k es) =
    let long : length (take (length es - 1) es) ≡ length es - 1 =
    length-take-le (length es - 1) es (omega arith) in
    let both : length (take (length es - 1) es) - n ≡ length es - suc n = omega (arith, long) in
    ap (λ (m : ℕ). Written k (take m (take (length es - 1) es))) both
    ∙ ap (Written k) (take-take (length es - suc n) (length es - 1) es (omega arith))

pub cut_more : (n : ℕ) (p : Part) → cut_part n (cut_part 1 p) ≡ cut_part (suc n) p
cut_more n p = (λ i. record p { image = cut_image_more n p.image i })

count_cut_image : (n : ℕ) (image : PartImage)
    → count_of (cut_image n image) ≡ count_of image - n
count_cut_image n Kept = omega arith
count_cut_image n Declared = omega arith
count_cut_image n (Written k es) = length-take-le (length es - n) es (omega arith)

pub count_cut : (n : ℕ) (p : Part) → count_of (cut_part n p).image ≡ count_of p.image - n
count_cut n p = count_cut_image n p.image

stored_cut : (size n : ℕ) (base : List ℕ) (store : Option (List ℕ)) (image : PartImage)
    → IsStored size base store image
    → IsStored size base store (cut_image n image)
stored_cut size n base None Kept is = is
stored_cut size n base None Declared is = is
stored_cut size n base None (Written k []) is = take_all (0 - n) [] (omega arith)
stored_cut size n base None (Written k (e ∷ es)) is = absurd cc
stored_cut size n base (Some store) Kept is = is
stored_cut size n base (Some store) Declared is = is
stored_cut size n base (Some store) (Written k es) is =
    (is.0, take_fits (length base) store es (length es - n) (omega arith) is.1)

part_cut : (size n : ℕ) (p : Part) → IsPart size p → IsPart size (cut_part n p)
part_cut size n p is = record {
  name = is.name;
  on_disk = is.on_disk;
  once = is.once;
  small = is.small;
  store = stored_cut size n p.map p.store p.image is.store;
}

-- ---- one partition of a list

pub set_again : (ps : List Part) (k : ℕ) (x y : Part) → set (set ps k x) k y ≡ set ps k y
set_again [] k x y = refl
set_again (p ∷ ps) zero x y = refl
set_again (p ∷ ps) (suc k) x y = ap (λ (l : List Part). p ∷ l) (set_again ps k x y)

pub count_here : (ps : List Part) (k : ℕ)
    → count_of (get_or ps k no_part).image ≤ count_in ps
count_here [] k = omega arith
count_here (p ∷ ps) zero = omega arith
count_here (p ∷ ps) (suc k) = omega (arith, count_here ps k)

pub count_set : (n : ℕ) (ps : List Part) (k : ℕ)
    → n ≤ count_of (get_or ps k no_part).image
    → count_in (set ps k (cut_part n (get_or ps k no_part))) ≡ count_in ps - n
count_set n [] k few = omega (arith, few)
count_set n (p ∷ ps) zero few = omega (arith, count_cut n p, few)
count_set n (p ∷ ps) (suc k) few =
    omega (arith, count_set n ps k few, few, count_here ps k)

-- ---- a cut

module _ (d : Device) (place : ℕ) where
  pub own_cut : (n : ℕ) → own_of (cut_at place n d)
      ≡ set (own_of d) place (cut_part n (part_at d place))
  own_cut n = own_with d (set (own_of d) place (cut_part n (part_at d place)))

  pub part_cut_at : (n : ℕ)
      → place < length (own_of d)
      → part_at (cut_at place n d) place ≡ cut_part n (part_at d place)
  part_cut_at n below =
      ap (λ (ps : List Part). get_or ps place no_part) (own_cut n)
      ∙ get_or-set_same (own_of d) place (cut_part n (part_at d place)) no_part below

  pub length_cut : (n : ℕ) → length (own_of (cut_at place n d)) ≡ length (own_of d)
  length_cut n = ap length (own_cut n) ∙ length-set (own_of d) place _

  pub nothing_cut : Single d → cut_at place 0 d ≡ d
  nothing_cut s =
      ap (λ (p : Part). with_own d (set (own_of d) place p)) (cut_none (part_at d place))
      ∙ ap (with_own d) (set-get_or (own_of d) place no_part)
      ∙ with_same d s

  pub again_cut : (n : ℕ)
      → place < length (own_of d)
      → cut_at place n (cut_at place 1 d) ≡ cut_at place (suc n) d
  again_cut n below =
      let ps : List Part = own_of d in
      let p : Part = part_at d place in
      let whole : set (own_of (cut_at place 1 d)) place
      (cut_part n (part_at (cut_at place 1 d) place))
      ≡ set ps place (cut_part (suc n) p) =
      (λ i. set (own_cut 1 i) place (cut_part n (part_cut_at 1 below i)))
      ∙ set_again ps place (cut_part 1 p) (cut_part n (cut_part 1 p))
      ∙ ap (set ps place) (cut_more n p) in
      ap (with_own (cut_at place 1 d)) whole
      ∙ with_again d (set ps place (cut_part 1 p)) (set ps place (cut_part (suc n) p))

  -- how many are left
  pub left_cut : (n : ℕ)
      → n ≤ count_of (part_at d place).image
      → left_in (cut_at place n d) ≡ left_in d - n
  left_cut n few = ap count_in (own_cut n) ∙ count_set n (own_of d) place few

  -- the next place is the same, while its store has exceptions
  pub next_cut : (n : ℕ)
      → next_of d ≡ Some place
      → n < count_of (part_at d place).image
      → next_of (cut_at place n d) ≡ Some place
  next_cut n is more =
      let p : Part = part_at d place in
      let stores : List (List ℕ) = stores_in d.mark.slot (table_of_slot d d.mark.slot) in
      let was : has_exceptions p ≡ true = lt-ltb 0 (count_of p.image) (omega (arith, more)) in
      let now : has_exceptions (cut_part n p) ≡ true =
      lt-ltb 0 (count_of (cut_part n p).image) (omega (arith, count_cut n p, more)) in
      let same : (store : List ℕ)
      → takes d.mark.slot store (cut_part n p) ≡ takes d.mark.slot store p =
      λ store.
      ap (λ (b : Bool). has_store d.mark.slot store p && b) (now ∙ sym was) in
      ap (λ (ps : List Part). first_place d.mark.slot ps stores) (own_cut n)
      ∙ first_set d.mark.slot (own_of d) place (cut_part n p) stores same
      ∙ is

-- it keeps the rules
pub cut_kept : (d : Device) (size place n : ℕ)
    → Single d
    → IsDevice d size
    → place < length (own_of d)
    → IsDevice (cut_at place n d) size
cut_kept d size place n s is below =
    let own = own_kept d size s is in
    let super_end = d.tail.super_end in
    let p : Part = part_at d place in
    with_kept d size (set (own_of d) place (cut_part n p)) s is (record {
      each =
          all_set (IsPart super_end) (own_of d) place (cut_part n p) own.each
          (part_cut super_end n p
          (All-get_or (IsPart super_end) (own_of d) place no_part below own.each));
      few = omega (arith, own.few, length-set (own_of d) place (cut_part n p));
    })

-- ---- turns

turned_none : (d : Device) → turned 0 d ≡ d
unfolding turned
turned_none d = refl

pub turned_suc : (n : ℕ) (d : Device) → turned (suc n) d ≡ turned n (turn_at d (next_of d))
unfolding turned
turned_suc n d = refl

pub turned_zero : (d : Device) → turned 0 d ≡ d
turned_zero d = turned_none d

-- the next place has exceptions
pub next_has : (d : Device) (place : ℕ)
    → next_of d ≡ Some place
    → (place < length (own_of d)) × (0 < count_of (part_at d place).image)
next_has d place is =
    let found : IsFound (own_of d) place =
    found_of d.mark.slot (own_of d) (stores_in d.mark.slot (table_of_slot d d.mark.slot)) place is
    in
    (found.within, ltb-true 0 (count_of (part_at d place).image) found.some)

-- so many turns take the same store, while it has as many exceptions
pub cut_turned : (n : ℕ) (d : Device) (size place : ℕ)
    → IsDevice d size
    → d.mark.phase ≡ marks.Merging
    → next_of d ≡ Some place
    → n ≤ count_of (part_at d place).image
    → cut_at place n d ≡ turned n d
cut_turned zero d size place is phase next few =
    nothing_cut d place (single_of d size is phase) ∙ sym (turned_none d)
cut_turned (suc zero) d size place is phase next few =
    sym (turned_suc 0 d
    ∙ turned_none (turn_at d (next_of d))
    ∙ ap (turn_at d) next)
cut_turned (suc (suc n)) d size place is phase next few =
    let has = next_has d place next in
    let s = single_of d size is phase in
    let later : Device = cut_at place 1 d in
    let count : count_of (part_at later place).image ≡ count_of (part_at d place).image - 1 =
    ap (λ (p : Part). count_of p.image) (part_cut_at d place 1 has.0)
    ∙ count_cut 1 (part_at d place) in
    let rest : cut_at place (suc n) later ≡ turned (suc n) later =
    cut_turned (suc n) later size place (cut_kept d size place 1 s is has.0) phase
    (next_cut d place 1 next (omega (arith, few))) (omega (arith, count, few)) in
    sym (again_cut d place (suc n) has.0)
    ∙ rest
    ∙ sym (turned_suc (suc n) d ∙ ap (λ (o : Option ℕ). turned (suc n) (turn_at d o)) next)

-- ---- what turns leave alone

pub record SameBeside (d next : Device) : Type 0 where
  pub geometry : next.geometry ≡ d.geometry
  pub control : next.control ≡ d.control
  pub mark : next.mark ≡ d.mark
  pub table_a : next.table_a ≡ d.table_a
  pub table_b : next.table_b ≡ d.table_b
  pub plan : next.plan ≡ d.plan

turn_beside : (d : Device) (o : Option ℕ) → SameBeside d (turn_at d o)
turn_beside d None = record {
  geometry = refl;
  control = refl;
  mark = refl;
  table_a = refl;
  table_b = refl;
  plan = refl;
}
turn_beside d (Some place) = record {
  geometry = refl;
  control = refl;
  mark = refl;
  table_a = refl;
  table_b = refl;
  plan = refl;
}

pub turned_beside : (n : ℕ) (d : Device) → SameBeside d (turned n d)
unfolding turned
turned_beside zero d = turn_beside d None
turned_beside (suc n) d =
    let first = turn_beside d (next_of d) in
    let rest = turned_beside n (turn_at d (next_of d)) in
    record {
      geometry = rest.geometry ∙ first.geometry;
      control = rest.control ∙ first.control;
      mark = rest.mark ∙ first.mark;
      table_a = rest.table_a ∙ first.table_a;
      table_b = rest.table_b ∙ first.table_b;
      plan = rest.plan ∙ first.plan;
    }

pub turned_mark : (n : ℕ) (d : Device) → (turned n d).mark ≡ d.mark
turned_mark n d = (turned_beside n d).mark

pub turned_more : (m n : ℕ) (d : Device) → turned (m + n) d ≡ turned n (turned m d)
unfolding turned
turned_more zero n d =
    let none : 0 + n ≡ n = omega arith in ap (λ (k : ℕ). turned k d) none
turned_more (suc m) n d =
    let more : suc m + n ≡ suc (m + n) = omega arith in
    ap (λ (k : ℕ). turned k d) more ∙ turned_more m n (turn_at d (next_of d))
