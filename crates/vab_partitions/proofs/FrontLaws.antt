-- The steps of a loop over the partitions and stores of a slot.
use Rattle.std.proofs.Common.{◌≡◌, ℕ, ◌+◌, ◌≤◌, ◌<◌, true, false, ◌||◌, List, [], ◌∷◌, ◌++◌, length}
use Rattle.std.proofs.Common.{get_or, take, drop, refl, sym, ◌∙◌, ap, subst, arith, append_assoc}
use Rattle.std.proofs.lemmas.Bool.{or_parts}
use Rattle.std.proofs.lemmas.List.{append-nil, length-append, take-append-drop, take_all, take_more}
use Rattle.std.proofs.lemmas.List.Elements.{All-append, All-cons, All-nil, All-contains}
use Rattle.std.proofs.lemmas.List.Elements.{filter-append, Contains-append_right}
use Rattle.vab_names.specs.Names.{is_of_slot, is_store}
use Rattle.vab_layout.specs.declared.layout.Part.{Part}
use Rattle.vab_layout.specs.Layout.{blocks_of_parts}
use Rattle.vab_layout.specs.Slots.{own_parts, IsDistinct}
use Rattle.vab_partitions.specs.declared.target.Front.{Front}
use Rattle.vab_partitions.specs.Together.{target_parts, Together, FirstBad}
use Rattle.vab_partitions.specs.Front.{IsStart, Joins, IsJoined}
use Rattle.vab_blocks.specs.Blocks.{is_distinct}
use Rattle.vab_blocks.proofs.Distinct.{distinct_left}
use Rattle.vab_partitions.proofs.OwnLaws.{blocks_append}
use Rattle.vab_partitions.proofs.OwnRules.{with_one}
use Rattle.vab_partitions.proofs.TargetLaws.{in_target, own_of_target}

-- What was seen are the partitions and stores in front of a place, and these keep their rules.
pub record Stands (most slot : ℕ) (Keeps : Part → Type 0) (target : List Part) (i : ℕ)
    (front : Front) : Type 0 where
  pub seen : front.seen ≡ blocks_of_parts (target_parts slot (take i target))
  pub own : front.own ≡ length (own_parts slot (take i target))
  pub kept : Together most slot Keeps (target_parts slot (take i target))
  pub apart : front.apart ≡ is_distinct (blocks_of_parts (target_parts slot target))

pub stands_first : (most slot : ℕ) (Keeps : Part → Type 0) (target : List Part) (front : Front)
    → IsStart slot target front
    → Stands most slot Keeps target 0 front
stands_first most slot Keeps target front start = record {
  apart = start.apart;
  seen = start.seen;
  own = start.own;
  kept = record {
    each = All-nil Keeps;
    few = omega arith;
    once = λ i j d lt below. absurd (omega arith);
  };
}

-- ---- the next

next_target : (slot : ℕ) (parts : List Part) (i : ℕ) (p : Part)
    → i < length parts
    → p ≡ get_or parts i p
    → target_parts slot (take (i + 1) parts)
    ≡ target_parts slot (take i parts) ++ target_parts slot (p ∷ [])
next_target slot parts i p lt at =
    ap (target_parts slot) (take_more parts i p lt)
    ∙ ap (λ (q : Part). target_parts slot (take i parts ++ q ∷ [])) (sym at)
    ∙ filter-append (in_target slot) (take i parts) (p ∷ [])

next_own : (slot : ℕ) (parts : List Part) (i : ℕ) (p : Part)
    → i < length parts
    → p ≡ get_or parts i p
    → length (own_parts slot (take (i + 1) parts))
    ≡ length (own_parts slot (take i parts)) + length (own_parts slot (p ∷ []))
next_own slot parts i p lt at =
    ap (λ (l : List Part). length (own_parts slot l)) (take_more parts i p lt)
    ∙ ap (λ (q : Part). length (own_parts slot (take i parts ++ q ∷ []))) (sym at)
    ∙ ap length (filter-append (λ (q : Part). is_of_slot slot q.name) (take i parts) (p ∷ []))
    ∙ length-append (own_parts slot (take i parts)) (own_parts slot (p ∷ []))

-- a partition that is no part of the target is passed over
pub stands_skip : (most slot : ℕ) (Keeps : Part → Type 0) (target : List Part) (i : ℕ)
    (front : Front) (p : Part)
    → Stands most slot Keeps target i front
    → i < length target
    → p ≡ get_or target i p
    → (is_of_slot slot p.name || is_store slot p.name) ≡ false
    → Stands most slot Keeps target (i + 1) front
stands_skip most slot Keeps target i front p s lt at other =
    let parts = or_parts (is_of_slot slot p.name) (is_store slot p.name) other in
    let none : target_parts slot (p ∷ []) ≡ [] = rw (parts.0, parts.1) refl in
    let no_own : own_parts slot (p ∷ []) ≡ [] = rw parts.0 refl in
    let same : target_parts slot (take (i + 1) target) ≡ target_parts slot (take i target) =
    next_target slot target i p lt at
    ∙ ap (λ (l : List Part). target_parts slot (take i target) ++ l) none
    ∙ append-nil (target_parts slot (take i target)) in
    record {
      apart = s.apart;
      seen = s.seen ∙ ap blocks_of_parts (sym same);
      own = omega (arith, s.own, next_own slot target i p lt at, ap length no_own);
      kept = subst (Together most slot Keeps) (sym same) s.kept;
    }

-- ---- one more of them

joined_keeps : (most slot : ℕ) (Keeps : Part → Type 0) (target : List Part) (i : ℕ)
    (front : Front) (p : Part)
    → Stands most slot Keeps target i front
    → Joins most slot Keeps front p
    → Together most slot Keeps (target_parts slot (take i target) ++ p ∷ [])
joined_keeps most slot Keeps target i front p s j =
    let xs : List Part = target_parts slot (take i target) in
    record {
      each = All-append Keeps xs (p ∷ []) s.kept.each
          (All-cons Keeps p [] j.alone
          (All-nil Keeps));
      few = omega (
        arith,
        j.room.few,
        s.own,
        ap length (own_of_target slot (take i target)),
        ap length (filter-append (λ (q : Part). is_of_slot slot q.name) xs (p ∷ [])),
        length-append (own_parts slot xs) (own_parts slot (p ∷ [])),
      );
      once = subst IsDistinct (sym (with_one xs p))
          (subst (λ (l : List ℕ). IsDistinct (l ++ p.blocks)) s.seen j.room.once);
    }

keeps_joined : (most slot : ℕ) (Keeps : Part → Type 0) (target : List Part) (i : ℕ)
    (front : Front) (p : Part)
    → Stands most slot Keeps target i front
    → Together most slot Keeps (target_parts slot (take i target) ++ p ∷ [])
    → Joins most slot Keeps front p
keeps_joined most slot Keeps target i front p s k =
    let xs : List Part = target_parts slot (take i target) in
    record {
      room = record {
        once = subst (λ (l : List ℕ). IsDistinct (l ++ p.blocks)) (sym s.seen)
            (subst IsDistinct (with_one xs p) k.once);
        few = omega (
          arith,
          k.few,
          s.own,
          ap length (own_of_target slot (take i target)),
          ap length (filter-append (λ (q : Part). is_of_slot slot q.name) xs (p ∷ [])),
          length-append (own_parts slot xs) (own_parts slot (p ∷ [])),
        );
      };
      alone = All-contains Keeps (xs ++ p ∷ []) p k.each
          (Contains-append_right xs (p ∷ []) p (0, omega arith, refl));
    }

one_more : (slot : ℕ) (target : List Part) (i : ℕ) (p : Part)
    → i < length target
    → p ≡ get_or target i p
    → (is_of_slot slot p.name || is_store slot p.name) ≡ true
    → target_parts slot (take (i + 1) target) ≡ target_parts slot (take i target) ++ p ∷ []
one_more slot target i p lt at is =
    let one : target_parts slot (p ∷ []) ≡ p ∷ [] = rw is refl in
    next_target slot target i p lt at
    ∙ ap (λ (l : List Part). target_parts slot (take i target) ++ l) one

pub stands_take : (most slot : ℕ) (Keeps : Part → Type 0) (target : List Part) (i : ℕ)
    (front new : Front) (p : Part)
    → Stands most slot Keeps target i front
    → i < length target
    → p ≡ get_or target i p
    → (is_of_slot slot p.name || is_store slot p.name) ≡ true
    → Joins most slot Keeps front p
    → IsJoined slot front new p
    → Stands most slot Keeps target (i + 1) new
stands_take most slot Keeps target i front new p s lt at is j joined =
    let more = one_more slot target i p lt at is in
    record {
      apart = joined.apart ∙ s.apart;
      seen = joined.seen ∙ ap (λ (l : List ℕ). l ++ p.blocks) s.seen
          ∙ sym (with_one (target_parts slot (take i target)) p)
          ∙ ap blocks_of_parts (sym more);
      own = omega (arith, joined.own, s.own, next_own slot target i p lt at);
      kept = subst (Together most slot Keeps) (sym more)
          (joined_keeps most slot Keeps target i front p s j);
    }

-- ---- what is answered

pub bad_first : (most slot : ℕ) (Keeps : Part → Type 0) (target : List Part) (i : ℕ)
    (front : Front) (p : Part)
    → Stands most slot Keeps target i front
    → i < length target
    → p ≡ get_or target i p
    → (is_of_slot slot p.name || is_store slot p.name) ≡ true
    → (Joins most slot Keeps front p → ⊥)
    → FirstBad most slot Keeps target p.name
bad_first most slot Keeps target i front p s lt at is refused =
    let xs : List Part = target_parts slot (take i target) in
    let rest : List Part = target_parts slot (drop (i + 1) target) in
    record {
      before = xs;
      bad = p;
      behind = rest;
      split = ap (target_parts slot) (sym (take-append-drop (i + 1) target))
          ∙ filter-append (in_target slot) (take (i + 1) target) (drop (i + 1) target)
          ∙ ap (λ (l : List Part). l ++ rest) (one_more slot target i p lt at is)
          ∙ append_assoc xs (p ∷ []) rest;
      named = refl;
      kept = s.kept;
      broken = λ k. refused (keeps_joined most slot Keeps target i front p s k);
    }

pub stands_last : (most slot : ℕ) (Keeps : Part → Type 0) (target : List Part) (i : ℕ)
    (front : Front)
    → Stands most slot Keeps target i front
    → length target ≤ i
    → Together most slot Keeps (target_parts slot target)
stands_last most slot Keeps target i front s done =
    subst (λ (l : List Part). Together most slot Keeps (target_parts slot l))
    (take_all i target done) s.kept

-- at most so many partitions were seen
pub own_few : (most slot : ℕ) (Keeps : Part → Type 0) (target : List Part) (i : ℕ) (front : Front)
    → Stands most slot Keeps target i front
    → front.own ≤ most
own_few most slot Keeps target i front s =
    omega (arith, s.own, s.kept.few, ap length (own_of_target slot (take i target)))

-- where no block stands twice in all, none does in the front and the next
pub apart_next : (most slot : ℕ) (Keeps : Part → Type 0) (target : List Part) (i : ℕ)
    (front : Front) (p : Part)
    → Stands most slot Keeps target i front
    → i < length target
    → p ≡ get_or target i p
    → (is_of_slot slot p.name || is_store slot p.name) ≡ true
    → front.apart ≡ true
    → is_distinct (front.seen ++ p.blocks) ≡ true
apart_next most slot Keeps target i front p s lt at is apart =
    let xs : List Part = target_parts slot (take i target) in
    let rest : List Part = target_parts slot (drop (i + 1) target) in
    let split : target_parts slot target ≡ (xs ++ p ∷ []) ++ rest =
    ap (target_parts slot) (sym (take-append-drop (i + 1) target))
    ∙ filter-append (in_target slot) (take (i + 1) target) (drop (i + 1) target)
    ∙ ap (λ (l : List Part). l ++ rest) (one_more slot target i p lt at is) in
    let blocks = ap blocks_of_parts split ∙ blocks_append (xs ++ p ∷ []) rest in
    let front_once : is_distinct (blocks_of_parts (xs ++ p ∷ [])) ≡ true =
    distinct_left (blocks_of_parts (xs ++ p ∷ [])) (blocks_of_parts rest)
    (ap is_distinct (sym blocks) ∙ sym s.apart ∙ apart) in
    ap (λ (l : List ℕ). is_distinct (l ++ p.blocks)) s.seen
    ∙ ap is_distinct (sym (with_one xs p))
    ∙ front_once
