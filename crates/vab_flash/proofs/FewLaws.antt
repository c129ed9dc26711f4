-- How many differing names some partitions have.
use Rattle.std.proofs.Common.{◌≡◌, ◌≢◌, ◌⊎◌, inl, inr, ℕ, zero, suc, ◌<◌, ◌≤◌, false, List}
use Rattle.std.proofs.Common.{[], ◌∷◌, length, map, get_or, Option, Some, None, sym, ap, arith}
use Rattle.std.proofs.Common.{◌∙◌, ◌+◌, refl}
use Rattle.std.specs.Prelude.{if◌then◌else◌, All, AllPairs, Contains}
use Rattle.std.specs.Str.{bytes_eq}
use Rattle.std.proofs.lemmas.Bool.{cases_Bool, both_ways}
use Rattle.std.proofs.lemmas.List.{length-map}
use Rattle.std.proofs.lemmas.List.Elements.{All-contains, All-map}
use Rattle.vab_marks.specs.declared.status.PartStatus.{PartStatus}
use Rattle.vab_names.proofs.NameCases.{same_name, eq_name}
use Rattle.vab_blocks.proofs.Contained.{cons_cases, none_in_nil}
use Rattle.vab_layout.specs.declared.layout.Part.{Part as PartOfLayout}
use Rattle.vab_layout.specs.Slots.{IsDistinct}
use Rattle.vab_builder.proofs.Counting.{pairs_map, pairs_weaker, few_below}
use Rattle.vab_statuses.specs.Statuses.{written_in, free_from}

-- where no sector is free there are as many statuses as sectors
pub all_written : (at : ℕ) (l : List (Option PartStatus))
    → free_from at l ≡ None
    → length (written_in l) ≡ length l
all_written at [] h = refl
all_written at (None ∷ rest) h = absurd (let no : Some at ≡ None = h in cc)
all_written at (Some s ∷ rest) h = ap suc (all_written (at + 1) rest h)

-- ---- names of partitions

-- one of these has the name
abbrev pub IsNamed : List PartOfLayout → List ℕ → Type 0
IsNamed [] name = ⊥
IsNamed (p ∷ ps) name = (p.name ≡ name) ⊎ IsNamed ps name

pub named_in_list : (ps : List PartOfLayout) (p : PartOfLayout)
    → Contains ps p
    → IsNamed ps p.name
named_in_list [] p c = absurd (none_in_nil p c)
named_in_list (q ∷ qs) p c = elim (cons_cases q qs p c) [
  | inl here ↦ inl (ap (λ (x : PartOfLayout). x.name) here)
  | inr there ↦ inr (named_in_list qs p there)
]

-- the place of the first of a name
abbrev place_in : List PartOfLayout → List ℕ → ℕ
place_in [] name = zero
place_in (p ∷ ps) name = if bytes_eq p.name name then zero else suc (place_in ps name)

named_later : (p : PartOfLayout) (ps : List PartOfLayout) (name : List ℕ)
    → bytes_eq p.name name ≡ false
    → IsNamed (p ∷ ps) name
    → IsNamed ps name
named_later p ps name other (inl here) =
    absurd (both_ways (bytes_eq p.name name) other (eq_name p.name name here))
named_later p ps name other (inr there) = there

place_below : (ps : List PartOfLayout) (name : List ℕ)
    → IsNamed ps name
    → place_in ps name < length ps
place_below [] name is = absurd is
place_below (p ∷ ps) name is = elim (cases_Bool (bytes_eq p.name name)) [
  | inl here ↦ rw here (omega arith)
  | inr other ↦
      let rest : place_in ps name < length ps =
      place_below ps name (named_later p ps name other is) in
      rw other (omega (arith, rest))
]

place_apart : (ps : List PartOfLayout) (a b : List ℕ)
    → IsNamed ps a
    → IsNamed ps b
    → place_in ps a ≡ place_in ps b
    → a ≡ b
place_apart [] a b is also same = absurd is
place_apart (p ∷ ps) a b is also same = elim (cases_Bool (bytes_eq p.name a)) [
  | inl here ↦ elim (cases_Bool (bytes_eq p.name b)) [
    | inl both ↦ sym (same_name p.name a here) ∙ same_name p.name b both
    | inr other ↦
        let no : zero ≡ suc (place_in ps b) = rw (here, other) at same in
        absurd (omega (arith, no))
  ]
  | inr later ↦ elim (cases_Bool (bytes_eq p.name b)) [
    | inl here ↦
        let no : suc (place_in ps a) ≡ zero = rw (later, here) at same in
        absurd (omega (arith, no))
    | inr other ↦
        let next : suc (place_in ps a) ≡ suc (place_in ps b) = rw (later, other) at same in
        place_apart ps a b (named_later p ps a later is) (named_later p ps b other also)
        (omega (arith, next))
  ]
]

pub few_names : (ps : List PartOfLayout) (names : List (List ℕ))
    → All (IsNamed ps) names
    → AllPairs (λ a b. a ≢ b) names
    → length names ≤ length ps
few_names ps names named differ =
    let places : List ℕ = map (place_in ps) names in
    let once : IsDistinct places =
    pairs_map (λ a b. a ≢ b) (place_in ps) names
    (pairs_weaker (λ a b. a ≢ b) (λ a b. place_in ps a ≢ place_in ps b) names
    (λ a b has_a has_b other same.
    other
    (place_apart ps a b (All-contains (IsNamed ps) names a named has_a)
    (All-contains (IsNamed ps) names b named has_b) same))
    differ) in
    let below : All (λ k. k < length ps) places =
    All-map (λ (k : ℕ). k < length ps) (place_in ps) names
    (λ k d lt. place_below ps (get_or names k d) (named k d lt)) in
    omega (arith, length-map names (place_in ps), few_below (length ps) places once below)
