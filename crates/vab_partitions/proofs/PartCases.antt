-- Whether a partition of a name is there, and blocks that are in two lists.
use Rattle.std.proofs.Common.{◌≡◌, ◌≢◌, ℕ, zero, suc, ◌+◌, ◌≤◌, ◌<◌, ◌^◌, Bool, true, false}
use Rattle.std.proofs.Common.{◌&&◌, ◌||◌, List, []}
use Rattle.std.proofs.Common.{◌∷◌, ◌++◌, length, get_or, take, drop, refl, sym, ◌∙◌, ap, subst, ◌⊎◌}
use Rattle.std.proofs.Common.{inl, inr}
use Rattle.std.proofs.Common.{arith}
use Rattle.std.specs.Prelude.{All, Any, Contains, IsTrue}
use Rattle.std.specs.List.{list_any, range_with_len}
use Rattle.std.specs.Str.{bytes_eq}
use Rattle.std.proofs.lemmas.Bool.{cases_Bool, or_cases, and_parts, and_from}
use Rattle.std.proofs.lemmas.List.{length-append, take-append-drop, take_more, take_all}
use Rattle.std.proofs.lemmas.List.{append-nil, get_or_default, get_or-drop, length-drop}
use Rattle.std.proofs.lemmas.List.{append_cancel_right}
use Rattle.std.proofs.lemmas.List.Elements.{All-contains, Contains-get_or}
use Rattle.std.proofs.lemmas.List.FromFn.{length-range_with_len}
use Rattle.std.proofs.lemmas.Grind.{flat_map-append}
use Rattle.vab_layout.specs.declared.layout.Part.{Part}
use Rattle.vab_layout.specs.Slots.{IsDistinct}
use Rattle.vab_blocks.specs.Blocks.{is_distinct}
use Rattle.vab_blocks.specs.Runs.{blocks_of_runs}
use Rattle.vab_blocks.proofs.Distinct.{distinct_append, distinct_apart, pairs_distinct}
use Rattle.vab_blocks.proofs.Distinct.{distinct_pairs, at_most_once, once_each}
use Rattle.vab_names.specs.Names.{is_of_slot, store_of, store_suffix}
use Rattle.vab_layout.specs.Slots.{own_parts, blocks_named, is_updated, IsOwn, IsOwnPart}
use Rattle.vab_names.proofs.NameCases.{same_name, eq_name}
use Rattle.vab_partitions.proofs.TargetLaws.{times_append}
use Rattle.vab_blocks.proofs.Contained.{in_filter}

-- ---- a partition of a name

any_next : (R : Part → Type 0) (p : Part) (ps : List Part) → Any R ps → Any R (p ∷ ps)
any_next R p ps a = (suc a.0, a.1, omega (arith, a.2), a.3, a.4)

any_at : (R : Part → Type 0) (p : Part) (ps : List Part) (k : ℕ) (q : Part)
    → k < length (p ∷ ps)
    → get_or (p ∷ ps) k q ≡ q
    → R q
    → R p ⊎ Any R ps
any_at R p ps zero q lt is r = inl (subst R (sym is) r)
any_at R p ps (suc k) q lt is r = inr (k, q, omega (arith, lt), is, r)

any_cases : (R : Part → Type 0) (p : Part) (ps : List Part) → Any R (p ∷ ps) → R p ⊎ Any R ps
any_cases R p ps a = any_at R p ps a.0 a.1 a.2 a.3 a.4

pub part_then : (name : List ℕ) (parts : List Part)
    → list_any (λ p. bytes_eq p.name name) parts ≡ true
    → Any (λ p. p.name ≡ name) parts
part_then name [] h = absurd (let wrong : false ≡ true = h in cc)
part_then name (p ∷ ps) h =
    elim (or_cases (bytes_eq p.name name) (list_any (λ q. bytes_eq q.name name) ps) h) [
      | inl e ↦ (0, p, omega arith, refl, same_name p.name name e)
      | inr t ↦ any_next (λ q. q.name ≡ name) p ps (part_then name ps t)
    ]

pub then_part : (name : List ℕ) (parts : List Part)
    → Any (λ p. p.name ≡ name) parts
    → list_any (λ p. bytes_eq p.name name) parts ≡ true
then_part name [] a = absurd (omega (arith, a.2))
then_part name (p ∷ ps) a = elim (any_cases (λ q. q.name ≡ name) p ps a) [
  | inl e ↦ rw (eq_name p.name name e) refl
  | inr rest ↦ elim (cases_Bool (bytes_eq p.name name)) [
    | inl e ↦ rw e refl
    | inr ne ↦ rw ne (then_part name ps rest)
  ]
]

-- no partition has the name
pub none_named : (name : List ℕ) (parts : List Part)
    → (Any (λ p. p.name ≡ name) parts → ⊥)
    → All (λ p. p.name ≢ name) parts
none_named name parts absent = λ k d lt e.
    absent (k, get_or parts k d, lt, get_or_default parts k (get_or parts k d) d lt, e)

pub named_none : (name : List ℕ) (parts : List Part)
    → All (λ p. p.name ≢ name) parts
    → Any (λ p. p.name ≡ name) parts
    → ⊥
named_none name parts none a =
    none a.0 a.1 a.2 (ap (λ (r : Part). r.name) a.3 ∙ a.4)

-- ---- blocks of two lists

pub apart_then : (taken blocks : List ℕ)
    → is_distinct (taken ++ blocks) ≡ true
    → All (λ b. Contains taken b → ⊥) blocks
apart_then taken blocks h = λ k d lt c.
    distinct_apart taken blocks (get_or blocks k d) h c (Contains-get_or blocks k d lt)

pub then_apart : (taken blocks : List ℕ)
    → IsDistinct taken
    → IsDistinct blocks
    → All (λ b. Contains taken b → ⊥) blocks
    → is_distinct (taken ++ blocks) ≡ true
then_apart taken blocks t b apart =
    distinct_append taken blocks (pairs_distinct taken t) (pairs_distinct blocks b)
    (λ x in_taken in_blocks.
    All-contains (λ y. Contains taken y → ⊥) blocks x apart in_blocks in_taken)

-- ---- how many blocks runs have

pub runs_more : (runs : List (ℕ × ℕ)) (i : ℕ) (d : ℕ × ℕ)
    → i < length runs
    → length (blocks_of_runs (take (i + 1) runs))
    ≡ length (blocks_of_runs (take i runs)) + (get_or runs i d).1
runs_more runs i d lt =
    let r : ℕ × ℕ = get_or runs i d in
    let f : ℕ × ℕ → List ℕ = λ run. range_with_len run.0 run.1 in
    let split = ap blocks_of_runs (take_more runs i d lt) ∙ flat_map-append f (take i runs) (r ∷ [])
    in
    omega (
      arith,
      ap length split,
      length-append (blocks_of_runs (take i runs)) (blocks_of_runs (r ∷ [])),
      ap length (append-nil (f r)),
      length-range_with_len r.0 r.1,
    )

pub runs_front : (runs : List (ℕ × ℕ)) (n : ℕ)
    → length (blocks_of_runs (take n runs)) ≤ length (blocks_of_runs runs)
runs_front runs n =
    let f : ℕ × ℕ → List ℕ = λ run. range_with_len run.0 run.1 in
    let whole =
    ap blocks_of_runs (sym (take-append-drop n runs))
    ∙ flat_map-append f (take n runs) (drop n runs)
    in
    omega (
      arith,
      ap length whole,
      length-append (blocks_of_runs (take n runs)) (blocks_of_runs (drop n runs)),
    )

-- ---- the blocks of a name

named_cases : (name : List ℕ) (parts : List Part)
    → (blocks_named name parts ≡ [])
    ⊎ ((p : Part) × Contains parts p × (p.name ≡ name) × (blocks_named name parts ≡ p.blocks))
named_cases name [] = inl refl
named_cases name (p ∷ ps) = elim (cases_Bool (bytes_eq p.name name)) [
  | inl e ↦ rw e (inr (p, (0, omega arith, refl), same_name p.name name e, refl))
  | inr ne ↦ rw ne (elim (named_cases name ps) [
    | inl none ↦ inl none
    | inr r ↦ inr (r.0, (suc r.1.0, omega (arith, r.1.1), r.1.2), r.2, r.3)
  ])
]

pub named_small : (slot : ℕ) (name : List ℕ) (parts : List Part)
    → IsOwn slot parts
    → is_of_slot slot name ≡ true
    → length (blocks_named name parts) ≤ 2 ^ 28
named_small slot name parts own of = elim (named_cases name parts) [
  | inl none ↦ omega (arith, ap length none)
  | inr r ↦
      let in_own : Contains (own_parts slot parts) r.0 =
      in_filter (λ p. is_of_slot slot p.name) parts r.0 r.1 (ap (is_of_slot slot) r.2 ∙ of) in
      let rules = All-contains (IsOwnPart slot) (own_parts slot parts) r.0 own.each in_own in
      omega (arith, ap length r.3, rules.size)
]

-- ---- blocks behind the first so many

pub rest_of : (blocks : List ℕ) (k : ℕ) → take (length blocks) (drop k blocks) ≡ drop k blocks
rest_of blocks k =
    take_all (length blocks) (drop k blocks) (omega (arith, length-drop k blocks))

pub once_drop : (k : ℕ) (blocks : List ℕ) → IsDistinct blocks → IsDistinct (drop k blocks)
once_drop k blocks once = λ i j d lt below same.
    let long = length-drop k blocks in
    once (k + i) (k + j) d (omega (arith, lt)) (omega (arith, below, long))
    (sym (get_or-drop k blocks i d) ∙ same ∙ get_or-drop k blocks j d)

-- the same said of other names of the lists
pub fresh_as : (taken other blocks : List ℕ) (k n : ℕ)
    → taken ≡ other
    → k ≡ n
    → All (λ b. Contains taken b → ⊥) (drop k blocks)
    → All (λ b. Contains other b → ⊥) (drop n blocks)
fresh_as taken other blocks k n is at fresh =
    subst (λ (m : ℕ). All (λ b. Contains other b → ⊥) (drop m blocks)) at
    (subst (λ (l : List ℕ). All (λ b. Contains l b → ⊥) (drop k blocks)) is fresh)

-- ---- the partition of a store

or_left : (a b : Bool) → a ≡ true → a || b ≡ true
or_left a b h = rw h refl

or_right : (a b : Bool) → b ≡ true → a || b ≡ true
or_right true b h = refl
or_right false b h = h

-- a partition of the slot of this name that is marked as updated
abbrev pub is_its : ℕ → List ℕ → Part → Bool
is_its slot base p = is_of_slot slot p.name && (bytes_eq p.name base && is_updated p)

abbrev pub IsIts : List ℕ → Part → Type 0
IsIts base p = (store_of base ≡ store_of p.name) × IsTrue (is_updated p)

pub its_then : (slot : ℕ) (base : List ℕ) (parts : List Part)
    → list_any (is_its slot base) parts ≡ true
    → Any (IsIts base) (own_parts slot parts)
its_then slot base [] h = absurd (let wrong : false ≡ true = h in cc)
its_then slot base (p ∷ ps) h =
    elim (or_cases (is_its slot base p) (list_any (is_its slot base) ps) h) [
      | inl t ↦
          let own = and_parts (is_of_slot slot p.name) (bytes_eq p.name base && is_updated p) t in
          let named = and_parts (bytes_eq p.name base) (is_updated p) own.1 in
          let its : IsIts base p = (ap store_of (sym (same_name p.name base named.0)), named.1) in
          let here : Any (IsIts base) (p ∷ own_parts slot ps) = (0, p, omega arith, refl, its) in
          rw own.0 here
      | inr t ↦
          let rest = its_then slot base ps t in
          elim (cases_Bool (is_of_slot slot p.name)) [
            | inl own ↦ rw own (any_next (IsIts base) p (own_parts slot ps) rest)
            | inr other ↦ rw other rest
          ]
    ]

its_name : (base name : List ℕ) → store_of base ≡ store_of name → bytes_eq name base ≡ true
unfolding store_of
its_name base name h = eq_name name base (sym (append_cancel_right base name store_suffix h))

pub then_its : (slot : ℕ) (base : List ℕ) (parts : List Part)
    → Any (IsIts base) (own_parts slot parts)
    → list_any (is_its slot base) parts ≡ true
then_its slot base [] a = absurd (omega (arith, a.2))
then_its slot base (p ∷ ps) a = elim (cases_Bool (is_of_slot slot p.name)) [
  | inl own ↦
      let among : Any (IsIts base) (p ∷ own_parts slot ps) = rw own at a in
      elim (any_cases (IsIts base) p (own_parts slot ps) among) [
        | inl its ↦
            or_left (is_its slot base p) (list_any (is_its slot base) ps)
            (and_from _ _ own (and_from _ _ (its_name base p.name its.0) its.1))
        | inr rest ↦
            or_right (is_its slot base p) (list_any (is_its slot base) ps)
            (then_its slot base ps rest)
      ]
  | inr other ↦
      let among : Any (IsIts base) (own_parts slot ps) = rw other at a in
      or_right (is_its slot base p) (list_any (is_its slot base) ps) (then_its slot base ps among)
]

-- ---- the blocks behind others

pub distinct_right : (xs ys : List ℕ) → is_distinct (xs ++ ys) ≡ true → IsDistinct ys
distinct_right xs ys h =
    distinct_pairs ys
    (once_each ys (λ b. omega (arith, at_most_once b (xs ++ ys) h, times_append b xs ys)))
