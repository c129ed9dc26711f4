-- Lists in which no number stands twice.
use Rattle.std.proofs.Common.{Bool, cond, take, drop, ap, ◌^◌, ◌≡◌, ◌≢◌, ℕ, zero, suc, ◌+◌, ◌≤◌}
use Rattle.std.proofs.Common.{◌<◌, inl, inr, true, false, not, eqb, List, [], ◌∷◌, ◌++◌, length}
use Rattle.std.proofs.Common.{get_or, ◌-◌, ◌⊎◌, refl, sym, ◌∙◌, subst, arith}
use Rattle.std.specs.Prelude.{max, Contains, AllPairs, All}
use Rattle.std.specs.List.{list_any, range_with_len}
use Rattle.std.proofs.lemmas.Bool.{and_parts, and_from, not-true, not_from_false, both_ways}
use Rattle.std.proofs.lemmas.Bool.{cases_Bool}
use Rattle.std.proofs.lemmas.List.Elements.{Contains-append_left, Contains-append_right}
use Rattle.std.proofs.lemmas.List.Elements.{Contains-append_cases}
use Rattle.std.proofs.lemmas.List.{get_or_default}
use Rattle.std.proofs.lemmas.List.FromFn.{length-range_with_len, get_or-range_with_len}
use Rattle.std.proofs.lemmas.List.Kept.{AllPairs-cons}
use Rattle.std.specs.Prelude.{sum_by}
use Rattle.std.specs.List.Sorted.{IsNonDecreasingBy, IsPermutation, IsStrictlyIncreasing}
use Rattle.std.proofs.lemmas.Bool.{cases_eq, eq-eqb, ne_eqb}
use Rattle.std.proofs.lemmas.List.Kept.{AllPairs-from_increasing}
use Rattle.std.proofs.lemmas.List.Sums.{sum_by-append, sum_by-cons}
use Rattle.std.proofs.lemmas.List.Sorted.{sum_by-IsPermutation, IsPermutation-sym}
use Rattle.std.proofs.lemmas.List.{take-append-drop, take_all}
use Rattle.std.proofs.lemmas.Grind.{flat_map-append}
use Rattle.vab_blocks.specs.Blocks.{is_distinct}
use Rattle.vab_blocks.specs.Runs.{blocks_of_runs}
use Rattle.vab_blocks.proofs.BlockLaws.{in_range, listed_once, listed_then, of_range}
use Rattle.vab_blocks.proofs.Merging.{more_merged, Merged}
use Rattle.vab_blocks.proofs.Pieces.{blocks_before}

pub head_in : (x : ℕ) (xs : List ℕ) → Contains (x ∷ xs) x
head_in x xs = (0, omega arith, refl)

pub tail_in : (x : ℕ) (xs : List ℕ) (b : ℕ) → Contains xs b → Contains (x ∷ xs) b
tail_in x xs b c = (suc c.0, omega (arith, c.1), c.2)

-- the first number stands behind it nowhere
not_again : (x : ℕ) (xs : List ℕ) → is_distinct (x ∷ xs) ≡ true → Contains xs x → ⊥
not_again x xs h c =
    let p = and_parts (not (list_any (λ y. eqb y x) xs)) (is_distinct xs) h in
    both_ways (list_any (λ y. eqb y x) xs) (not-true _ p.0) (listed_then xs x c)

rest_distinct : (x : ℕ) (xs : List ℕ) → is_distinct (x ∷ xs) ≡ true → is_distinct xs ≡ true
rest_distinct x xs h = (and_parts (not (list_any (λ y. eqb y x) xs)) (is_distinct xs) h).1

front_distinct : (x : ℕ) (xs : List ℕ) → (Contains xs x → ⊥) → is_distinct xs ≡ true
    → is_distinct (x ∷ xs) ≡ true
front_distinct x xs absent h = elim (cases_Bool (list_any (λ y. eqb y x) xs)) [
  | inl t ↦ absurd (absent (listed_once xs x t))
  | inr f ↦ and_from _ _ (not_from_false _ f) h
]

pub distinct_append : (xs ys : List ℕ) → is_distinct xs ≡ true → is_distinct ys ≡ true
    → ((b : ℕ) → Contains xs b → Contains ys b → ⊥) → is_distinct (xs ++ ys) ≡ true
distinct_append [] ys dx dy apart = dy
distinct_append (x ∷ xs) ys dx dy apart =
    front_distinct x (xs ++ ys)
    (λ c. elim (Contains-append_cases xs ys x c) [
      | inl l ↦ not_again x xs dx l
      | inr r ↦
          apart x (head_in x xs) r
    ])
    (distinct_append xs ys (rest_distinct x xs dx) dy (λ b l r. apart b (tail_in x xs b l) r))

pub distinct_left : (xs ys : List ℕ) → is_distinct (xs ++ ys) ≡ true → is_distinct xs ≡ true
distinct_left [] ys h = refl
distinct_left (x ∷ xs) ys h =
    front_distinct x xs (λ c. not_again x (xs ++ ys) h (Contains-append_left xs ys x c))
    (distinct_left xs ys (rest_distinct x (xs ++ ys) h))

in_cases : (x : ℕ) (xs : List ℕ) (b : ℕ) (k : ℕ) → k < length (x ∷ xs) → get_or (x ∷ xs) k b ≡ b
    → (x ≡ b) ⊎ Contains xs b
in_cases x xs b zero l e = inl e
in_cases x xs b (suc k) l e = inr (k, omega arith, e)

pub distinct_apart : (xs ys : List ℕ) (b : ℕ) → is_distinct (xs ++ ys) ≡ true → Contains xs b
    → Contains ys b → ⊥
distinct_apart [] ys b h l r = absurd (omega (arith, l.1))
distinct_apart (x ∷ xs) ys b h l r = elim (in_cases x xs b l.0 l.1 l.2) [
  | inl e ↦
      not_again x (xs ++ ys) h
      (Contains-append_right xs ys x (subst (λ (w : ℕ). Contains ys w) (sym e) r))
  | inr t ↦ distinct_apart xs ys b (rest_distinct x (xs ++ ys) h) t r
]

-- where one number stands on both sides, it stands twice
pub distinct_common : (xs ys : List ℕ) (b : ℕ) → Contains xs b → Contains ys b
    → is_distinct (xs ++ ys) ≡ false
distinct_common xs ys b l r = elim (cases_Bool (is_distinct (xs ++ ys))) [
  | inl t ↦ absurd (distinct_apart xs ys b t l r)
  | inr f ↦ f
]

-- ---- ranges

pub distinct_range : (a n : ℕ) → is_distinct (range_with_len a n) ≡ true
distinct_range a zero = refl
distinct_range a (suc n) =
    front_distinct a (range_with_len (a + 1) n)
    (λ c. absurd (omega (arith, in_range (a + 1) n a c))) (distinct_range (a + 1) n)

-- ---- as a relation on pairs

differ : (x : ℕ) (xs : List ℕ) → (Contains xs x → ⊥) → All (λ y. x ≢ y) xs
differ x xs absent = λ k d lt e. absent (k, lt, get_or_default xs k x d lt ∙ sym e)

pub distinct_pairs : (xs : List ℕ) → is_distinct xs ≡ true → AllPairs (λ a b. a ≢ b) xs
distinct_pairs [] h = λ i j d lt below. absurd (omega arith)
distinct_pairs (x ∷ xs) h =
    AllPairs-cons (λ a b. a ≢ b) x xs (differ x xs (not_again x xs h))
    (distinct_pairs xs (rest_distinct x xs h))

pub pairs_distinct : (xs : List ℕ) → AllPairs (λ a b. a ≢ b) xs → is_distinct xs ≡ true
pairs_distinct [] h = refl
pairs_distinct (x ∷ xs) h =
    front_distinct x xs
    (λ c. h 0 (suc c.0) x (omega arith) (omega (arith, c.1)) (sym c.2))
    (pairs_distinct xs (λ i j d lt below. h (suc i) (suc j) d (omega arith) (omega arith)))

-- ---- how often a number stands

abbrev hit : ℕ → ℕ → ℕ
hit b x = cond (eqb x b) 1 0

abbrev pub times : ℕ → List ℕ → ℕ
times b xs = sum_by (hit b) xs

hit_same : (b x : ℕ) → x ≡ b → hit b x ≡ 1
hit_same b x e = ap (λ (t : Bool). cond t 1 0) (eq-eqb x b e)

hit_other : (b x : ℕ) → x ≢ b → hit b x ≡ 0
hit_other b x ne = ap (λ (t : Bool). cond t 1 0) (ne_eqb x b ne)

times_none : (b : ℕ) (xs : List ℕ) → (Contains xs b → ⊥) → times b xs ≡ 0
times_none b [] absent = refl
times_none b (x ∷ xs) absent =
    let other : x ≢ b = λ e. absent (subst (λ (y : ℕ). Contains (x ∷ xs) y) e (head_in x xs)) in
    let rest = times_none b xs (λ c. absent (tail_in x xs b c)) in
    omega (arith, sum_by-cons (hit b) x xs, hit_other b x other, rest)

times_some : (b : ℕ) (xs : List ℕ) → Contains xs b → 0 < times b xs
times_some b [] c = absurd (omega (arith, c.1))
times_some b (x ∷ xs) c = elim (in_cases x xs b c.0 c.1 c.2) [
  | inl e ↦ omega (arith, sum_by-cons (hit b) x xs, hit_same b x e)
  | inr t ↦ omega (arith, sum_by-cons (hit b) x xs, times_some b xs t)
]

pub at_most_once : (b : ℕ) (xs : List ℕ) → is_distinct xs ≡ true → times b xs ≤ 1
at_most_once b [] h = omega arith
at_most_once b (x ∷ xs) h = elim (cases_eq x b) [
  | inl e ↦
      let absent : Contains xs b → ⊥ = λ c.
      not_again x xs h (subst (λ (y : ℕ). Contains xs y) (sym e) c) in
      omega (arith, sum_by-cons (hit b) x xs, hit_same b x e, times_none b xs absent)
  | inr ne ↦
      let rest = at_most_once b xs (rest_distinct x xs h) in
      omega (arith, sum_by-cons (hit b) x xs, hit_other b x ne, rest)
]

pub once_each : (xs : List ℕ) → ((b : ℕ) → times b xs ≤ 1) → is_distinct xs ≡ true
once_each [] few = refl
once_each (x ∷ xs) few =
    let sum : (b : ℕ) → times b (x ∷ xs) ≡ hit b x + times b xs = λ b. sum_by-cons (hit b) x xs in
    front_distinct x xs
    (λ c. omega (arith, few x, sum x, hit_same x x refl, times_some x xs c))
    (once_each xs (λ b. omega (arith, few b, sum b)))

times_runs : (b : ℕ) (runs : List (ℕ × ℕ))
    → times b (blocks_of_runs runs)
    ≡ sum_by (λ run. times b (range_with_len run.0 run.1)) runs
times_runs b [] = refl
times_runs b (run ∷ runs) =
    let g : ℕ × ℕ → ℕ = λ r. times b (range_with_len r.0 r.1) in
    omega (
      arith,
      sum_by-append (hit b) (range_with_len run.0 run.1) (blocks_of_runs runs),
      times_runs b runs,
      sum_by-cons g run runs,
    )

-- runs in another order have as often the same blocks
times_moved : (b : ℕ) (xs ys : List (ℕ × ℕ))
    → IsPermutation xs ys
    → times b (blocks_of_runs xs) ≡ times b (blocks_of_runs ys)
times_moved b xs ys moved =
    let g : ℕ × ℕ → ℕ = λ r. times b (range_with_len r.0 r.1) in
    omega (arith, times_runs b xs, times_runs b ys, sum_by-IsPermutation g xs ys moved)

distinct_moved : (xs ys : List (ℕ × ℕ))
    → IsPermutation xs ys
    → is_distinct (blocks_of_runs xs) ≡ true
    → is_distinct (blocks_of_runs ys) ≡ true
distinct_moved xs ys moved h =
    once_each (blocks_of_runs ys)
    (λ b. omega (arith, at_most_once b (blocks_of_runs xs) h, times_moved b xs ys moved))

pub same_distinct : (xs ys : List (ℕ × ℕ))
    → IsPermutation xs ys
    → is_distinct (blocks_of_runs ys) ≡ is_distinct (blocks_of_runs xs)
same_distinct xs ys moved =
    let back : IsPermutation ys xs = IsPermutation-sym xs ys moved in
    let a : Bool = is_distinct (blocks_of_runs ys) in
    let b : Bool = is_distinct (blocks_of_runs xs) in
    elim (cases_Bool b) [
      | inl t ↦ distinct_moved xs ys moved t ∙ sym t
      | inr f ↦ elim (cases_Bool a) [
        | inl t ↦ absurd (both_ways b f (distinct_moved ys xs back t))
        | inr g ↦ g ∙ sym f
      ]
    ]

-- ---- runs in the order of their first numbers

pub ascending_distinct : (xs : List ℕ) → IsStrictlyIncreasing xs → is_distinct xs ≡ true
ascending_distinct xs up =
    pairs_distinct xs
    (λ i j d lt below e. omega (arith, e, AllPairs-from_increasing xs up i j d lt below))

-- one run more, which begins behind those before it
pub apart_more : (runs : List (ℕ × ℕ)) (i end : ℕ) (run : ℕ × ℕ)
    → IsNonDecreasingBy (λ r. r.0) runs
    → Merged runs i (blocks_of_runs (take i runs)) end
    → i < length runs
    → run ≡ get_or runs i run
    → 0 < run.1
    → run.0 + run.1 < 2 ^ 64
    → end ≤ run.0
    → Merged runs (i + 1) (blocks_of_runs (take (i + 1) runs)) (run.0 + run.1)
apart_more runs i end run up m lt at some fits behind =
    let from : max run.0 end ≡ run.0 = omega (arith, behind) in
    let many : run.0 + run.1 - max run.0 end ≡ run.1 = omega (arith, behind) in
    let front : List ℕ = blocks_of_runs (take i runs) in
    let new : blocks_of_runs (take (i + 1) runs)
    ≡ front ++ range_with_len (max run.0 end) (run.0 + run.1 - max run.0 end) =
    blocks_before runs i run lt
    ∙ ap (λ (r : ℕ × ℕ). front ++ range_with_len r.0 r.1) (sym at)
    ∙ ap (λ (k : ℕ). front ++ range_with_len k run.1) (sym from)
    ∙ ap (λ (k : ℕ). front ++ range_with_len (max run.0 end) k) (sym many) in
    more_merged runs i front (blocks_of_runs (take (i + 1) runs)) end run up m lt at
    (omega (arith, behind, some)) fits new

-- one that begins before their end has a block of theirs
pub never_apart : (runs : List (ℕ × ℕ)) (i end : ℕ) (run : ℕ × ℕ)
    → IsNonDecreasingBy (λ r. r.0) runs
    → Merged runs i (blocks_of_runs (take i runs)) end
    → i < length runs
    → run ≡ get_or runs i run
    → 0 < run.1
    → run.0 < end
    → is_distinct (blocks_of_runs runs) ≡ false
never_apart runs i end run up m lt at some early =
    let front : List ℕ = blocks_of_runs (take i runs) in
    let own : List ℕ = range_with_len run.0 run.1 in
    let order : (get_or runs (i - 1) run).0 ≤ (get_or runs i run).0 =
    up (i - 1) i run (omega arith) lt in
    let first = ap (λ (r : ℕ × ℕ). r.0) at in
    let before = m.cover run.0 run (omega (arith, order, first)) early in
    let here = of_range run.0 run.1 run.0 (omega arith) (omega (arith, some)) in
    let bad : is_distinct (front ++ own) ≡ false = distinct_common front own run.0 before here in
    let cut : blocks_of_runs (take (i + 1) runs) ≡ front ++ own =
    blocks_before runs i run lt
    ∙ ap (λ (r : ℕ × ℕ). front ++ range_with_len r.0 r.1) (sym at) in
    let rest : List ℕ = blocks_of_runs (drop (i + 1) runs) in
    let g : ℕ × ℕ → List ℕ = λ r. range_with_len r.0 r.1 in
    let whole : blocks_of_runs runs ≡ (front ++ own) ++ rest =
    ap blocks_of_runs (sym (take-append-drop (i + 1) runs))
    ∙ flat_map-append g (take (i + 1) runs) (drop (i + 1) runs)
    ∙ ap (λ (l : List ℕ). l ++ rest) cut in
    elim (cases_Bool (is_distinct (blocks_of_runs runs))) [
      | inl t ↦
          let all = ap is_distinct (sym whole) ∙ t in
          absurd (both_ways (is_distinct (front ++ own)) bad
          (distinct_left (front ++ own) rest all))
      | inr f ↦ f
    ]

-- none does
pub all_apart : (runs : List (ℕ × ℕ)) (i end : ℕ)
    → Merged runs i (blocks_of_runs (take i runs)) end
    → length runs ≤ i
    → is_distinct (blocks_of_runs runs) ≡ true
all_apart runs i end m le =
    let whole = ap blocks_of_runs (take_all i runs le) in
    ap is_distinct (sym whole) ∙ ascending_distinct (blocks_of_runs (take i runs)) m.up
