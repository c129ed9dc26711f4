-- Laws of maximal runs.
use Rattle.std.proofs.Common.{true, false, ◌≡◌, ◌≢◌, ℕ, zero, suc, ◌+◌, ◌-◌, ◌^◌, ◌<◌, ◌≤◌, Bool}
use Rattle.std.proofs.Common.{cond, append_assoc, List, [], ◌∷◌, ◌++◌, length, get_or, take, drop}
use Rattle.std.proofs.Common.{refl, sym, ap, subst, ◌∙◌, inl, inr, add-zero, add-one, arith}
use Rattle.std.specs.Prelude.{◌==◌, if◌then◌else◌, All}
use Rattle.std.specs.List.{range_with_len}
use Rattle.std.proofs.lemmas.Bool.{both_ways, cases_eq, eq-eqb, eqb-true, ne_eqb}
use Rattle.std.proofs.lemmas.List.{take-append-drop, length-drop, get_or-drop, get_or_default}
use Rattle.std.proofs.lemmas.List.Elements.{All-nil, All-cons, All-head, All-tail}
use Rattle.std.proofs.Math.ListN.{set}
use Rattle.vab_blocks.specs.Runs.{in_front, runs_of, blocks_of_runs, AreMaximal}

-- ---- a block in front of runs

joins : (x f c : ℕ) (runs : List (ℕ × ℕ)) → f ≡ x + 1
    → in_front x ((f, c) ∷ runs) ≡ (x, c + 1) ∷ runs
joins x f c runs e =
    ap (λ (b : Bool). cond b ((x, c + 1) ∷ runs) ((x, 1) ∷ (f, c) ∷ runs)) (eq-eqb f (x + 1) e)

begins : (x f c : ℕ) (runs : List (ℕ × ℕ)) → f ≢ x + 1
    → in_front x ((f, c) ∷ runs) ≡ (x, 1) ∷ (f, c) ∷ runs
begins x f c runs ne =
    ap (λ (b : Bool). cond b ((x, c + 1) ∷ runs) ((x, 1) ∷ (f, c) ∷ runs)) (ne_eqb f (x + 1) ne)

-- the runs of a list that is not empty begin with its first block
record Starts (x : ℕ) (runs : List (ℕ × ℕ)) : Type 0 where
  count : ℕ
  rest : List (ℕ × ℕ)
  is : runs ≡ (x, count) ∷ rest

starts_front : (x : ℕ) (runs : List (ℕ × ℕ)) → Starts x (in_front x runs)
starts_front x [] = record { count = 1; rest = []; is = refl }
starts_front x ((f, c) ∷ runs) = elim (cases_eq f (x + 1)) [
  | inl e ↦ record { count = c + 1; rest = runs; is = joins x f c runs e }
  | inr ne ↦ record { count = 1; rest = (f, c) ∷ runs; is = begins x f c runs ne }
]

starts : (x : ℕ) (xs : List ℕ) → Starts x (runs_of (x ∷ xs))
unfolding runs_of
starts x xs = starts_front x (runs_of xs)

-- ---- the blocks again

again_front : (x : ℕ) (runs : List (ℕ × ℕ))
    → blocks_of_runs (in_front x runs) ≡ x ∷ blocks_of_runs runs
again_front x [] = refl
again_front x ((f, c) ∷ runs) = elim (cases_eq f (x + 1)) [
  | inl e ↦
      let more : range_with_len x (c + 1) ≡ x ∷ range_with_len f c =
      ap (range_with_len x) (add-one c) ∙ ap (λ (y : ℕ). x ∷ range_with_len y c) (sym e) in
      ap blocks_of_runs (joins x f c runs e) ∙ ap (λ (l : List ℕ). l ++ blocks_of_runs runs) more
  | inr ne ↦ ap blocks_of_runs (begins x f c runs ne)
]

-- the runs of a list have its blocks in its order
pub runs_again : (xs : List ℕ) → blocks_of_runs (runs_of xs) ≡ xs
unfolding runs_of
runs_again [] = refl
runs_again (x ∷ xs) = again_front x (runs_of xs) ∙ ap (λ (l : List ℕ). x ∷ l) (runs_again xs)

-- ---- no run is empty

some_front : (x : ℕ) (runs : List (ℕ × ℕ)) → All (λ run. 0 < run.1) runs
    → All (λ run. 0 < run.1) (in_front x runs)
some_front x [] some = All-cons (λ (run : ℕ × ℕ). 0 < run.1) (x, 1) [] (omega arith) some
some_front x ((f, c) ∷ runs) some =
    let P : ℕ × ℕ → Type 0 = λ run. 0 < run.1 in
    elim (cases_eq f (x + 1)) [
      | inl e ↦
          subst (All P) (sym (joins x f c runs e))
          (All-cons P (x, c + 1) runs (omega arith) (All-tail P (f, c) runs some))
      | inr ne ↦
          subst (All P) (sym (begins x f c runs ne))
          (All-cons P (x, 1) ((f, c) ∷ runs) (omega arith) some)
    ]

pub runs_some : (xs : List ℕ) → All (λ run. 0 < run.1) (runs_of xs)
unfolding runs_of
runs_some [] = All-nil (λ (run : ℕ × ℕ). 0 < run.1)
runs_some (x ∷ xs) = some_front x (runs_of xs) (runs_some xs)

-- ---- runs below a bound

within_front : (cap x : ℕ) (runs : List (ℕ × ℕ)) → x < cap → All (λ run. run.0 + run.1 ≤ cap) runs
    → All (λ run. run.0 + run.1 ≤ cap) (in_front x runs)
within_front cap x [] lt within =
    All-cons (λ (run : ℕ × ℕ). run.0 + run.1 ≤ cap) (x, 1) [] (omega (arith, lt)) within
within_front cap x ((f, c) ∷ runs) lt within =
    let P : ℕ × ℕ → Type 0 = λ run. run.0 + run.1 ≤ cap in
    let here : f + c ≤ cap = All-head P (f, c) runs within in
    elim (cases_eq f (x + 1)) [
      | inl e ↦
          subst (All P) (sym (joins x f c runs e))
          (All-cons P (x, c + 1) runs (omega (arith, e, here)) (All-tail P (f, c) runs within))
      | inr ne ↦
          subst (All P) (sym (begins x f c runs ne))
          (All-cons P (x, 1) ((f, c) ∷ runs) (omega (arith, lt)) within)
    ]

-- runs of blocks below a bound end there at the latest
pub runs_within : (cap : ℕ) (xs : List ℕ) → All (λ b. b < cap) xs
    → All (λ run. run.0 + run.1 ≤ cap) (runs_of xs)
unfolding runs_of
runs_within cap [] below = All-nil (λ (run : ℕ × ℕ). run.0 + run.1 ≤ cap)
runs_within cap (x ∷ xs) below =
    let B : ℕ → Type 0 = λ b. b < cap in
    within_front cap x (runs_of xs) (All-head B x xs below)
    (runs_within cap xs (All-tail B x xs below))

-- ---- runs are maximal

-- no run begins where the one before it ends
abbrev Apart : List (ℕ × ℕ) → Type 0
Apart [] = Unit {0}
Apart (run ∷ []) = Unit {0}
Apart (run ∷ next ∷ runs) = (next.0 ≢ run.0 + run.1) × Apart (next ∷ runs)

apart_front : (x : ℕ) (runs : List (ℕ × ℕ)) → Apart runs → Apart (in_front x runs)
apart_front x [] apart = tt
apart_front x ((f, c) ∷ []) apart = elim (cases_eq f (x + 1)) [
  | inl e ↦ subst Apart (sym (joins x f c [] e)) tt
  | inr ne ↦ subst Apart (sym (begins x f c [] ne)) (ne, tt)
]
apart_front x ((f, c) ∷ (g, d) ∷ runs) apart = elim (cases_eq f (x + 1)) [
  | inl e ↦
      let later : g ≢ x + (c + 1) = λ h. apart.0 (omega (arith, e, h)) in
      subst Apart (sym (joins x f c ((g, d) ∷ runs) e)) (later, apart.1)
  | inr ne ↦ subst Apart (sym (begins x f c ((g, d) ∷ runs) ne)) (ne, apart)
]

apart_runs : (xs : List ℕ) → Apart (runs_of xs)
unfolding runs_of
apart_runs [] = tt
apart_runs (x ∷ xs) = apart_front x (runs_of xs) (apart_runs xs)

apart_at : (runs : List (ℕ × ℕ)) → Apart runs → (i : ℕ) (d : ℕ × ℕ) → i + 1 < length runs
    → (get_or runs (i + 1) d).0 ≢ (get_or runs i d).0 + (get_or runs i d).1
apart_at [] apart i d lt = absurd (omega (arith, lt))
apart_at (run ∷ []) apart i d lt = absurd (omega (arith, lt))
apart_at (run ∷ next ∷ runs) apart zero d lt = apart.0
apart_at (run ∷ next ∷ runs) apart (suc i) d lt =
    let e : suc (i + 1) ≡ suc i + 1 = omega arith in
    subst (λ (k : ℕ). (get_or (run ∷ next ∷ runs) k d).0 ≢
    (get_or (run ∷ next ∷ runs) (suc i) d).0 + (get_or (run ∷ next ∷ runs) (suc i) d).1) e
    (apart_at (next ∷ runs) apart.1 i d (omega (arith, lt)))

-- no run begins where the one before it ends: what could be joined is joined
pub runs_apart : (xs : List ℕ) (i : ℕ) (d : ℕ × ℕ) → i + 1 < length (runs_of xs)
    → (get_or (runs_of xs) (i + 1) d).0 ≢ (get_or (runs_of xs) i d).0 + (get_or (runs_of xs) i d).1
runs_apart xs i d lt = apart_at (runs_of xs) (apart_runs xs) i d lt

-- ---- a block behind runs

-- a block behind runs: it joins the last run where that ends at it
abbrev pub behind : List (ℕ × ℕ) → ℕ → List (ℕ × ℕ)
behind [] block = (block, 1) ∷ []
behind (run ∷ []) block =
    if block == run.0 + run.1 then (run.0, run.1 + 1) ∷ [] else run ∷ (block, 1) ∷ []
behind (run ∷ next ∷ runs) block = run ∷ behind (next ∷ runs) block

ends : (f c b : ℕ) → b ≡ f + c → behind ((f, c) ∷ []) b ≡ (f, c + 1) ∷ []
ends f c b e =
    ap (λ (t : Bool). cond t ((f, c + 1) ∷ []) ((f, c) ∷ (b, 1) ∷ [])) (eq-eqb b (f + c) e)

follows : (f c b : ℕ) → b ≢ f + c → behind ((f, c) ∷ []) b ≡ (f, c) ∷ (b, 1) ∷ []
follows f c b ne =
    ap (λ (t : Bool). cond t ((f, c + 1) ∷ []) ((f, c) ∷ (b, 1) ∷ [])) (ne_eqb b (f + c) ne)

push_front : (x : ℕ) (runs : List (ℕ × ℕ)) (b : ℕ)
    → in_front x (behind runs b) ≡ behind (in_front x runs) b
push_front x [] b = refl
push_front x ((f, c) ∷ []) b = elim (cases_eq f (x + 1)) [
  | inl e ↦ elim (cases_eq b (f + c)) [
    | inl at ↦
        let at' : b ≡ x + (c + 1) = omega (arith, e, at) in
        ap (in_front x) (ends f c b at) ∙ joins x f (c + 1) [] e ∙ sym (ends x (c + 1) b at')
        ∙ ap (λ (l : List (ℕ × ℕ)). behind l b) (sym (joins x f c [] e))
    | inr off ↦
        let off' : b ≢ x + (c + 1) = λ h. off (omega (arith, e, h)) in
        ap (in_front x) (follows f c b off) ∙ joins x f c ((b, 1) ∷ []) e
        ∙ sym (follows x (c + 1) b off')
        ∙ ap (λ (l : List (ℕ × ℕ)). behind l b) (sym (joins x f c [] e))
  ]
  | inr ne ↦ elim (cases_eq b (f + c)) [
    | inl at ↦
        ap (in_front x) (ends f c b at) ∙ begins x f (c + 1) [] ne
        ∙ ap (λ (l : List (ℕ × ℕ)). (x, 1) ∷ l) (sym (ends f c b at))
        ∙ ap (λ (l : List (ℕ × ℕ)). behind l b) (sym (begins x f c [] ne))
    | inr off ↦
        ap (in_front x) (follows f c b off) ∙ begins x f c ((b, 1) ∷ []) ne
        ∙ ap (λ (l : List (ℕ × ℕ)). (x, 1) ∷ l) (sym (follows f c b off))
        ∙ ap (λ (l : List (ℕ × ℕ)). behind l b) (sym (begins x f c [] ne))
  ]
]
push_front x ((f, c) ∷ next ∷ runs) b = elim (cases_eq f (x + 1)) [
  | inl e ↦ joins x f c (behind (next ∷ runs) b) e
      ∙ ap (λ (l : List (ℕ × ℕ)). behind l b) (sym (joins x f c (next ∷ runs) e))
  | inr ne ↦ begins x f c (behind (next ∷ runs) b) ne
      ∙ ap (λ (l : List (ℕ × ℕ)). behind l b) (sym (begins x f c (next ∷ runs) ne))
]

-- the runs of one more block
pub runs_push : (xs : List ℕ) (b : ℕ) → runs_of (xs ++ b ∷ []) ≡ behind (runs_of xs) b
unfolding runs_of
runs_push [] b = refl
runs_push (x ∷ xs) b = ap (in_front x) (runs_push xs b) ∙ push_front x (runs_of xs) b

-- ---- how many runs

abbrev count_of : List ℕ → ℕ
count_of xs = length (runs_of xs)

count_joins : (x y : ℕ) (ys : List ℕ) → y ≡ x + 1 → count_of (x ∷ y ∷ ys) ≡ count_of (y ∷ ys)
unfolding runs_of
count_joins x y ys e =
    let s = starts y ys in
    ap (λ (l : List (ℕ × ℕ)). length (in_front x l)) s.is
    ∙ ap (λ (l : List (ℕ × ℕ)). length l) (joins x y s.count s.rest e)
    ∙ ap (λ (l : List (ℕ × ℕ)). length l) (sym s.is)

count_begins : (x y : ℕ) (ys : List ℕ) → y ≢ x + 1 → count_of (x ∷ y ∷ ys) ≡ suc (count_of (y ∷ ys))
unfolding runs_of
count_begins x y ys ne =
    let s = starts y ys in
    ap (λ (l : List (ℕ × ℕ)). length (in_front x l)) s.is
    ∙ ap (λ (l : List (ℕ × ℕ)). length l) (begins x y s.count s.rest ne)
    ∙ ap (λ (l : List (ℕ × ℕ)). suc (length l)) (sym s.is)

count_more : (x : ℕ) (ys : List ℕ) → count_of (x ∷ ys) ≤ suc (count_of ys)
unfolding runs_of
count_more x [] = omega arith
count_more x (y ∷ ys) = elim (cases_eq y (x + 1)) [
  | inl e ↦ omega (arith, count_joins x y ys e)
  | inr ne ↦ omega (arith, count_begins x y ys ne)
]

count_none : count_of [] ≡ 0
unfolding runs_of
count_none = refl

count_one : (x : ℕ) → count_of (x ∷ []) ≡ 1
unfolding runs_of
count_one x = refl

-- two lists behind one another have no more runs than each alone
pub runs_append_few : (xs ys : List ℕ)
    → length (runs_of (xs ++ ys)) ≤ length (runs_of xs) + length (runs_of ys)
runs_append_few [] ys = omega arith
runs_append_few (x ∷ []) ys = omega (arith, count_more x ys, count_one x)
runs_append_few (x ∷ y ∷ xs) ys =
    let rest : count_of (y ∷ xs ++ ys) ≤ count_of (y ∷ xs) + count_of ys =
    runs_append_few (y ∷ xs) ys in
    elim (cases_eq y (x + 1)) [
      | inl e ↦ omega (arith, rest, count_joins x y (xs ++ ys) e, count_joins x y xs e)
      | inr ne ↦ omega (arith, rest, count_begins x y (xs ++ ys) ne, count_begins x y xs ne)
    ]

-- no more runs than blocks
pub runs_at_most : (xs : List ℕ) → length (runs_of xs) ≤ length xs
runs_at_most [] = omega (arith, count_none)
runs_at_most (x ∷ xs) = omega (arith, runs_at_most xs, count_more x xs)

-- consecutive numbers are one run
pub runs_of_range : (a n : ℕ) → length (runs_of (range_with_len a n)) ≤ 1
runs_of_range a zero = omega (arith, count_none)
runs_of_range a (suc zero) = omega (arith, count_one a)
runs_of_range a (suc (suc n)) =
    omega (
      arith,
      runs_of_range (a + 1) (suc n),
      count_joins a (a + 1)
          (range_with_len (a + 1 + 1) n) refl,
    )

-- ---- the first run

-- the list does not begin with this number
abbrev pub BeginsElsewhere : ℕ → List ℕ → Type 0
BeginsElsewhere v xs = 0 < length xs → get_or xs 0 0 ≢ v

one_more : (x : ℕ) (ys : List ℕ) → BeginsElsewhere (x + 1) ys
    → runs_of (x ∷ ys) ≡ (x, 1) ∷ runs_of ys
unfolding runs_of
one_more x [] off = refl
one_more x (y ∷ ys) off =
    let s = starts y ys in
    let ne : y ≢ x + 1 = off (omega arith) in
    ap (in_front x) s.is ∙ begins x y s.count s.rest ne
    ∙ ap (λ (l : List (ℕ × ℕ)). (x, 1) ∷ l) (sym s.is)

-- consecutive numbers are the first run where others follow them
pub runs_of_front : (a n : ℕ) (ys : List ℕ) → BeginsElsewhere (a + n + 1) ys
    → runs_of (range_with_len a (suc n) ++ ys) ≡ (a, suc n) ∷ runs_of ys
unfolding runs_of
runs_of_front a zero ys off = one_more a ys (λ some. let o = off some in λ e. o (omega (arith, e)))
runs_of_front a (suc n) ys off =
    let ih = runs_of_front (a + 1) n ys (λ some. let o = off some in λ e. o (omega (arith, e))) in
    ap (in_front a) ih ∙ joins a (a + 1) (suc n) (runs_of ys) refl
    ∙ ap (λ (k : ℕ). (a, k) ∷ runs_of ys) (add-one (suc n))

-- the same, cut at a place
pub runs_at_front : (xs : List ℕ) (a n : ℕ) → 0 < n → take n xs ≡ range_with_len a n
    → BeginsElsewhere (a + n) (drop n xs) → runs_of xs ≡ (a, n) ∷ runs_of (drop n xs)
runs_at_front xs a zero some front off = absurd (omega (arith, some))
runs_at_front xs a (suc n) some front off =
    let whole : range_with_len a (suc n) ++ drop (suc n) xs ≡ xs =
    ap (λ (l : List ℕ). l ++ drop (suc n) xs) (sym front) ∙ take-append-drop (suc n) xs in
    let e : a + n + 1 ≡ a + suc n = omega arith in
    ap runs_of (sym whole) ∙ runs_of_front a n (drop (suc n) xs) (rw e off)

front_counts : (xs : List ℕ) (a n : ℕ) → n ≤ length xs → ((k : ℕ) → k < n → get_or xs k 0 ≡ a + k)
    → take n xs ≡ range_with_len a n
front_counts xs a zero le at = refl
front_counts [] a (suc n) le at = absurd (omega (arith, le))
front_counts (x ∷ xs) a (suc n) le at =
    let here : x ≡ a = omega (arith, at 0 (omega arith)) in
    let rest =
    front_counts xs (a + 1) n (omega (arith, le))
    (λ k lt. omega (arith, at (suc k) (omega (arith, lt)))) in
    ap (λ (y : ℕ). y ∷ take n xs) here ∙ ap (λ (l : List ℕ). a ∷ l) rest

-- the same, where each number is known by its place
pub runs_by_places : (xs : List ℕ) (n : ℕ) → 0 < n → n ≤ length xs
    → ((k : ℕ) → k < n → get_or xs k 0 ≡ get_or xs 0 0 + k)
    → (n < length xs → get_or xs n 0 ≢ get_or xs 0 0 + n)
    → runs_of xs ≡ (get_or xs 0 0, n) ∷ runs_of (drop n xs)
runs_by_places xs n some le at off =
    let a : ℕ = get_or xs 0 0 in
    let elsewhere : BeginsElsewhere (a + n) (drop n xs) =
    λ more e. off (omega (arith, more, length-drop n xs))
    (ap (λ (k : ℕ). get_or xs k 0) (sym (add-zero n)) ∙ sym (get_or-drop n xs 0 0) ∙ e) in
    runs_at_front xs a n some (front_counts xs a n le at) elsewhere

pub runs_of_none : (xs : List ℕ) → length xs ≡ 0 → runs_of xs ≡ []
unfolding runs_of
runs_of_none [] e = refl
runs_of_none (x ∷ xs) e = absurd (omega (arith, e))

-- ---- consecutive blocks behind runs

-- Consecutive blocks behind runs: they join the last run where that ends at the first of them.
abbrev pub behind_run : List (ℕ × ℕ) → ℕ → ℕ → List (ℕ × ℕ)
behind_run [] first count = (first, count) ∷ []
behind_run (run ∷ []) first count =
    if first == run.0 + run.1 then (run.0, run.1 + count) ∷ [] else run ∷ (first, count) ∷ []
behind_run (run ∷ next ∷ runs) first count = run ∷ behind_run (next ∷ runs) first count

joins_last : (f c a n : ℕ) → a ≡ f + c → behind_run ((f, c) ∷ []) a n ≡ (f, c + n) ∷ []
joins_last f c a n e =
    ap (λ (t : Bool). cond t ((f, c + n) ∷ []) ((f, c) ∷ (a, n) ∷ [])) (eq-eqb a (f + c) e)

follows_last : (f c a n : ℕ) → a ≢ f + c → behind_run ((f, c) ∷ []) a n ≡ (f, c) ∷ (a, n) ∷ []
follows_last f c a n ne =
    ap (λ (t : Bool). cond t ((f, c + n) ∷ []) ((f, c) ∷ (a, n) ∷ [])) (ne_eqb a (f + c) ne)

behind_one : (runs : List (ℕ × ℕ)) (b : ℕ) → behind runs b ≡ behind_run runs b 1
behind_one [] b = refl
behind_one (run ∷ []) b = refl
behind_one (run ∷ next ∷ runs) b = ap (λ (l : List (ℕ × ℕ)). run ∷ l) (behind_one (next ∷ runs) b)

-- a block behind a run and others
behind_rest : (run : ℕ × ℕ) (runs : List (ℕ × ℕ)) (b : ℕ)
    → 0 < length runs
    → behind (run ∷ runs) b ≡ run ∷ behind runs b
behind_rest run [] b some = absurd (omega (arith, some))
behind_rest run (next ∷ runs) b some = refl

behind_some : (runs : List (ℕ × ℕ)) (a n : ℕ) → 0 < length (behind_run runs a n)
behind_some [] a n = omega arith
behind_some ((f, c) ∷ []) a n = elim (cases_eq a (f + c)) [
  | inl e ↦ omega (arith, ap length (joins_last f c a n e))
  | inr ne ↦ omega (arith, ap length (follows_last f c a n ne))
]
behind_some (run ∷ next ∷ runs) a n = omega arith

behind_more : (runs : List (ℕ × ℕ)) (a n : ℕ)
    → behind (behind_run runs a n) (a + n) ≡ behind_run runs a (n + 1)
behind_more [] a n = ends a n (a + n) refl
behind_more ((f, c) ∷ []) a n = elim (cases_eq a (f + c)) [
  | inl e ↦
      let at : a + n ≡ f + (c + n) = omega (arith, e) in
      let sum : c + n + 1 ≡ c + (n + 1) = omega arith in
      ap (λ (l : List (ℕ × ℕ)). behind l (a + n)) (joins_last f c a n e)
      ∙ ends f (c + n) (a + n) at
      ∙ ap (λ (k : ℕ). (f, k) ∷ []) sum
      ∙ sym (joins_last f c a (n + 1) e)
  | inr ne ↦
      ap (λ (l : List (ℕ × ℕ)). behind l (a + n)) (follows_last f c a n ne)
      ∙ ap (λ (l : List (ℕ × ℕ)). (f, c) ∷ l) (ends a n (a + n) refl)
      ∙ sym (follows_last f c a (n + 1) ne)
]
behind_more (run ∷ next ∷ runs) a n =
    behind_rest run (behind_run (next ∷ runs) a n) (a + n) (behind_some (next ∷ runs) a n)
    ∙ ap (λ (l : List (ℕ × ℕ)). run ∷ l) (behind_more (next ∷ runs) a n)

-- one number more of a range
pub range_push : (a n : ℕ)
    → range_with_len a (n + 1) ≡ range_with_len a n ++ (a + n) ∷ []
range_push a zero = ap (λ (x : ℕ). x ∷ []) (sym (add-zero a))
range_push a (suc n) =
    let k : suc n + 1 ≡ suc (n + 1) = omega arith in
    let e : a + 1 + n ≡ a + suc n = omega arith in
    let rest = range_push (a + 1) n in
    let last = ap (λ (x : ℕ). range_with_len (a + 1) n ++ x ∷ []) e in
    ap (range_with_len a) k ∙ ap (λ (l : List ℕ). a ∷ l) (rest ∙ last)

-- the runs of blocks and then consecutive ones
pub runs_push_run : (xs : List ℕ) (a n : ℕ)
    → 0 < n
    → runs_of (xs ++ range_with_len a n) ≡ behind_run (runs_of xs) a n
runs_push_run xs a zero some = absurd (omega (arith, some))
runs_push_run xs a (suc zero) some = runs_push xs a ∙ behind_one (runs_of xs) a
runs_push_run xs a (suc (suc n)) some =
    let k : suc (suc n) ≡ suc n + 1 = omega arith in
    let front : List ℕ = range_with_len a (suc n) in
    let b : ℕ = a + suc n in
    let split : range_with_len a (suc (suc n)) ≡ front ++ b ∷ [] =
    ap (range_with_len a) k ∙ range_push a (suc n) in
    let joined : xs ++ range_with_len a (suc (suc n)) ≡ (xs ++ front) ++ b ∷ [] =
    ap (λ (l : List ℕ). xs ++ l) split ∙ sym (append_assoc xs front (b ∷ [])) in
    ap runs_of joined ∙ runs_push (xs ++ front) b
    ∙ ap (λ (l : List (ℕ × ℕ)). behind l b) (runs_push_run xs a (suc n) (omega arith))
    ∙ behind_more (runs_of xs) a (suc n)
    ∙ ap (behind_run (runs_of xs) a) (sym k)

fit_behind : (runs : List (ℕ × ℕ)) (a n : ℕ)
    → a + n < 2 ^ 64
    → All (λ run. run.0 + run.1 < 2 ^ 64) runs
    → All (λ run. run.0 + run.1 < 2 ^ 64) (behind_run runs a n)
fit_behind [] a n lt fit = All-cons (λ (run : ℕ × ℕ). run.0 + run.1 < 2 ^ 64) (a, n) [] lt fit
fit_behind ((f, c) ∷ []) a n lt fit =
    let P : ℕ × ℕ → Type 0 = λ run. run.0 + run.1 < 2 ^ 64 in
    elim (cases_eq a (f + c)) [
      | inl e ↦
          let end : f + (c + n) < 2 ^ 64 = omega (arith, e, lt) in
          subst (All P) (sym (joins_last f c a n e)) (All-cons P (f, c + n) [] end (All-nil P))
      | inr ne ↦
          let last : All P ((a, n) ∷ []) = All-cons P (a, n) [] lt (All-nil P) in
          let both = All-cons P (f, c) ((a, n) ∷ []) (All-head P (f, c) [] fit) last in
          subst (All P) (sym (follows_last f c a n ne)) both
    ]
fit_behind (run ∷ next ∷ runs) a n lt fit =
    let P : ℕ × ℕ → Type 0 = λ run. run.0 + run.1 < 2 ^ 64 in
    All-cons P run (behind_run (next ∷ runs) a n) (All-head P run (next ∷ runs) fit)
    (fit_behind (next ∷ runs) a n lt (All-tail P run (next ∷ runs) fit))

-- consecutive blocks behind maximal runs
pub maximal_behind : (runs more : List (ℕ × ℕ)) (a n : ℕ)
    → AreMaximal runs → 0 < n → a + n < 2 ^ 64 → more ≡ behind_run runs a n
    → AreMaximal more × (blocks_of_runs more ≡ blocks_of_runs runs ++ range_with_len a n)
maximal_behind runs more a n m some lt e =
    let xs : List ℕ = blocks_of_runs runs in
    let is : runs_of (xs ++ range_with_len a n) ≡ more =
    runs_push_run xs a n some
    ∙ ap (λ (l : List (ℕ × ℕ)). behind_run l a n) m.maximal ∙ sym e in
    let blocks : blocks_of_runs more ≡ xs ++ range_with_len a n =
    ap blocks_of_runs (sym is) ∙ runs_again (xs ++ range_with_len a n) in
    let fit = fit_behind runs a n lt m.fit in (
      record {
        maximal = ap runs_of blocks ∙ is;
        fit = subst (All (λ run. run.0 + run.1 < 2 ^ 64)) (sym e) fit;
      },
      blocks,
    )

-- the last run grows
pub grown_is : (runs : List (ℕ × ℕ)) (f c a n : ℕ)
    → 0 < length runs
    → get_or runs (length runs - 1) (f, c) ≡ (f, c)
    → a ≡ f + c
    → set runs (length runs - 1) (f, c + n) ≡ behind_run runs a n
grown_is [] f c a n some at e = absurd (omega (arith, some))
grown_is (run ∷ []) f c a n some at e =
    sym (joins_last f c a n e) ∙ ap (λ (r : ℕ × ℕ). behind_run (r ∷ []) a n) (sym at)
grown_is (run ∷ next ∷ runs) f c a n some at e =
    let k : length (run ∷ next ∷ runs) - 1 ≡ suc (length (next ∷ runs) - 1) = omega arith in
    let there : get_or (next ∷ runs) (length (next ∷ runs) - 1) (f, c) ≡ (f, c) =
    ap (λ (i : ℕ). get_or (run ∷ next ∷ runs) i (f, c)) (sym k) ∙ at in
    ap (λ (i : ℕ). set (run ∷ next ∷ runs) i (f, c + n)) k
    ∙ ap (λ (l : List (ℕ × ℕ)). run ∷ l) (grown_is (next ∷ runs) f c a n (omega arith) there e)

-- no run ends there, and one more stands behind them
pub added_is : (runs : List (ℕ × ℕ)) (d : ℕ × ℕ) (a n : ℕ)
    → (0 < length runs
    → a ≢ (get_or runs (length runs - 1) d).0 + (get_or runs (length runs - 1) d).1)
    → runs ++ (a, n) ∷ [] ≡ behind_run runs a n
added_is [] d a n off = refl
added_is ((f, c) ∷ []) d a n off = sym (follows_last f c a n (off (omega arith)))
added_is (run ∷ next ∷ runs) d a n off =
    let all : List (ℕ × ℕ) = run ∷ next ∷ runs in
    let k : length all - 1 ≡ suc (length (next ∷ runs) - 1) = omega arith in
    let Off : ℕ → Type 0 = λ i. a ≢ (get_or all i d).0 + (get_or all i d).1 in
    let there = subst Off k (off (omega arith)) in
    ap (λ (l : List (ℕ × ℕ)). run ∷ l) (added_is (next ∷ runs) d a n (λ _. there))

pub none_maximal : (runs : List (ℕ × ℕ)) → runs ≡ [] → AreMaximal runs
unfolding runs_of
none_maximal runs none =
    let P : ℕ × ℕ → Type 0 = λ run. run.0 + run.1 < 2 ^ 64 in
    let nothing : AreMaximal [] = record { maximal = refl; fit = All-nil P } in
    subst AreMaximal (sym none) nothing

-- no run, no block
pub no_run : (runs : List (ℕ × ℕ))
    → AreMaximal runs
    → blocks_of_runs runs ≡ []
    → runs ≡ []
unfolding runs_of
no_run runs m none = sym m.maximal ∙ ap runs_of none

-- The last run grows, where it was read and then written.
pub grown : (runs : List (ℕ × ℕ)) (read write : ℕ × ℕ) (len a n : ℕ)
    → len ≡ length runs
    → 0 < len
    → read ≡ get_or runs (len - 1) read
    → write ≡ get_or runs (len - 1) write
    → (a == read.0 + read.1) ≡ true
    → set runs (len - 1) (write.0, write.1 + n) ≡ behind_run runs a n
grown runs read write len a n is some at1 at2 touches =
    let k : len - 1 ≡ length runs - 1 = omega (arith, is) in
    let lt : len - 1 < length runs = omega (arith, is, some) in
    let same : read ≡ write = at1 ∙ get_or_default runs (len - 1) read write lt ∙ sym at2 in
    let last : get_or runs (length runs - 1) (write.0, write.1) ≡ (write.0, write.1) =
    ap (λ (i : ℕ). get_or runs i write) (sym k) ∙ sym at2 in
    let end : a ≡ write.0 + write.1 =
    eqb-true _ _ touches ∙ ap (λ (r : ℕ × ℕ). r.0 + r.1) same in
    ap (λ (i : ℕ). set runs i (write.0, write.1 + n)) k
    ∙ grown_is runs write.0 write.1 a n (omega (arith, is, some)) last end

-- one more stands behind them, where the last was read
pub added : (runs : List (ℕ × ℕ)) (read : ℕ × ℕ) (len a n : ℕ)
    → len ≡ length runs
    → read ≡ get_or runs (len - 1) read
    → (a == read.0 + read.1) ≡ false
    → runs ++ (a, n) ∷ [] ≡ behind_run runs a n
added runs read len a n is at off =
    added_is runs read a n (λ some e.
    let k : len - 1 ≡ length runs - 1 = omega (arith, is) in
    let last : get_or runs (length runs - 1) read ≡ read =
    ap (λ (i : ℕ). get_or runs i read) (sym k) ∙ sym at in
    let end : a ≡ read.0 + read.1 = e ∙ ap (λ (r : ℕ × ℕ). r.0 + r.1) last in
    both_ways (a == read.0 + read.1) off (eq-eqb _ _ end))

-- the first run
pub added_first : (runs : List (ℕ × ℕ)) (len a n : ℕ)
    → len ≡ length runs
    → len ≤ 0
    → runs ++ (a, n) ∷ [] ≡ behind_run runs a n
added_first runs len a n is none =
    added_is runs (0, 0) a n (λ some. absurd (omega (arith, some, is, none)))
