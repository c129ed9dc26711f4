-- Laws of lists of numbers that ascend.
use Rattle.std.proofs.Common.{◌≡◌, ℕ, zero, suc, ◌+◌, ◌-◌, ◌<◌, ◌≤◌, List, [], ◌∷◌, ◌++◌, length}
use Rattle.std.proofs.Common.{get_or, take, refl, sym, ap, ◌∙◌, inl, inr, arith}
use Rattle.std.specs.Prelude.{All, AllPairs, Contains}
use Rattle.std.specs.List.{range_with_len}
use Rattle.std.specs.List.Sorted.{IsStrictlyIncreasing}
use Rattle.std.proofs.lemmas.Bool.{cases_eq}
use Rattle.std.proofs.lemmas.List.{length-append, length-take, get_or-take, get_or_default}
use Rattle.std.proofs.lemmas.List.{get_or_append_left, get_or-append-add}
use Rattle.std.proofs.lemmas.List.Elements.{All-nil, All-head, All-tail}
use Rattle.std.proofs.lemmas.List.FromFn.{length-range_with_len, get_or-range_with_len}
use Rattle.std.proofs.lemmas.List.Kept.{AllPairs-cons, AllPairs-from_increasing}
use Rattle.vab_blocks.specs.Runs.{blocks_of_runs}

pub range_ascends : (a n : ℕ) → IsStrictlyIncreasing (range_with_len a n)
range_ascends a n = λ k lt.
    let len = length-range_with_len a n in
    let low = get_or-range_with_len a n k 0 (omega (arith, len, lt)) in
    omega (arith, low, get_or-range_with_len a n (k + 1) 0 (omega (arith, len, lt)))

-- a number of a list that ascends is at least its index
at_least : (xs : List ℕ) (i : ℕ) → IsStrictlyIncreasing xs → i < length xs → i ≤ get_or xs i 0
at_least xs zero up lt = omega arith
at_least xs (suc i) up lt =
    let k : suc i ≡ i + 1 = omega arith in
    let before = at_least xs i up (omega (arith, lt)) in
    let step : get_or xs i 0 < get_or xs (i + 1) 0 = up i (omega (arith, lt)) in
    omega (arith, before, step, ap (λ (j : ℕ). get_or xs j 0) k)

-- so there are at most as many as the number that all are below
pub few_below : (xs : List ℕ) (n : ℕ)
    → IsStrictlyIncreasing xs
    → All (λ b. b < n) xs
    → length xs ≤ n
few_below [] n up below = omega arith
few_below (x ∷ xs) n up below =
    let last : ℕ = length xs in
    let high : get_or (x ∷ xs) last 0 < n = below last 0 (omega arith) in
    omega (arith, at_least (x ∷ xs) last up (omega arith), high)

pub take_ascends : (n : ℕ) (xs : List ℕ)
    → IsStrictlyIncreasing xs
    → IsStrictlyIncreasing (take n xs)
take_ascends n xs up = λ k lt.
    let len = length-take n xs in
    let low = get_or-take n xs k 0 (omega (arith, len, lt)) in
    let high = get_or-take n xs (k + 1) 0 (omega (arith, len, lt)) in
    let step : get_or xs k 0 < get_or xs (k + 1) 0 = up k (omega (arith, len, lt)) in
    omega (arith, low, high, step)

rest_ascends : (x : ℕ) (xs : List ℕ)
    → IsStrictlyIncreasing (x ∷ xs)
    → IsStrictlyIncreasing xs
rest_ascends x xs up = λ k lt.
    let step : get_or (x ∷ xs) (suc k) 0 < get_or (x ∷ xs) (suc k + 1) 0 =
    up (suc k) (omega (arith, lt)) in
    let e : suc k + 1 ≡ suc (k + 1) = omega arith in
    omega (arith, step, ap (λ (j : ℕ). get_or (x ∷ xs) j 0) e)

pub back_ascends : (xs ys : List ℕ)
    → IsStrictlyIncreasing (xs ++ ys)
    → IsStrictlyIncreasing ys
back_ascends [] ys up = up
back_ascends (x ∷ xs) ys up = back_ascends xs ys (rest_ascends x (xs ++ ys) up)

cons_ascends : (x : ℕ) (xs : List ℕ)
    → (0 < length xs → x < get_or xs 0 0)
    → IsStrictlyIncreasing xs
    → IsStrictlyIncreasing (x ∷ xs)
cons_ascends x xs first up zero lt = first (omega (arith, lt))
cons_ascends x xs first up (suc k) lt =
    let step : get_or xs k 0 < get_or xs (k + 1) 0 = up k (omega (arith, lt)) in
    let e : suc k + 1 ≡ suc (k + 1) = omega arith in
    omega (arith, step, ap (λ (j : ℕ). get_or (x ∷ xs) j 0) e)

-- consecutive numbers behind lower ones
pub more_ascends : (xs : List ℕ) (a n : ℕ)
    → IsStrictlyIncreasing xs
    → All (λ b. b < a) xs
    → IsStrictlyIncreasing (xs ++ range_with_len a n)
more_ascends [] a n up below = range_ascends a n
more_ascends (x ∷ []) a n up below =
    let low : x < a = All-head (λ (b : ℕ). b < a) x [] below in
    cons_ascends x (range_with_len a n)
    (λ some. omega (
      arith,
      low,
      get_or-range_with_len a n 0 0 (omega (arith, some, length-range_with_len a n)),
    ))
    (range_ascends a n)
more_ascends (x ∷ y ∷ xs) a n up below =
    let step : x < y = up 0 (omega arith) in
    cons_ascends x (y ∷ xs ++ range_with_len a n) (λ _. step)
    (more_ascends (y ∷ xs) a n (rest_ascends x (y ∷ xs) up)
    (All-tail (λ (b : ℕ). b < a) x (y ∷ xs) below))

-- a number of the front is below one of the back
pub across : (xs ys : List ℕ) (x y : ℕ)
    → IsStrictlyIncreasing (xs ++ ys)
    → Contains xs x
    → Contains ys y
    → x < y
across xs ys x y up front back =
    let i = front.0 in
    let j = length xs + back.0 in
    let len = length-append xs ys in
    let lj : j < length (xs ++ ys) = omega (arith, len, back.1) in
    let at1 : get_or (xs ++ ys) i 0 ≡ x =
    get_or_append_left xs ys 0 i front.1 ∙ get_or_default xs i 0 x front.1 ∙ front.2 in
    let at2 : get_or (xs ++ ys) j 0 ≡ y =
    get_or-append-add xs ys back.0 0 ∙ get_or_default ys back.0 0 y back.1 ∙ back.2 in
    let step = AllPairs-from_increasing (xs ++ ys) up i j 0 (omega (arith, front.1)) lj in
    omega (arith, step, at1, at2)

-- ---- runs of numbers that ascend

range_has : (a n b : ℕ) → a ≤ b → b < a + n → Contains (range_with_len a n) b
range_has a n b low high =
    let lt : b - a < n = omega arith in
    let is = get_or-range_with_len a n (b - a) b lt in
    (b - a, omega (arith, length-range_with_len a n, lt), omega (arith, is, low))

-- a number of one of the runs is one of their blocks
pub run_has : (runs : List (ℕ × ℕ)) (k : ℕ) (d : ℕ × ℕ) (b : ℕ)
    → k < length runs
    → (get_or runs k d).0 ≤ b
    → b < (get_or runs k d).0 + (get_or runs k d).1
    → Contains (blocks_of_runs runs) b
run_has [] k d b lt low high = absurd (omega (arith, lt))
run_has (run ∷ runs) zero d b lt low high =
    let c = range_has run.0 run.1 b low high in
    let inner : get_or (range_with_len run.0 run.1 ++ blocks_of_runs runs) c.0 b ≡ b =
    get_or_append_left (range_with_len run.0 run.1) (blocks_of_runs runs) b c.0 c.1 ∙ c.2 in
    let len = length-append (range_with_len run.0 run.1) (blocks_of_runs runs) in
    (c.0, omega (arith, len, c.1), inner)
run_has (run ∷ runs) (suc k) d b lt low high =
    let c = run_has runs k d b (omega (arith, lt)) low high in
    let front : List ℕ = range_with_len run.0 run.1 in
    let len = length-append front (blocks_of_runs runs) in
    let there = get_or-append-add front (blocks_of_runs runs) c.0 b in
    (length front + c.0, omega (arith, len, c.1), there ∙ c.2)

-- runs whose blocks ascend end before those behind them begin
pub runs_ascend : (runs : List (ℕ × ℕ))
    → All (λ run. 0 < run.1) runs
    → IsStrictlyIncreasing (blocks_of_runs runs)
    → AllPairs (λ a b. a.0 + a.1 ≤ b.0) runs
runs_ascend [] some up = λ i j d lt len. absurd (omega (arith, len))
runs_ascend (run ∷ runs) some up =
    let P : ℕ × ℕ → Type 0 = λ r. 0 < r.1 in
    let R : ℕ × ℕ → ℕ × ℕ → Type 0 = λ a b. a.0 + a.1 ≤ b.0 in
    let front : List ℕ = range_with_len run.0 run.1 in
    let here : 0 < run.1 = All-head P run runs some in
    let rest : All P runs = All-tail P run runs some in
    let last =
    range_has run.0 run.1 (run.0 + run.1 - 1) (omega (arith, here)) (omega (arith, here)) in
    let above : All (R run) runs = λ k d lt.
    let full : 0 < (get_or runs k d).1 = rest k d lt in
    let first = run_has runs k d (get_or runs k d).0 lt (omega arith) (omega (arith, full)) in
    let step = across front (blocks_of_runs runs) _ _ up last first in
    omega (arith, step, here) in
    AllPairs-cons R run runs above
    (runs_ascend runs rest (back_ascends front (blocks_of_runs runs) up))
