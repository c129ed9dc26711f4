-- Parts of the blocks of runs.
use Rattle.std.proofs.Common.{◌≡◌, ℕ, zero, suc, ◌+◌, ◌-◌, ◌<◌, ◌≤◌, Bool, List, [], ◌∷◌, ◌++◌}
use Rattle.std.proofs.Common.{length, get_or, take, drop, refl, sym, ap, ◌∙◌, inl, inr, add-zero}
use Rattle.std.proofs.Common.{append_assoc, arith}
use Rattle.std.specs.Prelude.{◌||◌, min}
use Rattle.std.specs.List.{flat_map, list_any, range_with_len}
use Rattle.std.proofs.Math.Seq.{drop-cons, take-nil}
use Rattle.std.proofs.lemmas.List.Folds.{list_any-append}
use Rattle.std.proofs.lemmas.Bool.{cases_lt}
use Rattle.std.proofs.lemmas.List.{length-append, length-drop, take_more, take-append-drop}
use Rattle.std.proofs.lemmas.List.{append-nil}
use Rattle.std.proofs.lemmas.List.{nil_from_length}
use Rattle.std.proofs.lemmas.Grind.{flat_map-append}
use Rattle.std.proofs.lemmas.List.FromFn.{length-range_with_len}
use Rattle.vab_blocks.specs.Runs.{runs_of, blocks_of_runs}
use Rattle.vab_blocks.proofs.RunLaws.{runs_again}

-- ---- parts of a range and what follows

pub drop_run : (f c s : ℕ) (rest : List ℕ)
    → drop s (range_with_len f c ++ rest)
    ≡ range_with_len (f + min s c) (c - min s c) ++ drop (s - min s c) rest
drop_run f zero s rest =
    let k : s - min s 0 ≡ s = omega arith in
    let none : 0 - min s 0 ≡ 0 = omega arith in
    ap (λ (i : ℕ). drop i rest) (sym k)
    ∙ ap (λ (i : ℕ). range_with_len (f + min s 0) i ++ drop (s - min s 0) rest) (sym none)
drop_run f (suc c) zero rest =
    let k : 0 ≡ min 0 (suc c) = omega arith in
    let whole : suc c ≡ suc c - 0 = omega arith in
    ap (λ (i : ℕ). range_with_len i (suc c) ++ rest) (sym (add-zero f))
    ∙ ap (λ (i : ℕ). range_with_len (f + 0) i ++ rest) whole
    ∙ ap (λ (i : ℕ). range_with_len (f + i) (suc c - i) ++ drop (0 - i) rest) k
drop_run f (suc c) (suc s) rest =
    let from : f + 1 + min s c ≡ f + min (suc s) (suc c) = omega arith in
    let many : c - min s c ≡ suc c - min (suc s) (suc c) = omega arith in
    let more : s - min s c ≡ suc s - min (suc s) (suc c) = omega arith in
    drop_run (f + 1) c s rest
    ∙ ap (λ (i : ℕ). range_with_len i (c - min s c) ++ drop (s - min s c) rest) from
    ∙ ap (λ (i : ℕ). range_with_len (f + min (suc s) (suc c)) i ++ drop (s - min s c) rest) many
    ∙ ap (λ (i : ℕ). range_with_len (f + min (suc s) (suc c)) (suc c - min (suc s) (suc c))
    ++ drop i rest) more

pub take_run : (f c n : ℕ) (rest : List ℕ)
    → take n (range_with_len f c ++ rest)
    ≡ range_with_len f (min n c) ++ take (n - min n c) rest
take_run f zero n rest =
    let none : 0 ≡ min n 0 = omega arith in
    let k : n ≡ n - min n 0 = omega arith in
    ap (λ (i : ℕ). take i rest) k
    ∙ ap (λ (i : ℕ). range_with_len f i ++ take (n - min n 0) rest) none
take_run f (suc c) zero rest =
    let k : 0 ≡ min 0 (suc c) = omega arith in
    let none : [] ≡ take (0 - min 0 (suc c)) rest =
    ap (λ (i : ℕ). take (0 - i) rest) k in
    none ∙ ap (λ (i : ℕ). range_with_len f i ++ take (0 - min 0 (suc c)) rest) k
take_run f (suc c) (suc n) rest =
    let many : suc (min n c) ≡ min (suc n) (suc c) = omega arith in
    let more : n - min n c ≡ suc n - min (suc n) (suc c) = omega arith in
    ap (λ (l : List ℕ). f ∷ l) (take_run (f + 1) c n rest)
    ∙ ap (λ (i : ℕ). range_with_len f (suc (min n c)) ++ take i rest) more
    ∙ ap (λ (i : ℕ). range_with_len f i ++ take (suc n - min (suc n) (suc c)) rest) many

-- what a part takes of a run, and what is left of it for those behind the run
pub part_run : (f c s n p t : ℕ) (rest : List ℕ)
    → p ≡ min s c
    → t ≡ min n (c - p)
    → take n (drop s (range_with_len f c ++ rest))
    ≡ range_with_len (f + p) t ++ take (n - t) (drop (s - p) rest)
part_run f c s n p t rest ep et =
    ap (take n) (drop_run f c s rest)
    ∙ ap (λ (i : ℕ). take n (range_with_len (f + i) (c - i) ++ drop (s - i) rest)) (sym ep)
    ∙ take_run (f + p) (c - p) n (drop (s - p) rest)
    ∙ ap (λ (i : ℕ). range_with_len (f + p) i ++ take (n - i) (drop (s - p) rest)) (sym et)

-- ---- the steps of a loop over runs

-- the blocks of the runs from a place on
pub blocks_from : (runs : List (ℕ × ℕ)) (i : ℕ) (d : ℕ × ℕ)
    → i < length runs
    → blocks_of_runs (drop i runs)
    ≡ range_with_len (get_or runs i d).0 (get_or runs i d).1
    ++ blocks_of_runs (drop (i + 1) runs)
blocks_from runs i d lt =
    let s : suc i ≡ i + 1 = omega arith in
    ap blocks_of_runs
    (drop-cons runs i d lt ∙ ap (λ (k : ℕ). get_or runs i d ∷ drop k runs) s)

-- and of those in front of it
pub blocks_before : (runs : List (ℕ × ℕ)) (i : ℕ) (d : ℕ × ℕ)
    → i < length runs
    → blocks_of_runs (take (i + 1) runs)
    ≡ blocks_of_runs (take i runs) ++ range_with_len (get_or runs i d).0 (get_or runs i d).1
blocks_before runs i d lt =
    let g : ℕ × ℕ → List ℕ = λ run. range_with_len run.0 run.1 in
    let run : ℕ × ℕ = get_or runs i d in
    ap blocks_of_runs (take_more runs i d lt)
    ∙ flat_map-append g (take i runs) (run ∷ [])
    ∙ ap (λ (l : List ℕ). blocks_of_runs (take i runs) ++ l) (append-nil (g run))

pub length_before : (runs : List (ℕ × ℕ)) (i : ℕ) (d : ℕ × ℕ)
    → i < length runs
    → length (blocks_of_runs (take (i + 1) runs))
    ≡ length (blocks_of_runs (take i runs)) + (get_or runs i d).1
length_before runs i d lt =
    let run : ℕ × ℕ = get_or runs i d in
    omega (
      arith,
      ap length (blocks_before runs i d lt),
      length-append (blocks_of_runs (take i runs)) (range_with_len run.0 run.1),
      length-range_with_len run.0 run.1,
    )

-- a front of the runs has no more blocks than all
pub length_front : (runs : List (ℕ × ℕ)) (i : ℕ)
    → length (blocks_of_runs (take i runs)) ≤ length (blocks_of_runs runs)
length_front runs i =
    let g : ℕ × ℕ → List ℕ = λ run. range_with_len run.0 run.1 in
    let whole = ap blocks_of_runs (sym (take-append-drop i runs)) in
    let split = flat_map-append g (take i runs) (drop i runs) in
    omega (
      arith,
      ap length (whole ∙ split),
      length-append (blocks_of_runs (take i runs)) (blocks_of_runs (drop i runs)),
    )

-- a part of other blocks, run by run
pub part_more : (xs new old whole : List ℕ) (i s n p t : ℕ) (run : ℕ × ℕ)
    → i < length (runs_of xs)
    → run ≡ get_or (runs_of xs) i run
    → p ≡ min s run.1
    → t ≡ min n (run.1 - p)
    → new ≡ old ++ range_with_len (run.0 + p) t
    → old ++ take n (drop s (blocks_of_runs (drop i (runs_of xs)))) ≡ whole
    → new ++ take (n - t) (drop (s - p) (blocks_of_runs (drop (i + 1) (runs_of xs)))) ≡ whole
part_more xs new old whole i s n p t run lt at ep et pushed is =
    let rest : List ℕ = blocks_of_runs (drop (i + 1) (runs_of xs)) in
    let piece : List ℕ = range_with_len (run.0 + p) t in
    let here : blocks_of_runs (drop i (runs_of xs)) ≡ range_with_len run.0 run.1 ++ rest =
    blocks_from (runs_of xs) i run lt
    ∙ ap (λ (r : ℕ × ℕ). range_with_len r.0 r.1 ++ rest) (sym at) in
    let part = part_run run.0 run.1 s n p t rest ep et in
    ap (λ (l : List ℕ). l ++ take (n - t) (drop (s - p) rest)) pushed
    ∙ append_assoc old piece (take (n - t) (drop (s - p) rest))
    ∙ ap (λ (l : List ℕ). old ++ l) (sym part)
    ∙ ap (λ (l : List ℕ). old ++ take n (drop s l)) (sym here) ∙ is

drop_none : (s : ℕ) (xs : List ℕ) → length xs ≡ 0 → drop s xs ≡ []
drop_none s xs none = nil_from_length (drop s xs) (omega (arith, length-drop s xs, none))

-- where no run is left
pub part_done : (xs new whole : List ℕ) (i s n : ℕ)
    → length (runs_of xs) ≤ i
    → new ++ take n (drop s (blocks_of_runs (drop i (runs_of xs)))) ≡ whole
    → new ≡ whole
part_done xs new whole i s n le is =
    let none : drop i (runs_of xs) ≡ [] =
    nil_from_length (drop i (runs_of xs)) (omega (arith, length-drop i (runs_of xs), le)) in
    let nothing : take n (drop s (blocks_of_runs (drop i (runs_of xs)))) ≡ [] =
    ap (λ (l : List (ℕ × ℕ)). take n (drop s (blocks_of_runs l))) none
    ∙ ap (take n) (drop_none s [] refl) ∙ take-nil n in
    sym (append-nil new) ∙ ap (λ (l : List ℕ). new ++ l) (sym nothing) ∙ is

-- ---- whether a block is among them

pub any_runs : (p : ℕ → Bool) (runs : List (ℕ × ℕ))
    → list_any p (blocks_of_runs runs)
    ≡ list_any (λ run. list_any p (range_with_len run.0 run.1)) runs
any_runs p [] = refl
any_runs p (run ∷ runs) =
    list_any-append p (range_with_len run.0 run.1) (blocks_of_runs runs)
    ∙ ap (λ (b : Bool). list_any p (range_with_len run.0 run.1) || b) (any_runs p runs)
