-- What holds of the blocks of a partition.
use Rattle.std.proofs.Common.{◌≡◌, ℕ, zero, suc, ◌+◌, ◌-◌, ◌*◌, ◌/◌, ◌≤◌, ◌<◌, inl, inr, List, []}
use Rattle.std.proofs.Common.{◌∷◌, ◌++◌, length, get_or, refl, sym, ◌∙◌, ap, arith, append_assoc}
use Rattle.std.proofs.Common.{append-nil, length-append}
use Rattle.std.proofs.Math.ListN.{get_or-append}
use Rattle.std.proofs.Math.Seq.{get_or-append_right}
use Rattle.std.specs.List.{All}
use Rattle.std.proofs.lemmas.List.Elements.{All-head, All-tail}
use Rattle.std.proofs.lemmas.Bool.{cases_lt}
use Rattle.vab_linear.specs.Map.{run_of, blocks_of}

pub length-run_of : (first n : ℕ) → length (run_of first n) ≡ n
unfolding run_of
length-run_of first zero = refl
length-run_of first (suc n) = omega (arith, length-run_of (first + 8) n)

-- the k-th block of a run
pub run_of-at : (first n k : ℕ) → k < n → get_or (run_of first n) k 0 ≡ first + 8 * k
unfolding run_of
run_of-at first zero k below = absurd (omega arith)
run_of-at first (suc n) zero below = omega arith
run_of-at first (suc n) (suc k) below = omega (arith, run_of-at (first + 8) n k (omega arith))

pub blocks_of-nil : blocks_of [] ≡ []
unfolding blocks_of
blocks_of-nil = refl

pub blocks_of-cons : (run : ℕ × ℕ) (runs : List (ℕ × ℕ))
    → blocks_of (run ∷ runs) ≡ run_of run.0 (run.1 / 8) ++ blocks_of runs
unfolding blocks_of
blocks_of-cons (first, sectors) runs = refl

pub blocks_of-one : (run : ℕ × ℕ) → blocks_of (run ∷ []) ≡ run_of run.0 (run.1 / 8)
blocks_of-one run = blocks_of-cons run [] ∙ ap (λ (l : List ℕ). run_of run.0 (run.1 / 8) ++ l)
    blocks_of-nil ∙ append-nil (run_of run.0 (run.1 / 8))

-- a run of whole blocks
pub one_run : (first blocks : ℕ) → blocks_of ((first, 8 * blocks) ∷ []) ≡ run_of first blocks
one_run first blocks =
    let whole : (8 * blocks) / 8 ≡ blocks = omega arith in
    blocks_of-one (first, 8 * blocks) ∙ ap (run_of first) whole

pub blocks_of-append : (xs ys : List (ℕ × ℕ)) → blocks_of (xs ++ ys) ≡ blocks_of xs ++ blocks_of ys
blocks_of-append [] ys = rw blocks_of-nil refl
blocks_of-append (x ∷ xs) ys =
    blocks_of-cons x (xs ++ ys) ∙ ap (λ (l : List ℕ). run_of x.0 (x.1 / 8) ++ l)
    (blocks_of-append xs ys)
    ∙ sym (append_assoc (run_of x.0 (x.1 / 8)) (blocks_of xs) (blocks_of ys))
    ∙ ap (λ (l : List ℕ). l ++ blocks_of ys) (sym (blocks_of-cons x xs))

-- where each run ends by a sector, each block does
pub blocks_end : (size : ℕ) (runs : List (ℕ × ℕ))
    → All (λ r. r.0 + r.1 ≤ size) runs
    → (k : ℕ)
    → k < length (blocks_of runs)
    → get_or (blocks_of runs) k 0 + 8 ≤ size
unfolding blocks_of
blocks_end size [] ends k below = absurd (omega arith)
blocks_end size ((first, sectors) ∷ runs) ends k below =
    let long : length (run_of first (sectors / 8)) ≡ sectors / 8 =
    length-run_of first (sectors / 8) in
    let here : first + sectors ≤ size = All-head (λ (r : ℕ × ℕ). r.0 + r.1 ≤ size) (first, sectors)
    runs ends in
    elim (cases_lt k (sectors / 8)) [
      | inr later ↦
          let is : get_or (run_of first (sectors / 8) ++ blocks_of runs) k 0
          ≡ get_or (blocks_of runs) (k - length (run_of first (sectors / 8))) 0 =
          get_or-append_right (run_of first (sectors / 8)) (blocks_of runs) k 0 (omega arith) in
          omega (
            arith,
            is,
            blocks_end size runs
                (All-tail (λ (r : ℕ × ℕ). r.0 + r.1 ≤ size) (first, sectors) runs ends)
                (k - length (run_of first (sectors / 8)))
                (omega (arith, length-append (run_of first (sectors / 8)) (blocks_of runs))),
          )
      | inl now ↦
          let is : get_or (run_of first (sectors / 8) ++ blocks_of runs) k 0
          ≡ get_or (run_of first (sectors / 8)) k 0 =
          get_or-append (run_of first (sectors / 8)) (blocks_of runs) 0 k (omega arith) in
          omega (arith, is, run_of-at first (sectors / 8) k now)
    ]
