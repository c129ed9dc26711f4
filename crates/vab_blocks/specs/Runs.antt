-- A list of blocks as its maximal runs of consecutive numbers.
use Rattle.std.specs.Prelude.{◌≡◌, ℕ, ◌+◌, ◌<◌, ◌^◌, ◌==◌, if◌then◌else◌, List, [], ◌∷◌, length}
use Rattle.std.specs.Prelude.{All}
use Rattle.std.specs.List.{flat_map, range_with_len}
use Rattle.std.specs.List.Sorted.{IsStrictlyIncreasing}

-- A block in front of runs, each a first block and how many there are: it joins the first run
-- where that begins behind it.
abbrev pub in_front : ℕ → List (ℕ × ℕ) → List (ℕ × ℕ)
in_front block [] = (block, 1) ∷ []
in_front block ((first, count) ∷ runs) =
    if first == block + 1 then (block, count + 1) ∷ runs else (block, 1) ∷ (first, count) ∷ runs

-- the maximal runs
unfoldable pub runs_of : List ℕ → List (ℕ × ℕ)
runs_of [] = []
runs_of (block ∷ blocks) = in_front block (runs_of blocks)

-- the blocks of runs
abbrev pub blocks_of_runs : List (ℕ × ℕ) → List ℕ
blocks_of_runs runs = flat_map (λ run. range_with_len run.0 run.1) runs

-- these runs are the maximal ones of their blocks, and each ends at a number of 64 bits
pub record AreMaximal (runs : List (ℕ × ℕ)) : Type 0 where
  pub maximal : runs_of (blocks_of_runs runs) ≡ runs
  pub fit : All (λ run. run.0 + run.1 < 2 ^ 64) runs

-- numbers that ascend, fewer than 2^64
pub record IsAscending (blocks : List ℕ) : Type 0 where
  pub ascends : IsStrictlyIncreasing blocks
  pub few : length blocks < 2 ^ 64
