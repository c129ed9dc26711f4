-- The blocks of a partition, each as its first sector.
use Rattle.std.specs.Prelude.{ℕ, zero, suc, ◌+◌, ◌/◌, List, [], ◌∷◌, ◌++◌}

-- n blocks of eight sectors, one after another from a sector on
unfoldable pub run_of : ℕ → ℕ → List ℕ
run_of first zero = []
run_of first (suc n) = first ∷ run_of (first + 8) n

-- the blocks of runs, each a first sector and a length in sectors
unfoldable pub blocks_of : List (ℕ × ℕ) → List ℕ
blocks_of [] = []
blocks_of ((first, sectors) ∷ runs) = run_of first (sectors / 8) ++ blocks_of runs
