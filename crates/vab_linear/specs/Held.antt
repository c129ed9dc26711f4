-- What the fields of a map stand for.
use Rattle.std.specs.Prelude.{◌≡◌, ℕ, ◌+◌, ◌*◌, ◌<◌, ◌^◌, List, [], ◌∷◌, ◌++◌, length, All}
use Rattle.vab_linear.specs.declared.map.Run.{Run}
use Rattle.vab_linear.specs.Map.{run_of}

-- the blocks of runs, one after another
unfoldable pub held_of : List Run → List ℕ
held_of [] = []
held_of (run ∷ runs) = run_of run.first run.blocks ++ held_of runs

-- so many blocks, and numbers of sectors are below 2^63
pub record IsHeld (runs : List Run) (count : ℕ) : Type 0 where
  pub counted : count ≡ length (held_of runs)
  pub small : count < 2 ^ 60
  pub ends : All (λ (r : Run). r.first + 8 * r.blocks < 2 ^ 63) runs
