-- The last exceptions of a list that are merged together.
use Rattle.std.specs.Prelude.{◌≡◌, ℕ, ◌+◌, ◌/◌, ◌≤◌, ◌<◌, List, length}
use Rattle.vab_exceptions.specs.declared.area.Exception.{Exception}
use Rattle.vab_store.specs.View.{exception_at}

-- the j-th and the next exception stand in one area, and their old chunks ascend by one
pub record IsJoined (per : ℕ) (es : List Exception) (j : ℕ) : Type 0 where
  pub same_area : j / per ≡ (j + 1) / per
  pub ascends : (exception_at es j).old_chunk + 1 ≡ (exception_at es (j + 1)).old_chunk

-- so do the last n, one after another
pub record IsRun (per : ℕ) (es : List Exception) (n : ℕ) : Type 0 where
  pub within : n ≤ length es
  pub joined : (j : ℕ) → length es ≤ j + n → j + 1 < length es → IsJoined per es j

-- at most so many, and no more of them do
pub record IsLongest (per : ℕ) (es : List Exception) (most n : ℕ) : Type 0 where
  pub run : IsRun per es n
  pub at_most : n ≤ most
  pub longest : (k : ℕ) → k ≤ most → IsRun per es k → k ≤ n
