-- Which of the first data chunks of a store exceptions have.
use Rattle.std.specs.Prelude.{◌≡◌, ℕ, ◌+◌, ◌≤◌, ◌<◌, List, length, slice_index_or, Bool, true}
use Rattle.std.specs.Prelude.{false, IsTrue}
use Rattle.std.specs.List.{count_by}
use Rattle.vab_space.specs.declared.Chunk.{Chunk}
use Rattle.vab_space.specs.Chunks.{is_data, new_chunk_of, entry_of}
use Rattle.vab_exceptions.specs.declared.area.Exception.{Exception}
use Rattle.vab_store.specs.Setting.{IsNamed}
use Rattle.vab_store.specs.View.{exception_at}

abbrev pub is_set : Bool → Bool
is_set flag = flag

abbrev pub flag_at : List Bool → ℕ → Bool
flag_at flags i = slice_index_or flags i false

-- the new chunks are data chunks
abbrev pub AreData : Chunk → List Exception → Type 0
AreData k es = (j : ℕ) → j < length es → IsTrue (is_data k (exception_at es j).new_chunk)

-- A flag for each of the first data chunks, one more than there are exceptions. A flag that is set
-- is that of an exception's chunk, those of the first n exceptions are, and no more than n are.
pub record AreTaken (k : Chunk) (es : List Exception) (n : ℕ) (flags : List Bool) : Type 0 where
  pub counted : length flags ≡ length es + 1
  pub named : (i : ℕ) → flag_at flags i ≡ true → IsNamed es (new_chunk_of k i)
  pub taken : (j : ℕ)
      → j < n
      → entry_of k (exception_at es j).new_chunk < length flags
      → flag_at flags (entry_of k (exception_at es j).new_chunk) ≡ true
  pub few : count_by is_set flags ≤ n
