-- A list of exceptions in which a block gets a new chunk.
use Rattle.std.specs.Prelude.{◌≡◌, ◌≢◌, ℕ, suc, ◌<◌, List, [], ◌∷◌, length, IsTrue}
use Rattle.std.specs.Prelude.{if◌then◌else◌, ◌==◌}
use Rattle.vab_space.specs.declared.Chunk.{Chunk}
use Rattle.vab_space.specs.Chunks.{is_data}
use Rattle.vab_exceptions.specs.declared.area.Exception.{Exception}
use Rattle.vab_store.specs.View.{exception_at}

-- the place of the exception that has this old chunk, or the one behind all where none has it
unfoldable pub entry_place : List Exception → ℕ → ℕ
entry_place [] old = 0
entry_place (e ∷ es) old = if e.old_chunk == old then 0 else suc (entry_place es old)

-- the list with this new chunk for the old one, in the place of the exception that has the old one,
-- or behind all
unfoldable pub set_entry : List Exception → ℕ → ℕ → List Exception
set_entry [] old new = record { old_chunk = old; new_chunk = new } ∷ []
set_entry (e ∷ es) old new =
    if e.old_chunk == old
    then record { old_chunk = old; new_chunk = new } ∷ es
    else e ∷ set_entry es old new

-- the new chunks are data chunks, and no two exceptions have one
pub record HaveData (k : Chunk) (es : List Exception) : Type 0 where
  pub data_chunk : (j : ℕ) → j < length es → IsTrue (is_data k (exception_at es j).new_chunk)
  pub once : (i j : ℕ)
      → i < j
      → j < length es
      → (exception_at es i).new_chunk ≢ (exception_at es j).new_chunk

-- an exception has this new chunk
pub record IsNamed (es : List Exception) (chunk : ℕ) : Type 0 where
  pub place : ℕ
  pub within : place < length es
  pub new_is : (exception_at es place).new_chunk ≡ chunk

-- the lowest data chunk that no exception has
pub record IsLowestFree (k : Chunk) (es : List Exception) (chunk : ℕ) : Type 0 where
  pub data_chunk : IsTrue (is_data k chunk)
  pub free : (j : ℕ) → j < length es → (exception_at es j).new_chunk ≢ chunk
  pub lowest : (c : ℕ) → c < chunk → IsTrue (is_data k c) → IsNamed es c
