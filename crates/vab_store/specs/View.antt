-- Lists of exceptions: what they say of a partition's blocks, and the rules that they keep.
use Rattle.std.specs.Prelude.{◌≢◌, ℕ, ◌≤◌, ◌<◌, List, [], ◌∷◌, length, slice_index_or, IsTrue}
use Rattle.std.specs.Prelude.{Option, Some, None, option_map, if◌then◌else◌, ◌==◌}
use Rattle.vab_space.specs.declared.Chunk.{Chunk}
use Rattle.vab_space.specs.declared.Chunk.TheVariants.{One, Two, Four}
use Rattle.vab_space.specs.Chunks.{block_in, chunk_at, place_in, chunks_for, is_data}
use Rattle.vab_exceptions.specs.declared.area.Exception.{Exception}
use Rattle.vab_store.specs.Layout.{chunks_of, slots_of}

-- what stands behind the end of a list
abbrev pub no_exception : Exception
no_exception = record { old_chunk = 0; new_chunk = 0 }

abbrev pub exception_at : List Exception → ℕ → Exception
exception_at es j = slice_index_or es j no_exception

-- the new chunk of an old one, where an exception has it
abbrev pub view_of : List Exception → ℕ → Option ℕ
view_of [] block = None
view_of (e ∷ es) block = if e.old_chunk == block then Some e.new_chunk else view_of es block

-- the same block of the new chunk of its chunk
abbrev pub stored_for : Chunk → List Exception → ℕ → Option ℕ
stored_for k es block =
    option_map (λ n. block_in k n (place_in k block)) (view_of es (chunk_at k block))

-- the block of the store that stands for a block of the partition, where an exception has its chunk
abbrev pub stored_at : Chunk → List Exception → ℕ → Option ℕ
stored_at One es block = view_of es block
stored_at Two es block = stored_for Two es block
stored_at Four es block = stored_for Four es block

-- Its old chunk is below the bound, and its new chunk is a data chunk inside the store.
pub record Lies (k : Chunk) (chunks bound : ℕ) (e : Exception) : Type 0 where
  pub old_chunk : e.old_chunk < bound
  pub new_chunk : e.new_chunk < chunks
  pub is_data : IsTrue (is_data k e.new_chunk)

-- two exceptions that have neither chunk in common
pub record AreOther (a b : Exception) : Type 0 where
  pub old_chunk : a.old_chunk ≢ b.old_chunk
  pub new_chunk : a.new_chunk ≢ b.new_chunk

-- The rules of a store's list: each exception lies in the partition, which has so many blocks, and
-- in the store; none shares a chunk with another; and there is room for the entry that ends the
-- list.
pub record Fits (k : Chunk) (bound : ℕ) (map : List ℕ) (es : List Exception) : Type 0 where
  pub chunks : 2 ≤ chunks_of k map
  pub room : length es < slots_of k map
  pub lie : (j : ℕ)
      → j < length es
      → Lies k (chunks_of k map) (chunks_for k bound) (exception_at es j)
  pub once : (i j : ℕ)
      → i < j
      → j < length es
      → AreOther (exception_at es i) (exception_at es j)
