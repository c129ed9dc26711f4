-- Blocks that are copied from the store to the partition.
use Rattle.std.specs.Prelude.{◌≡◌, ℕ, ◌+◌, ◌≤◌, ◌<◌, List, length, slice_index}
use Rattle.vab_disk.specs.Disk.{Image}
use Rattle.vab_disk.specs.Calls.{IsBetween}
use Rattle.vab_space.specs.declared.Chunk.{Chunk}
use Rattle.vab_space.specs.Chunks.{blocks_in, block_in}
use Rattle.vab_exceptions.specs.declared.area.Exception.{Exception}
use Rattle.vab_store.specs.Layout.{chunk_bytes}
use Rattle.vab_store.specs.View.{exception_at}

-- a sector of one of the blocks of a chunk that the partition has: the last chunk may have blocks
-- behind the partition's end
pub record InChunk (k : Chunk) (base : List ℕ) (chunk s : ℕ) : Type 0 where
  pub place : ℕ
  pub within : place < blocks_in k
  pub below : block_in k chunk place < length base
  pub here : IsBetween (slice_index base (block_in k chunk place))
      (slice_index base (block_in k chunk place) + 8) s

-- of the chunk of the j-th exception
abbrev pub InBlocksOf : Chunk → List ℕ → List Exception → ℕ → ℕ → Type 0
InBlocksOf k base es j s = InChunk k base (exception_at es j).old_chunk s

-- a sector of the blocks of an exception from the first on
pub record InCopied (k : Chunk) (base : List ℕ) (es : List Exception) (first s : ℕ) : Type 0 where
  pub place : ℕ
  pub behind : first ≤ place
  pub within : place < length es
  pub here : InBlocksOf k base es place s

-- the blocks of an exception's chunk that the partition has hold what those of its new chunk held
abbrev pub IsCopied : Chunk → List ℕ → List ℕ → Exception → Image → Image → Type 0
IsCopied k base store e old new = (r : ℕ)
    → r < blocks_in k
    → block_in k e.old_chunk r < length base
    → chunk_bytes base new (block_in k e.old_chunk r)
    ≡ chunk_bytes store old (block_in k e.new_chunk r)

-- so it is with these exceptions
abbrev pub AreCopied : Chunk → List ℕ → List ℕ → List Exception → ℕ → ℕ → Image → Image → Type 0
AreCopied k base store es first end old new = (j : ℕ)
    → first ≤ j
    → j < end
    → IsCopied k base store (exception_at es j) old new
