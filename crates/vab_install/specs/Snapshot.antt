-- An image in an exception store.
use Rattle.std.specs.Prelude.{◌≡◌, ℕ, ◌<◌, ◌≤◌, List, length, slice_index, replicate}
use Rattle.vab_disk.specs.Disk.{Image}
use Rattle.vab_exceptions.specs.declared.area.Exception.{Exception}
use Rattle.vab_space.specs.declared.Chunk.{Chunk}
use Rattle.vab_space.specs.Chunks.{blocks_in, block_in, new_chunk_of}
use Rattle.vab_store.specs.Layout.{chunk_bytes}
use Rattle.vab_store.specs.Seen.{view_block}
use Rattle.vab_store.specs.View.{exception_at}
use Rattle.vab_store.specs.Writing.{block_of}

-- read through the store, each of so many blocks is the staged image's
abbrev pub HoldsBlocks : Chunk
    → List ℕ
    → List ℕ
    → List Exception
    → Image
    → List ℕ
    → ℕ
    → Type 0
HoldsBlocks k base store es image staged blocks = (i : ℕ)
    → i < blocks
    → view_block k base store es image i ≡ block_of staged i

-- the blocks of each of these chunks stand in the chunk of its exception
abbrev pub HoldsNew : Chunk → List ℕ → List ℕ → List ℕ → Image → Type 0
HoldsNew k store olds staged image = (j r : ℕ)
    → j < length olds
    → r < blocks_in k
    → chunk_bytes store image (block_in k (new_chunk_of k j) r)
    ≡ block_of staged (block_in k (slice_index olds j) r)

-- the blocks of the exceptions' chunks that are behind the first so many are zeros
abbrev pub EndsInZeros : Chunk → List ℕ → List Exception → Image → ℕ → Type 0
EndsInZeros k store es image blocks = (j r : ℕ)
    → j < length es
    → r < blocks_in k
    → blocks ≤ block_in k (exception_at es j).old_chunk r
    → chunk_bytes store image (block_in k (exception_at es j).new_chunk r) ≡ replicate 4096 0
