-- What is read through a store.
use Rattle.std.specs.Prelude.{ℕ, List, Option, Some, None}
use Rattle.vab_disk.specs.Disk.{Image}
use Rattle.vab_space.specs.declared.Chunk.{Chunk}
use Rattle.vab_exceptions.specs.declared.area.Exception.{Exception}
use Rattle.vab_store.specs.Layout.{chunk_bytes}
use Rattle.vab_store.specs.View.{stored_at}

-- the bytes of the block of the store, where there is one, else of the partition's own
abbrev pub chosen_bytes : List ℕ → List ℕ → Image → ℕ → Option ℕ → List ℕ
chosen_bytes base store image block (Some stored) = chunk_bytes store image stored
chosen_bytes base store image block None = chunk_bytes base image block

-- a block of the partition, read through the store with these exceptions
abbrev pub view_block : Chunk → List ℕ → List ℕ → List Exception → Image → ℕ → List ℕ
view_block k base store es image block =
    chosen_bytes base store image block (stored_at k es block)
