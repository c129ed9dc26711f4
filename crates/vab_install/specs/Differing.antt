-- The chunks of an image that differ from a partition's blocks.
use Rattle.std.specs.Prelude.{◌≡◌, ℕ, ◌≤◌, ◌<◌, Bool, ◌&&◌, not, nat_lt, List, length, All}
use Rattle.std.specs.List.Sorted.{IsStrictlyIncreasing}
use Rattle.std.specs.Str.{bytes_eq}
use Rattle.vab_disk.specs.Disk.{Image}
use Rattle.vab_space.specs.declared.Chunk.{Chunk}
use Rattle.vab_space.specs.Differing.{differing_chunks}
use Rattle.vab_store.specs.Layout.{chunk_bytes}
use Rattle.vab_store.specs.Writing.{block_of}

-- the staged image's block i, with zeros behind the image's end, isn't the partition's, or the
-- partition has none
abbrev pub differs_at : List ℕ → Image → List ℕ → ℕ → Bool
differs_at base image staged i =
    not (nat_lt i (length base) && bytes_eq (chunk_bytes base image i) (block_of staged i))

-- the chunks with such a block among the first so many, in ascending order
abbrev pub differing_of : Chunk → List ℕ → Image → List ℕ → ℕ → List ℕ
differing_of k base image staged blocks = differing_chunks k (differs_at base image staged) blocks

-- so many numbers below n in ascending order, and no more than were asked for
pub record AscendsBelow (n most count : ℕ) (olds : List ℕ) : Type 0 where
  pub ascend : IsStrictlyIncreasing olds
  pub below : All (λ old. old < n) olds
  pub counted : length olds ≡ count
  pub few : count ≤ most
