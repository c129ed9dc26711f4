-- Where things stand in an exception store, whose chunks are of one, two or four blocks. Each block
-- of an area is a page of 256 entries.
use Rattle.std.specs.Prelude.{◌⊎◌, ℕ, ◌+◌, ◌*◌, ◌/◌, ◌%◌, ◌<◌, ◌≤◌, List, length, slice_index}
use Rattle.vab_disk.specs.Disk.{Image}
use Rattle.vab_disk.specs.Calls.{IsBetween}
use Rattle.vab_gate.specs.Gate.{sectors_at}
use Rattle.vab_space.specs.declared.Chunk.{Chunk}
use Rattle.vab_space.specs.Chunks.{chunks_in, page_entries, page_block, pages_in}
use Rattle.vab_exceptions.specs.declared.area.Exception.{Exception}
use Rattle.vab_exceptions.specs.Entries.{entry_at}

-- how many chunks there are on these blocks, and how many pages
abbrev pub chunks_of : Chunk → List ℕ → ℕ
chunks_of k map = chunks_in k (length map)

abbrev pub pages_of : Chunk → List ℕ → ℕ
pages_of k map = pages_in k (length map)

-- the bytes of a block
abbrev pub chunk_bytes : List ℕ → Image → ℕ → List ℕ
chunk_bytes map image b = sectors_at 8 image (slice_index map b)

-- the t-th entry of a store, counted through its pages
unfoldable pub slot_at : Chunk → List ℕ → Image → ℕ → Exception
slot_at k map image t =
    entry_at (chunk_bytes map image (page_block k (t / page_entries))) (t % page_entries)

-- how many entries its pages have
abbrev pub slots_of : Chunk → List ℕ → ℕ
slots_of k map = page_entries * pages_of k map

-- each block of a partition lies within so many sectors
abbrev pub IsOnDisk : List ℕ → ℕ → Type 0
IsOnDisk map size = (i : ℕ) → i < length map → slice_index map i + 8 ≤ size

-- a sector of one of its first n blocks
pub record InFirst (map : List ℕ) (n s : ℕ) : Type 0 where
  pub block : ℕ
  pub within : block < n
  pub here : IsBetween (slice_index map block) (slice_index map block + 8) s

-- two blocks have no sector in common
abbrev pub AreApart : ℕ → ℕ → Type 0
AreApart a b = (a + 8 ≤ b) ⊎ (b + 8 ≤ a)

-- no two blocks of a partition have a sector in common
abbrev pub IsApart : List ℕ → Type 0
IsApart map = (i j : ℕ) → i < j → j < length map → AreApart (slice_index map i) (slice_index map j)

-- nor do any of the one and of the other
abbrev pub AreDisjoint : List ℕ → List ℕ → Type 0
AreDisjoint a b = (i j : ℕ)
    → i < length a
    → j < length b
    → AreApart (slice_index a i) (slice_index b j)
