-- Chunks of an exception store: one, two or four blocks each. An area is a chunk of entries, and
-- each of its blocks is a page of 256.
use Rattle.std.specs.Prelude.{ℕ, ◌+◌, ◌-◌, ◌*◌, ◌/◌, ◌%◌, Bool, ◌&&◌, ◌==◌, not}
use Rattle.vab_space.specs.declared.Chunk.{Chunk}
use Rattle.vab_space.specs.declared.Chunk.TheVariants.{One, Two, Four}

-- the blocks of a chunk
abbrev pub blocks_in : Chunk → ℕ
blocks_in One = 1
blocks_in Two = 2
blocks_in Four = 4

-- the r-th block of chunk c
abbrev pub block_in : Chunk → ℕ → ℕ → ℕ
block_in One c r = c
block_in Two c r = 2 * c + r
block_in Four c r = 4 * c + r

-- the chunk of a block, and its place in it
abbrev pub chunk_at : Chunk → ℕ → ℕ
chunk_at One b = b
chunk_at Two b = b / 2
chunk_at Four b = b / 4

abbrev pub place_in : Chunk → ℕ → ℕ
place_in One b = 0
place_in Two b = b % 2
place_in Four b = b % 4

-- the whole chunks of so many blocks
abbrev pub chunks_in : Chunk → ℕ → ℕ
chunks_in One blocks = blocks
chunks_in Two blocks = blocks / 2
chunks_in Four blocks = blocks / 4

-- the chunks in which so many blocks stand
abbrev pub chunks_for : Chunk → ℕ → ℕ
chunks_for One blocks = blocks
chunks_for Two blocks = (blocks + 1) / 2
chunks_for Four blocks = (blocks + 3) / 4

-- the entries of a page, and those of an area
abbrev pub page_entries : ℕ
page_entries = 256

abbrev pub entries_in : Chunk → ℕ
entries_in k = page_entries * blocks_in k

-- the blocks of a store that holds n exceptions: its header, its areas with one entry more to end
-- the list, and a chunk for each
abbrev pub need_at : ℕ → Chunk → ℕ
need_at n k = block_in k (1 + (n / entries_in k + 1) + n) 0

-- the chunk of area a
abbrev pub area_chunk : Chunk → ℕ → ℕ
area_chunk k a = 1 + (entries_in k + 1) * a

-- how many areas so many chunks have
abbrev pub areas_of : Chunk → ℕ → ℕ
areas_of k chunks = (chunks + (entries_in k - 1)) / (entries_in k + 1)

-- the block of a page: the pages of an area stand one behind the other
abbrev pub page_block : Chunk → ℕ → ℕ
page_block k p = block_in k (area_chunk k (chunk_at k p)) (place_in k p)

-- how many pages so many blocks have
abbrev pub pages_in : Chunk → ℕ → ℕ
pages_in k blocks = block_in k (areas_of k (chunks_in k blocks)) 0

-- a chunk that is an area, and one that is neither the header nor an area
abbrev pub is_area : Chunk → ℕ → Bool
is_area k c = c % (entries_in k + 1) == 1

abbrev pub is_data : Chunk → ℕ → Bool
is_data k c = not (c == 0) && not (is_area k c)

-- the chunk that a writer gives exception j
abbrev pub new_chunk_of : Chunk → ℕ → ℕ
new_chunk_of k j = 2 + j + j / entries_in k

-- the page of a block of an area, and the exception of a data chunk
abbrev pub page_of : Chunk → ℕ → ℕ
page_of k b = block_in k (chunk_at k b / (entries_in k + 1)) (place_in k b)

abbrev pub entry_of : Chunk → ℕ → ℕ
entry_of k c = c - 2 - (c - 2) / (entries_in k + 1)
