-- The sectors of a store's pages.
use Rattle.std.specs.Prelude.{ℕ, ◌+◌, ◌/◌, ◌%◌, List, slice_index}
use Rattle.vab_space.specs.declared.Chunk.{Chunk}
use Rattle.vab_space.specs.Chunks.{page_block}

-- how many entries a sector has, and how many sectors a page
abbrev pub sector_entries : ℕ
sector_entries = 32

abbrev pub page_sectors : ℕ
page_sectors = 8

-- the i-th sector of a store's pages, counted through them
abbrev pub page_sector : Chunk → List ℕ → ℕ → ℕ
page_sector k store i =
    slice_index store (page_block k (i / page_sectors)) + i % page_sectors

-- the sector of the j-th entry
abbrev pub entry_sector : Chunk → List ℕ → ℕ → ℕ
entry_sector k store j = page_sector k store (j / sector_entries)
