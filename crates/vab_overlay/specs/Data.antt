-- The data of a block that is written into a store, before its entry is.
use Rattle.std.specs.Prelude.{◌⊎◌, ℕ, ◌+◌, ◌/◌, ◌%◌, ◌&&◌, ◌==◌, List, Option, Some, None}
use Rattle.std.specs.Prelude.{if◌then◌else◌, slice_index, replicate}
use Rattle.vab_space.specs.declared.Chunk.TheVariants.{One}
use Rattle.vab_space.specs.Chunks.{page_block, page_entries}
use Rattle.vab_gate.specs.Gate.{IsAmong}

-- The block of the next page, where an entry that comes behind so many others fills its page.
abbrev pub next_page : (count place : ℕ) → Option ℕ
next_page count place =
    if place == count && place % page_entries == 255
    then Some (page_block One (place / page_entries + 1))
    else None

-- a sector of this block of a store, where there is one, as zeros
abbrev pub IsZeroAt : List ℕ → Option ℕ → ℕ → List ℕ → Type 0
IsZeroAt store None s b = ⊥
IsZeroAt store (Some page) s b = IsAmong 8 (slice_index store page) (replicate 4096 0) s b

-- a sector of the data chunk with its part of these bytes, or of the next page
abbrev pub IsDataAt : List ℕ → ℕ → List ℕ → Option ℕ → ℕ → List ℕ → Type 0
IsDataAt store chunk from next s b =
    IsAmong 8 (slice_index store chunk) from s b ⊎ IsZeroAt store next s b
