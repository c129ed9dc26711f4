-- Whether a store's list ends clean. Chunks are of one block.
use Rattle.std.specs.Prelude.{◌≡◌, ℕ, ◌+◌, ◌-◌, ◌/◌, ◌%◌, ◌≤◌, List, Bool, ◌==◌}
use Rattle.std.specs.List.{list_all}
use Rattle.vab_disk.specs.Disk.{Image}
use Rattle.vab_exceptions.specs.declared.area.Exception.{Exception}
use Rattle.vab_exceptions.specs.Entries.{entry_at, firsts}
use Rattle.vab_space.specs.declared.Chunk.TheVariants.{One}
use Rattle.vab_space.specs.Chunks.{page_block, page_entries}
use Rattle.vab_store.specs.Layout.{chunk_bytes, slot_at}

-- no entry of the page in which a list of so many exceptions ends is an exception from that end on
abbrev pub EndsClean : List ℕ → (count : ℕ) → Image → Type 0
EndsClean store count image = (t : ℕ)
    → count ≤ t
    → t / page_entries ≡ count / page_entries
    → (slot_at One store image t).new_chunk ≡ 0

-- an entry that is no exception
abbrev pub is_none : Exception → Bool
is_none e = e.new_chunk == 0

-- no entry of a page is an exception from this one on
unfoldable pub is_clear : (page : List ℕ) → (from : ℕ) → Bool
is_clear page from = list_all is_none (firsts (λ i. entry_at page (from + i)) (page_entries - from))

-- whether none is in the page in which a list of so many exceptions ends, from that end on
unfoldable pub ends_clean : List ℕ → (count : ℕ) → Image → Bool
ends_clean store count image =
    is_clear (chunk_bytes store image (page_block One (count / page_entries)))
    (count % page_entries)
