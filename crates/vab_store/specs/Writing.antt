-- What a writer puts into a store.
use Rattle.std.specs.Prelude.{◌≡◌, ℕ, ◌+◌, ◌-◌, ◌*◌, ◌<◌, min, List, ◌++◌, length}
use Rattle.std.specs.Prelude.{slice_index, replicate, if◌then◌else◌, ◌==◌}
use Rattle.vab_bytes.specs.Number.{field}
use Rattle.vab_disk.specs.Disk.{Image}
use Rattle.vab_space.specs.declared.Chunk.{Chunk}
use Rattle.vab_space.specs.Chunks.{block_in, chunk_at, place_in, page_entries, page_of, is_area}
use Rattle.vab_space.specs.Chunks.{new_chunk_of, entry_of}
use Rattle.vab_exceptions.specs.declared.area.Exception.{Exception}
use Rattle.vab_exceptions.specs.Entries.{firsts, area_bytes}
use Rattle.vab_exceptions.specs.Header.{header_bytes}
use Rattle.vab_store.specs.Layout.{chunk_bytes}

-- the j-th exception for these old chunks
abbrev pub planned_at : Chunk → List ℕ → ℕ → Exception
planned_at k olds j = record {
  old_chunk = slice_index olds j;
  new_chunk = new_chunk_of k j;
}

-- all of them
abbrev pub planned_of : Chunk → List ℕ → List Exception
planned_of k olds = firsts (planned_at k olds) (length olds)

-- those of page p
abbrev pub page_entries_of : Chunk → List ℕ → ℕ → List Exception
page_entries_of k olds p =
    firsts (λ i. planned_at k olds (page_entries * p + i))
    (min (length olds - page_entries * p) page_entries)

-- a block of an image, with zeros behind the image's end
unfoldable pub block_of : List ℕ → ℕ → List ℕ
block_of image i =
    field image (4096 * i) 4096 ++ replicate (4096 - length (field image (4096 * i) 4096)) 0

-- the first block
unfoldable pub header_block : Chunk → List ℕ
header_block k = header_bytes k ++ replicate 3584 0

-- what a block holds: the header or zeros behind it, a page, or a block of the image
unfoldable pub store_block : Chunk → List ℕ → List ℕ → ℕ → List ℕ
store_block k olds image b =
    if chunk_at k b == 0
    then (if place_in k b == 0 then header_block k else replicate 4096 0)
    else
    (if is_area k (chunk_at k b)
    then area_bytes 4096 (page_entries_of k olds (page_of k b))
    else
    block_of image (block_in k (slice_index olds (entry_of k (chunk_at k b))) (place_in k b)))

-- the first so many blocks hold that
abbrev pub HoldsStore : Chunk → List ℕ → List ℕ → List ℕ → Image → ℕ → Type 0
HoldsStore k map olds image disk count = (b : ℕ)
    → b < count
    → chunk_bytes map disk b ≡ store_block k olds image b
