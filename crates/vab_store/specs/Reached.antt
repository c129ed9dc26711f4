-- The sectors of a store on which its list of exceptions rests.
use Rattle.std.specs.Prelude.{◌⊎◌, ℕ, ◌+◌, ◌/◌, ◌≤◌, List, slice_index}
use Rattle.vab_disk.specs.Calls.{IsBetween}
use Rattle.vab_space.specs.declared.Chunk.{Chunk}
use Rattle.vab_space.specs.Chunks.{page_block, page_entries}

-- a sector of a block of a store
abbrev pub IsOfBlock : List ℕ → ℕ → ℕ → Type 0
IsOfBlock store b s = IsBetween (slice_index store b) (slice_index store b + 8) s

-- a sector of a page that a list of so many exceptions reaches, with the entry that ends it
pub record IsOfPage (k : Chunk) (store : List ℕ) (count s : ℕ) : Type 0 where
  pub entry : ℕ
  pub within : entry ≤ count
  pub here : IsOfBlock store (page_block k (entry / page_entries)) s

-- what a scan takes: the block of the header, and those pages
abbrev pub IsReached : Chunk → List ℕ → (count : ℕ) → ℕ → Type 0
IsReached k store count s = IsOfBlock store 0 s ⊎ IsOfPage k store count s
