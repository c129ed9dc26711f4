-- Entries that are zeroed in their sectors.
use Rattle.std.specs.Prelude.{◌≡◌, ◌⊎◌, ℕ, ◌-◌, ◌*◌, ◌/◌, ◌≤◌, ◌<◌, min, List, length}
use Rattle.std.specs.Prelude.{slice_index}
use Rattle.vab_disk.specs.Disk.{Image}
use Rattle.vab_space.specs.declared.Chunk.{Chunk}
use Rattle.vab_store.specs.Sectors.{sector_entries, page_sector}

-- how many bytes an entry has
abbrev pub entry_long : ℕ
entry_long = 16

-- all bytes of a sector's entries from the one up to the other are zeros, and each other byte is
-- kept
pub record IsCleared (from to : ℕ) (old new : List ℕ) : Type 0 where
  pub long : length new ≡ length old
  pub kept : (i : ℕ)
      → (i < entry_long * from) ⊎ (entry_long * to ≤ i)
      → slice_index new i ≡ slice_index old i
  pub gone : (i : ℕ) → entry_long * from ≤ i → i < entry_long * to → slice_index new i ≡ 0

-- the entries from the first up to the end that stand in the i-th sector
abbrev pub IsClearedAt : ℕ → ℕ → ℕ → List ℕ → List ℕ → Type 0
IsClearedAt first end i old new =
    IsCleared (first - sector_entries * i) (min (end - sector_entries * i) sector_entries) old new

-- a sector of these entries
pub record IsOfThem (first end i : ℕ) : Type 0 where
  pub from : first / sector_entries ≤ i
  pub below : sector_entries * i < end

-- one of the sectors, with its entries zeroed
pub record IsClearing
    (k : Chunk)
    (store : List ℕ)
    (first end : ℕ)
    (image : Image)
    (s : ℕ)
    (b : List ℕ) : Type 0 where
  pub sector : ℕ
  pub within : IsOfThem first end sector
  pub here : s ≡ page_sector k store sector
  pub cleared : IsClearedAt first end sector (image s) b

-- all of them are
abbrev pub AreCleared : Chunk → List ℕ → ℕ → ℕ → Image → Image → Type 0
AreCleared k store first end old new = (i : ℕ)
    → IsOfThem first end i
    → IsClearedAt first end i (old (page_sector k store i)) (new (page_sector k store i))
