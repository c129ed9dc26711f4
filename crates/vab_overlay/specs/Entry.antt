-- An entry that is written in its sector.
use Rattle.std.specs.Prelude.{◌≡◌, ◌≢◌, ◌⊎◌, ℕ, ◌%◌, List, length}
use Rattle.vab_disk.specs.Disk.{Image, Outcome, set_sector}
use Rattle.vab_exceptions.specs.declared.area.Exception.{Exception}
use Rattle.vab_exceptions.specs.Entries.{entry_at}
use Rattle.vab_space.specs.declared.Chunk.TheVariants.{One}
use Rattle.vab_store.specs.Sectors.{entry_sector, sector_entries}

-- the bytes of a sector with another i-th entry
pub record IsPut (i : ℕ) (e : Exception) (old new : List ℕ) : Type 0 where
  pub long : length new ≡ length old
  pub here : entry_at new i ≡ e
  pub others : (j : ℕ) → j ≢ i → entry_at new j ≡ entry_at old j

-- a store with another entry at this place, counted through its pages
pub record WithEntry (store : List ℕ) (place : ℕ) (e : Exception) (old new : Image) : Type 0 where
  pub bytes : List ℕ
  pub put : IsPut (place % sector_entries) e (old (entry_sector One store place)) bytes
  pub is : new ≡ set_sector old (entry_sector One store place) bytes

-- the one disk, or the one with that entry, with nothing more told
pub record LeavesEntry
    (store : List ℕ)
    (place : ℕ)
    (e : Exception)
    (told : List ℕ)
    (old : Image)
    (o : Outcome) : Type 0 where
  pub told_so_far : o.told ≡ told
  pub either : (o.image ≡ old) ⊎ WithEntry store place e old o.image

-- the sector of that entry, with it
pub record IsEntryAt
    (store : List ℕ)
    (place : ℕ)
    (e : Exception)
    (image : Image)
    (s : ℕ)
    (b : List ℕ) : Type 0 where
  pub here : s ≡ entry_sector One store place
  pub put : IsPut (place % sector_entries) e (image s) b
