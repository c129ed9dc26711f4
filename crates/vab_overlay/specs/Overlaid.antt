-- A store over a partition, and what it is once a block was written into it. Chunks are of one
-- block.
use Rattle.std.specs.Prelude.{◌≡◌, ◌≢◌, ◌⊎◌, ℕ, ◌<◌, List, length, Ok}
use Rattle.vab_disk.specs.Disk.{Image, Outcome}
use Rattle.vab_exceptions.specs.declared.area.Exception.{Exception}
use Rattle.vab_space.specs.declared.Chunk.TheVariants.{One}
use Rattle.vab_store.specs.Clean.{EndsClean}
use Rattle.vab_store.specs.Layout.{IsOnDisk, AreDisjoint, InFirst}
use Rattle.vab_store.specs.Scan.{scan_of}
use Rattle.vab_store.specs.Seen.{view_block}
use Rattle.vab_store.specs.Setting.{entry_place, set_entry, IsLowestFree}
use Rattle.vab_store.specs.View.{Fits}
use Rattle.vab_overlay.specs.Data.{next_page, IsDataAt}
use Rattle.vab_overlay.specs.Entry.{IsEntryAt}

-- The store lies on the disk, and with a bound above the block its exceptions keep the rules.
pub record MayOverlay (store : List ℕ) (es : List Exception) (block size : ℕ) : Type 0 where
  pub bound : ℕ
  pub above : block < bound
  pub fits : Fits One bound store es
  pub on_disk : IsOnDisk store size

-- these are the store's exceptions, and they end clean
pub record IsOverlaid (store : List ℕ) (bound : ℕ) (es : List Exception) (image : Image) : Type 0
  where
    pub scanned : scan_of One store bound image ≡ Ok es
    pub clean : EndsClean store (length es) image

-- the list with the lowest data chunk that no exception has for this block
pub record IsEntered (es : List Exception) (block : ℕ) (now : List Exception) : Type 0 where
  pub chunk : ℕ
  pub lowest : IsLowestFree One es chunk
  pub entered : now ≡ set_entry es block chunk

-- The exceptions are the same, and each block of a partition that has none of the store's reads as
-- before.
pub record IsKept
    (store : List ℕ)
    (bound : ℕ)
    (es : List Exception)
    (old new : Image) : Type 0 where
  pub overlaid : IsOverlaid store bound es new
  pub same : (base : List ℕ) (b : ℕ)
      → AreDisjoint base store
      → b < length base
      → view_block One base store es new b ≡ view_block One base store es old b

-- The block has an exception with the lowest free chunk, and reads as these bytes. Each other one
-- reads as before.
pub record IsWritten
    (store : List ℕ)
    (bound : ℕ)
    (es now : List Exception)
    (block : ℕ)
    (from : List ℕ)
    (old new : Image) : Type 0 where
  pub entered : IsEntered es block now
  pub overlaid : IsOverlaid store bound now new
  pub here : (base : List ℕ) → view_block One base store now new block ≡ from
  pub others : (base : List ℕ) (b : ℕ)
      → AreDisjoint base store
      → b < length base
      → b ≢ block
      → view_block One base store now new b ≡ view_block One base store es old b

-- With nothing more told, the store is the old one or the written one.
pub record LeavesOverlaid
    (store : List ℕ)
    (bound : ℕ)
    (es : List Exception)
    (block : ℕ)
    (from told : List ℕ)
    (old : Image)
    (o : Outcome) : Type 0 where
  pub told_so_far : o.told ≡ told
  pub either : IsKept store bound es old o.image
      ⊎ ((now : List Exception) × IsWritten store bound es now block from old o.image)

-- What is written: the block's bytes to the lowest free data chunk, zeros to the next page where
-- the new entry fills its own, and that entry in its sector, whose other entries stay.
abbrev pub IsOfOverlay : List ℕ → List Exception → ℕ → List ℕ → Image → ℕ → List ℕ → Type 0
IsOfOverlay store es block from image s b = (chunk : ℕ)
    × IsLowestFree One es chunk
    × (IsDataAt store chunk from (next_page (length es) (entry_place es block)) s b
    ⊎ IsEntryAt store (entry_place es block) (record { old_chunk = block; new_chunk = chunk })
    image s b)

-- it is written to the store
pub record IsOverlaying
    (store : List ℕ)
    (es : List Exception)
    (block : ℕ)
    (from : List ℕ)
    (image : Image)
    (s : ℕ)
    (b : List ℕ) : Type 0 where
  pub inside : InFirst store (length store) s
  pub which : IsOfOverlay store es block from image s b
