-- What a merge leaves of a partition that is read through its store.
use Rattle.std.specs.Prelude.{◌≡◌, ◌⊎◌, ℕ, ◌-◌, ◌≤◌, ◌<◌, List, length, take, Ok}
use Rattle.vab_space.specs.declared.Chunk.{Chunk}
use Rattle.vab_space.specs.Chunks.{entries_in}
use Rattle.vab_disk.specs.Disk.{Image, Outcome}
use Rattle.vab_exceptions.specs.declared.area.Exception.{Exception}
use Rattle.vab_store.specs.Layout.{IsOnDisk, IsApart, AreDisjoint}
use Rattle.vab_store.specs.Scan.{scan_of}
use Rattle.vab_store.specs.Seen.{view_block}
use Rattle.vab_store.specs.View.{Fits}
use Rattle.vab_merge.specs.Run.{IsRun, IsLongest}
use Rattle.vab_merge.specs.Copied.{InBlocksOf}
use Rattle.vab_merge.specs.Cleared.{IsClearing}
use Rattle.vab_merge.specs.declared.merge.Ran.{Ran}
use Rattle.vab_merge.specs.declared.merge.Ran.TheVariants.{Merged, Empty}

-- The partition and its store lie on the disk, and the exceptions keep the rules of the store.
pub record MayMerge (k : Chunk) (base store : List ℕ) (es : List Exception) (size : ℕ)
    : Type 0 where
  pub fits : Fits k (length base) store es
  pub base_on_disk : IsOnDisk base size
  pub store_on_disk : IsOnDisk store size

-- so they do, and no block stands twice or in both
pub record CanMerge (k : Chunk) (base store : List ℕ) (es : List Exception) (size : ℕ)
    : Type 0 where
  pub may : MayMerge k base store es size
  pub base_apart : IsApart base
  pub store_apart : IsApart store
  pub disjoint : AreDisjoint base store

-- A scan gives the exceptions without the last n, and each block reads as before.
pub record WithoutLast
    (k : Chunk)
    (base store : List ℕ)
    (es : List Exception)
    (n : ℕ)
    (old new : Image) : Type 0 where
  pub scanned : scan_of k store (length base) new ≡ Ok (take (length es - n) es)
  pub same : (block : ℕ)
      → block < length base
      → view_block k base store
      (take (length es - n) es) new block ≡ view_block k base store es old block

-- So many of the last exceptions may be merged together: they stand in one area.
pub record MayRun (k : Chunk) (es : List Exception) (most n : ℕ) : Type 0 where
  pub run : IsRun (entries_in k) es n
  pub at_most : n ≤ most

-- With nothing more told, a scan lacks some of the last exceptions of a run, or none.
pub record LeavesMerged
    (k : Chunk)
    (base store : List ℕ)
    (es : List Exception)
    (most : ℕ)
    (told : List ℕ)
    (old : Image)
    (o : Outcome) : Type 0 where
  pub told_so_far : o.told ≡ told
  pub dropped : ℕ
  pub may_run : MayRun k es most dropped
  pub without : WithoutLast k base store es dropped old o.image

-- What is written for exceptions that are merged, the last of a run: a sector of the blocks of one;
-- or one of their entries, as it was but for those from some place on, all of which are zeros.
pub record IsMerging
    (k : Chunk)
    (base store : List ℕ)
    (es : List Exception)
    (most : ℕ)
    (image : Image)
    (s : ℕ)
    (b : List ℕ) : Type 0 where
  pub place : ℕ
  pub within : place < length es
  pub may_run : MayRun k es most (length es - place)
  pub here : InBlocksOf k base es place s ⊎ IsClearing k store place (length es) image s b

-- how many were merged, or that none is left
abbrev pub IsRan : Chunk → List Exception → ℕ → Ran → Type 0
IsRan k es most Empty = length es ≡ 0
IsRan k es most (Merged n) = (0 < n) × IsLongest (entries_in k) es most n

-- how many exceptions this drops
abbrev pub dropped_by : Ran → ℕ
dropped_by Empty = 0
dropped_by (Merged n) = n
