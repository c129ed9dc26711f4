-- What is promised of a run in the store of one partition.
use Rattle.std.specs.Prelude.{◌≡◌, ℕ, ◌<◌, List, length, Result, Ok, IfOk, OnOk}
use Rattle.vab_disk.specs.declared.disk.Disk.{Ghosts}
use Rattle.vab_disk.specs.Disk.{Adds}
use Rattle.vab_disk.specs.Calls.{FailsWithDisk, IsAtRest, Touches}
use Rattle.vab_gate.specs.declared.gate.DiskFault.{DiskFault}
use Rattle.vab_space.specs.declared.Chunk.{Chunk}
use Rattle.vab_space.specs.declared.Chunk.TheVariants.{One}
use Rattle.vab_space.specs.Chunks.{entries_in}
use Rattle.vab_store.specs.Scan.{scan_of}
use Rattle.vab_merge.specs.Run.{IsLongest}
use Rattle.vab_merge.specs.Merged.{WithoutLast, LeavesMerged, IsMerging}
use Rattle.vab_device.specs.declared.device.Part.{Part}
use Rattle.vab_device.specs.declared.device.PartImage.{PartImage}
use Rattle.vab_device.specs.declared.device.PartImage.TheVariants.{Kept, Declared, Written}
use Rattle.vab_device.specs.Mounted.{blocks_there, exceptions_in}

-- the size of a chunk of that store; where none is read there is nothing to merge
abbrev pub chunk_in : PartImage → Chunk
chunk_in Kept = One
chunk_in Declared = One
chunk_in (Written k es) = k

-- the blocks of its store
abbrev pub store_in : Part → List ℕ
store_in p = blocks_there p.store

-- a scan of the store gives the exceptions that are kept
abbrev pub IsScanned : Part → (ℕ → List ℕ) → Type 0
IsScanned p image =
    scan_of (chunk_in p.image) (store_in p) (length p.map) image ≡ Ok (exceptions_in p.image)

-- As many of the last exceptions as are a run, at most so many, are merged; the answer counts them.
pub record RunsPart {D A : Type 0}
    (g : Ghosts D)
    (p : Part)
    (count : A → ℕ)
    (most : ℕ)
    (old new : D)
    (result : Result A DiskFault) : Type 0 where
  pub some : IfOk result (λ r. 0 < count r)
  pub longest : IfOk result
      (λ r. IsLongest (entries_in (chunk_in p.image)) (exceptions_in p.image) most (count r))
  pub merged : g.is_modelled
      → IsScanned p (g.seen old)
      → IfOk result
      (λ r. WithoutLast (chunk_in p.image) p.map (store_in p) (exceptions_in p.image) (count r)
      (g.seen old) (g.seen new))
  pub rest : g.is_modelled → IsAtRest g old → OnOk result (IsAtRest g new)
  pub time : g.is_modelled
      → IsAtRest g old
      → IsScanned p (g.seen old)
      → Adds g.moment g.outcomes old new
      (LeavesMerged (chunk_in p.image) p.map (store_in p) (exceptions_in p.image) most
      (g.told old) (g.seen old))
  pub touches : Touches g
      (IsMerging (chunk_in p.image) p.map (store_in p) (exceptions_in p.image) most (g.seen old))
      old new
  pub faults : FailsWithDisk g old new result
