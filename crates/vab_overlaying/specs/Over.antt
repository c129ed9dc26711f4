-- A block that is written over the overlaid partition: what it takes, and what is promised of it.
use Rattle.std.specs.Prelude.{◌≡◌, ℕ, ◌+◌, ◌<◌, List, length, Option, Some, Result, OnOk, OnErr}
use Rattle.vab_disk.specs.declared.disk.Disk.{Ghosts}
use Rattle.vab_disk.specs.Disk.{Adds}
use Rattle.vab_disk.specs.Calls.{IsAtRest, Touches}
use Rattle.vab_exceptions.specs.declared.area.Exception.{Exception}
use Rattle.vab_space.specs.Space.{need_of}
use Rattle.vab_space.specs.declared.Chunk.TheVariants.{One}
use Rattle.vab_store.specs.View.{Fits}
use Rattle.vab_overlay.specs.declared.fault.OverlayFault.{OverlayFault}
use Rattle.vab_overlay.specs.Faults.{TellsFull, CountsFaults, CallsNone}
use Rattle.vab_overlay.specs.Overlaid.{IsOverlaid, IsEntered, IsWritten, LeavesOverlaid}
use Rattle.vab_overlay.specs.Overlaid.{IsOverlaying}
use Rattle.vab_device.specs.declared.device.Device.{Device}
use Rattle.vab_device.specs.declared.device.Part.{Part}
use Rattle.vab_device.specs.declared.device.PartImage.TheVariants.{Written}

-- the partition with these exceptions, in chunks of one block
abbrev pub with_list : Part → List Exception → Part
with_list p es = record p { image = Written One es }

-- the device with this partition overlaid, with these exceptions
abbrev pub with_over : Device → Part → List Exception → Device
with_over d p es = record d { overlay = Some (with_list p es) }

-- these bytes are staged, and they are a block of the overlaid partition's
pub record IsStaged (d : Device) (staged : Option (List ℕ)) (block : ℕ) (bytes : List ℕ) : Type 0
  where
    pub part : Part
    pub is : d.overlay ≡ Some part
    pub given : staged ≡ Some bytes
    pub long : length bytes ≡ 4096
    pub inside : block < length part.map

-- The bytes are written into this store of such exceptions, whose list is then this one; or it is
-- full, or memory was refused, or the disk has failed, and the list is the same.
pub record PutsOver {D A : Type 0}
    (g : Ghosts D)
    (store : List ℕ)
    (es now : List Exception)
    (block : ℕ)
    (from : List ℕ)
    (old new : D)
    (result : Result A OverlayFault) : Type 0 where
  pub full : TellsFull (need_of (length es + 1)) (length store) result
  pub entered : OnOk result (IsEntered es block now)
  pub failed : OnErr result (now ≡ es)
  pub fits : OnOk result
      ((bound : ℕ) → block < bound → Fits One bound store es → Fits One bound store now)
  pub written : g.is_modelled → OnOk result
      ((bound : ℕ)
      → block < bound
      → IsOverlaid store bound es (g.seen old)
      → IsWritten store bound es now block from (g.seen old) (g.seen new))
  pub rest : g.is_modelled → OnOk result (IsAtRest g new)
  pub time : g.is_modelled
      → IsAtRest g old
      → (bound : ℕ)
      → block < bound
      → IsOverlaid store bound es (g.seen old)
      → Adds g.moment g.outcomes old new
      (LeavesOverlaid store bound es block from (g.told old) (g.seen old))
  pub touches : Touches g (IsOverlaying store es block from (g.seen old)) old new
  pub unwritten : CallsNone old new result
  pub counts : CountsFaults g old new result
