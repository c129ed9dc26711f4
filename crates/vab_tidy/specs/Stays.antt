-- A disk that means the same while it is written.
use Rattle.std.specs.Prelude.{◌≡◌, ◌⊎◌, ℕ, List, Some, Result, Ok, IfOk, OnOk}
use Rattle.vab_disk.specs.declared.disk.Disk.{Ghosts}
use Rattle.vab_disk.specs.Disk.{Image, Outcome, Adds}
use Rattle.vab_disk.specs.Calls.{FailsWithDisk, IsAtRest, IsQuiet, Touches}
use Rattle.vab_gate.specs.declared.gate.DiskFault.{DiskFault}
use Rattle.vab_tables.specs.declared.table.Table.{Table}
use Rattle.vab_lpstore.specs.Loading.{slot_table}
use Rattle.vab_device.specs.declared.device.Device.{Device}
use Rattle.vab_device.specs.Kept.{IsDevice, table_of_slot}
use Rattle.vab_device.specs.Reading.{device, Represents}
use Rattle.vab_tidy.specs.Tidied.{HasCompleted}

-- with nothing more told, a disk that means the same
pub record LeavesSame (told : List ℕ) (size : ℕ) (old : Image) (o : Outcome) : Type 0 where
  pub told_so_far : o.told ≡ told
  pub same : device size o.image ≡ device size old

-- the slot's table on the disk is the one that is kept
abbrev pub HoldsTable : Device → Image → Type 0
HoldsTable d image = (t : Table)
    → table_of_slot d d.mark.slot ≡ Some t
    → slot_table d.geometry d.mark.slot image ≡ Ok t

-- The mark says still that a merge of this slot has ended, or the table that is kept of it stands
-- on the disk. So where power is cut before the mark is written, it is done at the next opening.
abbrev pub IsInOrder : Device → Image → Type 0
IsInOrder d image = HasCompleted d.mark image ⊎ HoldsTable d image

-- The disk means the same then, and where nothing was pending in each outcome. What is kept is this
-- device, which is that of the disk. It touches such sectors alone. An error comes where the disk
-- has failed.
pub record Stays {D : Type 0}
    (g : Ghosts D)
    (W : ℕ → List ℕ → Type 0)
    (next : Device)
    (old new : D)
    (result : Result Device DiskFault) : Type 0 where
  pub is : IfOk result (λ r. r ≡ next)
  pub kept : IfOk result (λ r. IsDevice r (g.size old))
  pub represents : g.is_modelled → IfOk result (λ r. Represents r (g.size old) (g.seen new))
  pub same : g.is_modelled
      → OnOk result (device (g.size old) (g.seen new) ≡ device (g.size old) (g.seen old))
  pub settled : g.is_modelled → IsAtRest g old → OnOk result (IsAtRest g new)
  pub quiet : IsQuiet g old new
  pub touches : Touches g W old new
  pub time : g.is_modelled
      → IsAtRest g old
      → Adds g.moment g.outcomes old new
      (LeavesSame (g.told old) (g.size old) (g.seen old))
  pub order : g.is_modelled
      → IsAtRest g old
      → HasCompleted next.mark (g.seen old)
      → Adds g.moment g.outcomes old new (λ o. IsInOrder next o.image)
  pub faults : FailsWithDisk g old new result
