-- What is promised of some turns of a merge that are made at once.
use Rattle.std.specs.Prelude.{◌≡◌, ℕ, ◌-◌, ◌≤◌, List, None, Result, Ok, IfOk, OnOk}
use Rattle.vab_disk.specs.declared.disk.Disk.{Ghosts}
use Rattle.vab_disk.specs.Disk.{Outcome, Adds}
use Rattle.vab_disk.specs.Calls.{FailsWithDisk, InSectors, IsAtRest, IsQuiet, OnlyReads, Touches}
use Rattle.vab_gate.specs.declared.gate.DiskFault.{DiskFault}
use Rattle.vab_device.specs.declared.device.Device.{Device}
use Rattle.vab_device.specs.Kept.{IsDevice}
use Rattle.vab_device.specs.Mounted.{Mounted, mounted_on}
use Rattle.vab_device.specs.Reading.{device, Represents}
use Rattle.vab_device.specs.Updates.{merged_to}
use Rattle.vab_merging.specs.Turns.{next_of, turned, left_in}
use Rattle.vab_merging.specs.RunWrites.{IsOfTurns}

-- With nothing more told, the disk is the device after at most so many turns.
pub record LeavesTurns
    (told : List ℕ)
    (size : ℕ)
    (m : Mounted)
    (slot most left : ℕ)
    (o : Outcome) : Type 0 where
  pub told_so_far : o.told ≡ told
  pub made : ℕ
  pub at_most : made ≤ most
  pub within : made ≤ left
  pub means : device size o.image ≡ Ok (merged_to m slot (left - made))

-- Some turns are made, none only where no store has an exception; then nothing is written. The
-- device after them is the one that is kept.
pub record MakesTurns {D : Type 0}
    (g : Ghosts D)
    (d : Device)
    (most : ℕ)
    (old new : D)
    (result : Result (Device × ℕ) DiskFault) : Type 0 where
  pub is : IfOk result (λ r. r.0 ≡ turned r.1 d)
  pub at_most : IfOk result (λ r. r.1 ≤ most)
  pub none : IfOk result (λ r. r.1 ≡ 0 → next_of d ≡ None)
  pub still : next_of d ≡ None → IfOk result (λ r. r.1 ≡ 0)
  pub reads : next_of d ≡ None → OnlyReads g old new
  pub kept : IfOk result (λ r. IsDevice r.0 (g.size old))
  pub represents : g.is_modelled → IfOk result (λ r. Represents r.0 (g.size old) (g.seen new))
  pub means : g.is_modelled → IfOk result
      (λ r. (r.1 ≤ left_in d)
      × (left_in r.0 ≡ left_in d - r.1)
      × (mounted_on r.0 (g.seen new)
      ≡ merged_to (mounted_on d (g.seen old)) d.mark.slot (left_in d - r.1)))
  pub rest : g.is_modelled → IsAtRest g old → OnOk result (IsAtRest g new)
  pub quiet : IsQuiet g old new
  pub touches : g.is_modelled → Touches g (InSectors (IsOfTurns most d)) old new
  pub time : g.is_modelled
      → IsAtRest g old
      → Adds g.moment g.outcomes old new
      (LeavesTurns (g.told old) (g.size old) (mounted_on d (g.seen old)) d.mark.slot most
      (left_in d))
  pub faults : FailsWithDisk g old new result
