-- What is promised of turns that are made one run after another.
use Rattle.std.specs.Prelude.{◌≡◌, ℕ, ◌-◌, ◌<◌, ◌≤◌, None, Result, IfOk, OnOk}
use Rattle.vab_disk.specs.declared.disk.Disk.{Ghosts}
use Rattle.vab_disk.specs.Disk.{Adds}
use Rattle.vab_disk.specs.Calls.{FailsWithDisk, InSectors, IsAtRest, IsQuiet, OnlyReads, Touches}
use Rattle.vab_gate.specs.declared.gate.DiskFault.{DiskFault}
use Rattle.vab_device.specs.declared.device.Device.{Device}
use Rattle.vab_device.specs.Kept.{IsDevice}
use Rattle.vab_device.specs.Mounted.{mounted_on}
use Rattle.vab_device.specs.Reading.{Represents}
use Rattle.vab_device.specs.Updates.{merged_to}
use Rattle.vab_merging.specs.Run.{LeavesTurns}
use Rattle.vab_merging.specs.Turns.{next_of, turned, left_in}
use Rattle.vab_merging.specs.RunWrites.{IsOfTurns}

-- So many turns are made, but for as many as the answer counts; it counts some only where no store
-- has an exception. Where none are asked for, nothing is written. The device after them is the one
-- that is kept.
pub record MakesSome {D : Type 0}
    (g : Ghosts D)
    (d : Device)
    (blocks : ℕ)
    (old new : D)
    (result : Result (Device × ℕ) DiskFault) : Type 0 where
  pub at_most : IfOk result (λ r. r.1 ≤ blocks)
  pub is : IfOk result (λ r. r.0 ≡ turned (blocks - r.1) d)
  pub none : IfOk result (λ r. 0 < r.1 → next_of r.0 ≡ None)
  pub reads : blocks ≡ 0 → OnlyReads g old new
  pub kept : IfOk result (λ r. IsDevice r.0 (g.size old))
  pub represents : g.is_modelled → IfOk result (λ r. Represents r.0 (g.size old) (g.seen new))
  pub means : g.is_modelled → IfOk result
      (λ r. (blocks - r.1 ≤ left_in d)
      × (left_in r.0 ≡ left_in d - (blocks - r.1))
      × (mounted_on r.0 (g.seen new)
      ≡ merged_to (mounted_on d (g.seen old)) d.mark.slot (left_in d - (blocks - r.1))))
  pub rest : g.is_modelled → IsAtRest g old → OnOk result (IsAtRest g new)
  pub quiet : IsQuiet g old new
  pub touches : g.is_modelled → Touches g (InSectors (IsOfTurns blocks d)) old new
  pub time : g.is_modelled
      → IsAtRest g old
      → Adds g.moment g.outcomes old new
      (LeavesTurns (g.told old) (g.size old) (mounted_on d (g.seen old)) d.mark.slot blocks
      (left_in d))
  pub faults : FailsWithDisk g old new result
