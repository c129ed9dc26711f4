-- What is promised of the end of a merge.
use Rattle.std.specs.Prelude.{◌≡◌, [], ◌∷◌, Result, IfOk, OnOk}
use Rattle.vab_disk.specs.declared.disk.Disk.{Ghosts}
use Rattle.vab_disk.specs.Disk.{Adds}
use Rattle.vab_disk.specs.Calls.{FailsWithDisk, IsAtRest, IsQuiet, Touches}
use Rattle.vab_gate.specs.declared.gate.DiskFault.{DiskFault}
use Rattle.vab_device.specs.declared.device.Device.{Device}
use Rattle.vab_device.specs.Does.{LeavesStep}
use Rattle.vab_device.specs.Kept.{IsDevice}
use Rattle.vab_device.specs.Mounted.{mounted_on}
use Rattle.vab_device.specs.Reading.{Represents}
use Rattle.vab_device.specs.Updates.{merge_ended}
use Rattle.vab_merging.specs.Kept.{ended_device}
use Rattle.vab_merging.specs.GateWrites.{IsOfMergeEnd}

-- There is no update any more, and each outcome since is the device before it or after it.
pub record EndsMerge {D : Type 0}
    (g : Ghosts D)
    (d : Device)
    (old new : D)
    (result : Result Device DiskFault) : Type 0 where
  pub is : IfOk result (λ r. r ≡ ended_device d)
  pub kept : IfOk result (λ r. IsDevice r (g.size old))
  pub represents : g.is_modelled → IfOk result (λ r. Represents r (g.size old) (g.seen new))
  pub means : g.is_modelled → IfOk result
      (λ r. mounted_on r (g.seen new) ≡ merge_ended (mounted_on d (g.seen old)))
  pub rest : g.is_modelled → OnOk result (IsAtRest g new)
  pub quiet : IsQuiet g old new
  pub touches : Touches g (IsOfMergeEnd d) old new
  pub time : g.is_modelled
      → IsAtRest g old
      → Adds g.moment g.outcomes old new
      (LeavesStep (g.told old) (g.size old)
      (mounted_on d (g.seen old) ∷ merge_ended (mounted_on d (g.seen old)) ∷ []))
  pub faults : FailsWithDisk g old new result
