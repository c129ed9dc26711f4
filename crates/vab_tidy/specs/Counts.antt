-- The counts of faults where a device is opened.
use Rattle.std.specs.Prelude.{◌≡◌, Result, OnOk, IfErr}
use Rattle.vab_disk.specs.declared.disk.Disk.{Ghosts}
use Rattle.vab_disk.specs.Disk.{DiskFailed}
use Rattle.vab_device.specs.declared.fault.StartFault.{StartFault}
use Rattle.vab_device.specs.Faults.{IsOfDisk}

-- The disk is to blame only where one call of it failed; in all other cases the counts stay.
pub record CountsFaults {D A : Type 0}
    (g : Ghosts D)
    (old new : D)
    (result : Result A StartFault) : Type 0 where
  pub steady : OnOk result (g.faults new ≡ g.faults old)
  pub others : IfErr result (λ f. (IsOfDisk f → ⊥) → g.faults new ≡ g.faults old)
  pub cause : IfErr result (λ f. IsOfDisk f → DiskFailed (g.faults old) (g.faults new))
