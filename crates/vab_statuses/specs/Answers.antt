-- What a reading of statuses answers.
use Rattle.std.specs.Prelude.{◌≡◌, ℕ, Result, Ok, Err}
use Rattle.vab_disk.specs.Disk.{DiskFailed}
use Rattle.vab_disk.specs.declared.disk.Disk.{Ghosts}
use Rattle.vab_statuses.specs.declared.fault.StatusFault.{StatusFault}
use Rattle.vab_statuses.specs.declared.fault.StatusFault.TheVariants.{Bad, Disk}

-- The fault is what the sectors tell. A fault of the disk tells nothing of them.
abbrev pub TellsBad : {X : Type 0} → Result X ℕ → StatusFault → Type 0
TellsBad means (Bad at) = means ≡ Err at
TellsBad means (Disk fault) = Unit {0}

-- A fault of the disk comes where one call of the disk failed. Any other answer leaves all counts
-- as they were.
abbrev pub CountsFaults : {D X : Type 0}
    → Ghosts D
    → D
    → D
    → Result X StatusFault
    → Type 0
CountsFaults g old new (Ok x) = g.faults new ≡ g.faults old
CountsFaults g old new (Err (Bad at)) = g.faults new ≡ g.faults old
CountsFaults g old new (Err (Disk fault)) = DiskFailed (g.faults old) (g.faults new)
