-- The counts of faults where an image is written.
use Rattle.std.specs.Prelude.{◌≡◌, Result, Ok, Err}
use Rattle.vab_disk.specs.Disk.{DiskFailed}
use Rattle.vab_disk.specs.declared.disk.Disk.{Ghosts}
use Rattle.vab_disk.specs.Calls.{OnlyReads}
use Rattle.vab_install.specs.declared.fault.PartFault.{PartFault}
use Rattle.vab_install.specs.declared.fault.PartFault.TheVariants.{NoMemory, Disk}

-- A fault of the disk comes where one call of the disk failed. Any other answer leaves all counts
-- as they were.
abbrev pub CountsFaults : {D X : Type 0}
    → Ghosts D
    → D
    → D
    → Result X PartFault
    → Type 0
CountsFaults g old new (Ok x) = g.faults new ≡ g.faults old
CountsFaults g old new (Err NoMemory) = g.faults new ≡ g.faults old
CountsFaults g old new (Err (Disk fault)) = DiskFailed (g.faults old) (g.faults new)

-- where memory was refused nothing was written
abbrev pub ReadsWithout : {D X : Type 0}
    → Ghosts D
    → D
    → D
    → Result X PartFault
    → Type 0
ReadsWithout g old new (Ok x) = Unit {0}
ReadsWithout g old new (Err NoMemory) = OnlyReads g old new
ReadsWithout g old new (Err (Disk fault)) = Unit {0}
