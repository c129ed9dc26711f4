-- What a reading of a store answers.
use Rattle.std.specs.Prelude.{◌≡◌, List, Result, Ok, Err}
use Rattle.vab_disk.specs.Disk.{DiskFailed}
use Rattle.vab_disk.specs.declared.disk.Disk.{Ghosts}
use Rattle.vab_exceptions.specs.declared.area.Exception.{Exception}
use Rattle.vab_store.specs.declared.fault.StoreFault.{StoreFault}
use Rattle.vab_store.specs.declared.fault.StoreFault.TheVariants as faults

-- The answer is what the store means. Want of memory and a fault of the disk tell nothing of it.
abbrev pub Answers : Result (List Exception) StoreFault → Result (List Exception) StoreFault
    → Type 0
Answers (Ok es) means = means ≡ Ok es
Answers (Err faults.NoMemory) means = Unit {0}
Answers (Err faults.DiskFault) means = Unit {0}
Answers (Err (faults.Header fault)) means = means ≡ Err (faults.Header fault)
Answers (Err (faults.BadChunk j)) means = means ≡ Err (faults.BadChunk j)
Answers (Err (faults.Repeated j k)) means = means ≡ Err (faults.Repeated j k)
Answers (Err faults.Unended) means = means ≡ Err faults.Unended

-- A disk fault comes where one call of the disk failed. Any other answer leaves all counts.
abbrev pub ReadsStore : {D X : Type 0}
    → Ghosts D
    → D
    → D
    → Result X StoreFault
    → Type 0
ReadsStore g old new (Ok es) = g.faults new ≡ g.faults old
ReadsStore g old new (Err faults.DiskFault) = DiskFailed (g.faults old) (g.faults new)
ReadsStore g old new (Err faults.NoMemory) = g.faults new ≡ g.faults old
ReadsStore g old new (Err (faults.Header fault)) = g.faults new ≡ g.faults old
ReadsStore g old new (Err (faults.BadChunk j)) = g.faults new ≡ g.faults old
ReadsStore g old new (Err (faults.Repeated j k)) = g.faults new ≡ g.faults old
ReadsStore g old new (Err faults.Unended) = g.faults new ≡ g.faults old
