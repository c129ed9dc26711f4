-- Kinds of faults of opening.
use Rattle.std.specs.Prelude.{◌≡◌, Result, Ok, Err}
use Rattle.vab_device.specs.declared.fault.StartFault.{StartFault}
use Rattle.vab_device.specs.declared.fault.StartFault.TheVariants.{TooSmall, BadMark, BadControl}
use Rattle.vab_device.specs.declared.fault.StartFault.TheVariants.{BadPhysical, BadGeometry}
use Rattle.vab_device.specs.declared.fault.StartFault.TheVariants.{BadTable}
use Rattle.vab_device.specs.declared.fault.StartFault.TheVariants.{BadPartition, BadStore, BadState}
use Rattle.vab_device.specs.declared.fault.StartFault.TheVariants.{NoMemory, Disk}

-- a fault of what the disk holds, and not of the disk or of memory
abbrev pub IsOfContents : StartFault → Type 0
IsOfContents (TooSmall need have) = Unit {0}
IsOfContents (BadMark sector) = Unit {0}
IsOfContents (BadControl fault) = Unit {0}
IsOfContents BadPhysical = Unit {0}
IsOfContents BadGeometry = Unit {0}
IsOfContents (BadTable slot) = Unit {0}
IsOfContents (BadPartition name) = Unit {0}
IsOfContents (BadStore name) = Unit {0}
IsOfContents (BadState rule) = Unit {0}
IsOfContents NoMemory = ⊥
IsOfContents (Disk fault) = ⊥

-- the disk has failed
abbrev pub IsOfDisk : StartFault → Type 0
IsOfDisk (TooSmall need have) = ⊥
IsOfDisk (BadMark sector) = ⊥
IsOfDisk (BadControl fault) = ⊥
IsOfDisk BadPhysical = ⊥
IsOfDisk BadGeometry = ⊥
IsOfDisk (BadTable slot) = ⊥
IsOfDisk (BadPartition name) = ⊥
IsOfDisk (BadStore name) = ⊥
IsOfDisk (BadState rule) = ⊥
IsOfDisk NoMemory = ⊥
IsOfDisk (Disk fault) = Unit {0}

-- What is answered is what the disk means, unless the disk has failed or memory was refused.
abbrev pub Answers : {A : Type 0} → Result A StartFault → Result A StartFault → Type 0
Answers (Ok x) means = means ≡ Ok x
Answers (Err fault) means = IsOfContents fault → means ≡ Err fault
