-- Which faults come where a disk isn't adopted.
use Rattle.std.specs.Prelude.{◌≡◌, ℕ}
use Rattle.vab_device.specs.declared.fault.StartFault.{StartFault}
use Rattle.vab_device.specs.declared.fault.StartFault.TheVariants.{TooSmall, BadMark, BadControl}
use Rattle.vab_device.specs.declared.fault.StartFault.TheVariants.{BadPhysical, BadGeometry}
use Rattle.vab_device.specs.declared.fault.StartFault.TheVariants.{BadTable}
use Rattle.vab_device.specs.declared.fault.StartFault.TheVariants.{BadPartition, BadStore, BadState}
use Rattle.vab_device.specs.declared.fault.StartFault.TheVariants.{NoMemory, Disk}
use Rattle.vab_adopt.specs.declared.fault.AdoptFault.{AdoptFault}
use Rattle.vab_adopt.specs.declared.fault.AdoptFault.TheVariants.{AlreadyDevice, NoDevice}

-- the size, the geometry, the table of this slot or a partition; never the mark, the boot control,
-- the sizes of physical partitions, a store or a rule on slots
abbrev pub IsOfSuper : (slot : ℕ) → StartFault → Type 0
IsOfSuper slot (TooSmall need have) = Unit {0}
IsOfSuper slot (BadMark sector) = ⊥
IsOfSuper slot (BadControl fault) = ⊥
IsOfSuper slot BadPhysical = ⊥
IsOfSuper slot BadGeometry = Unit {0}
IsOfSuper slot (BadTable of) = of ≡ slot
IsOfSuper slot (BadPartition name) = Unit {0}
IsOfSuper slot (BadStore name) = ⊥
IsOfSuper slot (BadState rule) = ⊥
IsOfSuper slot NoMemory = Unit {0}
IsOfSuper slot (Disk fault) = Unit {0}

abbrev pub IsNamed : (slot : ℕ) → AdoptFault → Type 0
IsNamed slot AlreadyDevice = Unit {0}
IsNamed slot (NoDevice fault) = IsOfSuper slot fault
