-- A fault of reading a copy, as one of loading.
use Rattle.vab_copies.specs.declared.read.ReadFault.{ReadFault}
use Rattle.vab_copies.specs.declared.read.ReadFault.TheVariants as reading
use Rattle.vab_lpstore.specs.declared.loaded.LoadFault.{LoadFault}
use Rattle.vab_lpstore.specs.declared.loaded.LoadFault.TheVariants.{NoMemory, Disk}

abbrev pub fault_of : ReadFault → LoadFault
fault_of reading.Disk = Disk (record {})
fault_of reading.Memory = NoMemory
