-- What is wrong with a disk, in words.
use Rattle.std.specs.Prelude.{ℕ, ◌==◌, List, ◌++◌, codes, decimal, if◌then◌else◌}
use Rattle.vab_bootctl.specs.declared.sector.ControlFault.{ControlFault}
use Rattle.vab_bootctl.specs.declared.sector.ControlFault.TheVariants as controls
use Rattle.vab_geometry.specs.declared.geometry.GeometryFault.{GeometryFault}
use Rattle.vab_geometry.specs.declared.geometry.GeometryFault.TheVariants as geometries
use Rattle.vab_tables.specs.declared.fault.EntryKind.{EntryKind}
use Rattle.vab_tables.specs.declared.fault.EntryKind.TheVariants as kinds
use Rattle.vab_tables.specs.declared.fault.TableFault.{TableFault}
use Rattle.vab_tables.specs.declared.fault.TableFault.TheVariants as tables
use Rattle.vab_device.specs.declared.fault.StartFault.{StartFault}
use Rattle.vab_device.specs.declared.fault.StartFault.TheVariants as faults
use Rattle.vab_fbproto.specs.Texts.{slot_letter}

-- what is wrong with the boot control
abbrev pub control_word : ControlFault → List ℕ
control_word controls.BadMagic = codes "bad magic"
control_word controls.BadVersion = codes "bad version"
control_word controls.BadSum = codes "bad sum"
control_word controls.BadSlots = codes "bad slots"

-- what is wrong with a copy of the geometry
abbrev pub geometry_word : GeometryFault → List ℕ
geometry_word geometries.BadMagic = codes "bad magic"
geometry_word geometries.BadSize = codes "bad size"
geometry_word geometries.BadSum = codes "bad sum"
geometry_word geometries.BadField = codes "bad field"

abbrev pub kind_word : EntryKind → List ℕ
kind_word kinds.Device = codes "bad device "
kind_word kinds.Group = codes "bad group "
kind_word kinds.Extent = codes "bad extent "
kind_word kinds.Partition = codes "bad partition "

-- what is wrong with a copy of a table
unfoldable pub table_words : TableFault → List ℕ
table_words tables.NoHeader = codes "no header"
table_words tables.BadVersion = codes "bad version"
table_words tables.BadHeaderSum = codes "bad header sum"
table_words tables.BadSize = codes "bad size"
table_words tables.BadTablesSum = codes "bad tables sum"
table_words tables.BadBounds = codes "bad bounds"
table_words (tables.BadEntry kind index) = kind_word kind ++ decimal index
table_words tables.NoMemory = codes "out of memory"

-- what is wrong with the sector of the mark or of a status
abbrev pub mark_tail : ℕ → List ℕ
mark_tail sector = if sector == 2048 then codes " is no update mark" else codes " is no status"

abbrev pub mark_words : ℕ → List ℕ
mark_words sector = codes "sector " ++ decimal sector ++ mark_tail sector

-- which rule of the slots is broken
abbrev pub state_words : ℕ → List ℕ
state_words rule =
    if rule == 1
    then codes "the current slot has no images"
    else (if rule == 2
    then codes "a slot isn't successful or has priority 0"
    else (if rule == 3
    then codes "a partition that is written has no status"
    else codes "an overlaid slot hasn't exactly one partition with a store"))

-- the first thing wrong with a disk
unfoldable pub fault_words : StartFault → List ℕ
fault_words (faults.TooSmall need have) =
    decimal have ++ codes " sectors of " ++ decimal need
fault_words (faults.BadMark sector) = mark_words sector
fault_words (faults.BadControl fault) =
    codes "sector 4 is no boot control: " ++ control_word fault
fault_words faults.BadPhysical =
    codes "sector 2113 holds no sizes of physical partitions, or they pass the disk"
fault_words faults.BadGeometry = codes "no copy of the geometry passes, or super is too small"
fault_words (faults.BadTable slot) = codes "slot " ++ slot_letter slot ++ codes " has no good table"
fault_words (faults.BadPartition name) = codes "partition " ++ name ++ codes " breaks a rule"
fault_words (faults.BadStore name) =
    codes "the store of " ++ name ++ codes " isn't what its status or the overlay says"
fault_words (faults.BadState rule) = state_words rule
fault_words faults.NoMemory = codes "out of memory"
fault_words (faults.Disk fault) = codes "the disk failed"
