-- The extents of a partition, and the sector at which the blocks of a device begin.
use Rattle.std.specs.Prelude.{ℕ, List, [], ◌∷◌, take, drop}
use Rattle.vab_tables.specs.declared.entries.Partition.{Partition}
use Rattle.vab_tables.specs.declared.entries.Extent.{Extent}
use Rattle.vab_tables.specs.declared.entries.BlockDevice.{BlockDevice}
use Rattle.vab_tables.specs.declared.table.Table.{Table}

-- the first sector of block 0: the first logical sector of the device
abbrev pub first_sector_of_devices : List BlockDevice → ℕ
first_sector_of_devices [] = 0
first_sector_of_devices (d ∷ ds) = d.first_logical_sector

abbrev pub first_sector_of : Table → ℕ
first_sector_of t = first_sector_of_devices t.devices

-- the extents of a partition
abbrev pub extents_of : Table → Partition → List Extent
extents_of t p = take p.extent_count (drop p.first_extent t.extents)
