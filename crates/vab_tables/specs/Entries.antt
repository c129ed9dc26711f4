-- How each entry of a table is spelled, and what the bytes of an entry spell.
use Rattle.std.specs.Prelude.{ℕ, ◌<◌, ◌^◌, List, ◌++◌, Option, Some}
use Rattle.std.specs.Option.{option_map}
use Rattle.std.specs.Int.{w32, w64, to_le_bytes}
use Rattle.vab_bytes.specs.Number.{le_at, field}
use Rattle.vab_bytes.specs.Name.{IsName, name_field, name_of_field}
use Rattle.vab_tables.specs.declared.entries.Partition.{Partition}
use Rattle.vab_tables.specs.declared.entries.Extent.{Extent}
use Rattle.vab_tables.specs.declared.entries.Group.{Group}
use Rattle.vab_tables.specs.declared.entries.BlockDevice.{BlockDevice}

-- 52 bytes: the name's field, attributes, the first extent, how many, the group
unfoldable pub partition_bytes : Partition → List ℕ
partition_bytes p =
    name_field p.name ++ to_le_bytes w32 p.attributes ++ to_le_bytes w32 p.first_extent
    ++ to_le_bytes w32 p.extent_count ++ to_le_bytes w32 p.group

-- 24 bytes: how many sectors, the kind, the first sector, the device
unfoldable pub extent_bytes : Extent → List ℕ
extent_bytes e =
    to_le_bytes w64 e.sectors ++ to_le_bytes w32 e.target_type ++ to_le_bytes w64 e.first_sector
    ++ to_le_bytes w32 e.target_source

-- 48 bytes: the name's field, flags, the limit
unfoldable pub group_bytes : Group → List ℕ
group_bytes g = name_field g.name ++ to_le_bytes w32 g.flags ++ to_le_bytes w64 g.maximum_size

-- 64 bytes: the first sector, alignment, its offset, the size, the name's field, flags
unfoldable pub device_bytes : BlockDevice → List ℕ
device_bytes d =
    to_le_bytes w64 d.first_logical_sector ++ to_le_bytes w32 d.alignment
    ++ to_le_bytes w32 d.alignment_offset ++ to_le_bytes w64 d.size ++ name_field d.partition_name
    ++ to_le_bytes w32 d.flags

-- which entries have a spelling
pub record FitsPartition (p : Partition) : Type 0 where
  pub name : IsName p.name
  pub attributes : p.attributes < 2 ^ 32
  pub first_extent : p.first_extent < 2 ^ 32
  pub extent_count : p.extent_count < 2 ^ 32
  pub group : p.group < 2 ^ 32

pub record FitsExtent (e : Extent) : Type 0 where
  pub sectors : e.sectors < 2 ^ 64
  pub target_type : e.target_type < 2 ^ 32
  pub first_sector : e.first_sector < 2 ^ 64
  pub target_source : e.target_source < 2 ^ 32

pub record FitsGroup (g : Group) : Type 0 where
  pub name : IsName g.name
  pub flags : g.flags < 2 ^ 32
  pub maximum_size : g.maximum_size < 2 ^ 64

pub record FitsDevice (d : BlockDevice) : Type 0 where
  pub first_logical_sector : d.first_logical_sector < 2 ^ 64
  pub alignment : d.alignment < 2 ^ 32
  pub alignment_offset : d.alignment_offset < 2 ^ 32
  pub size : d.size < 2 ^ 64
  pub partition_name : IsName d.partition_name
  pub flags : d.flags < 2 ^ 32

-- the partition that 52 bytes spell, where their name's field spells a name
unfoldable pub partition_of : List ℕ → Option Partition
partition_of bytes =
    option_map
    (λ name. record {
      name = name;
      attributes = le_at w32 bytes 36;
      first_extent =
          le_at w32 bytes 40;
      extent_count = le_at w32 bytes 44;
      group = le_at w32 bytes 48;
    })
    (name_of_field (field bytes 0 36))

-- the extent that 24 bytes spell
unfoldable pub extent_of : List ℕ → Option Extent
extent_of bytes =
    Some (record {
      sectors = le_at w64 bytes 0;
      target_type = le_at w32 bytes 8;
      first_sector =
          le_at w64 bytes 12;
      target_source = le_at w32 bytes 20;
    })

-- the group that 48 bytes spell, where their name's field spells a name
unfoldable pub group_of : List ℕ → Option Group
group_of bytes =
    option_map
    (λ name. record { name = name; flags = le_at w32 bytes 36; maximum_size = le_at w64 bytes 40 })
    (name_of_field (field bytes 0 36))

-- the block device that 64 bytes spell, where their name's field spells a name
unfoldable pub device_of : List ℕ → Option BlockDevice
device_of bytes =
    option_map
    (λ name. record {
      first_logical_sector = le_at w64 bytes 0;
      alignment =
          le_at w32 bytes 8;
      alignment_offset = le_at w32 bytes 12;
      size =
          le_at w64 bytes 16;
      partition_name = name;
      flags = le_at w32 bytes 60;
    })
    (name_of_field (field bytes 24 36))
