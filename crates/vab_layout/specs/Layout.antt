-- A table as lists of blocks, and the table of such lists.
use Rattle.std.specs.Prelude.{ℕ, ◌+◌, ◌*◌, ◌<◌, ◌^◌, List, [], ◌∷◌, length, map, drop, sum_by}
use Rattle.std.specs.Prelude.{position, unwrap_or, All}
use Rattle.std.specs.List.{flat_map}
use Rattle.std.specs.Str.{bytes_eq}
use Rattle.vab_tables.specs.declared.entries.Partition.{Partition}
use Rattle.vab_tables.specs.declared.entries.Extent.{Extent}
use Rattle.vab_tables.specs.declared.entries.Group.{Group}
use Rattle.vab_tables.specs.declared.entries.BlockDevice.{BlockDevice}
use Rattle.vab_tables.specs.declared.table.Table.{Table}
use Rattle.vab_blocks.specs.Blocks.{first_sector_of, extents_of, blocks_of_extent}
use Rattle.vab_layout.specs.declared.layout.Part.{Part}
use Rattle.vab_layout.specs.declared.layout.Layout.{Layout}
use Rattle.vab_blocks.specs.Runs.{runs_of}

-- ---- what a table says

-- the blocks of a partition, in the order of its extents
unfoldable pub blocks_of_partition : Table → Partition → List ℕ
blocks_of_partition t p = flat_map (blocks_of_extent (first_sector_of t)) (extents_of t p)

-- the name of the first group of a list
abbrev pub name_of_first : List Group → List ℕ
name_of_first [] = []
name_of_first (g ∷ gs) = g.name

-- the name of the group at an index
abbrev pub group_at : List Group → ℕ → List ℕ
group_at groups index = name_of_first (drop index groups)

abbrev pub part_of : Table → Partition → Part
part_of t p =
    record {
      name = p.name;
      attributes = p.attributes;
      group = group_at t.groups p.group;
      blocks =
          blocks_of_partition t p;
    }

abbrev pub first_device : List BlockDevice → BlockDevice
first_device [] =
    record {
      first_logical_sector = 0;
      alignment = 0;
      alignment_offset = 0;
      size =
          0;
      partition_name = [];
      flags = 0;
    }
first_device (d ∷ ds) = d

-- the table as lists of blocks
unfoldable pub layout_of : Table → Layout
layout_of t =
    record {
      parts = map (part_of t) t.partitions;
      groups = t.groups;
      device =
          first_device t.devices;
      flags = t.flags;
    }

-- ---- the table of it

-- a run of blocks as an extent
abbrev pub extent_of_run : ℕ → ℕ × ℕ → Extent
extent_of_run first run =
    record {
      sectors = 8 * run.1;
      target_type = 0;
      first_sector = first + 8 * run.0;
      target_source =
          0;
    }

-- the extents of a partition: the maximal runs of its blocks
abbrev pub extents_of_part : ℕ → Part → List Extent
extents_of_part first p = map (extent_of_run first) (runs_of p.blocks)

-- the index of the group of this name
abbrev pub index_of : List Group → List ℕ → ℕ
index_of groups name = unwrap_or (position (λ g. bytes_eq g.name name) groups) 0

-- the partitions, where the first extent has this index
abbrev pub partitions_from : ℕ → List Group → List Part → List Partition
partitions_from index groups [] = []
partitions_from index groups (p ∷ ps) =
    record {
      name = p.name;
      attributes = p.attributes;
      first_extent = index;
      extent_count =
          length (runs_of p.blocks);
      group = index_of groups p.group;
    }
    ∷ partitions_from (index + length (runs_of p.blocks)) groups ps

-- the table of minor version 2 whose partitions have these blocks, their extents in the order of
-- the partitions
unfoldable pub table_of : Layout → Table
table_of l = record {
  partitions = partitions_from 0 l.groups l.parts;
  extents = flat_map (extents_of_part l.device.first_logical_sector) l.parts;
  groups = l.groups;
  devices = l.device ∷ [];
  minor = 2;
  flags = l.flags;
}

-- ---- lists of partitions

-- the blocks of partitions, one after another
abbrev pub blocks_of_parts : List Part → List ℕ
blocks_of_parts parts = flat_map (λ p. p.blocks) parts

-- the runs of partitions together
abbrev pub runs_in : List Part → ℕ
runs_in parts = sum_by (λ p. length (runs_of p.blocks)) parts

-- the ends of all runs of these blocks are numbers of sectors
abbrev pub RunsFit : ℕ → List ℕ → Type 0
RunsFit first blocks = All (λ run. first + 8 * (run.0 + run.1) < 2 ^ 64) (runs_of blocks)
