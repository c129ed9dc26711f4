-- An image of an empty `super`: the block of a geometry, and behind it the text of a table.
use Rattle.std.specs.Prelude.{◌≡◌, ℕ, ◌<◌, ◌^◌, ◌==◌, bit_or, nat_le, List, [], ◌∷◌, length, map}
use Rattle.std.specs.Prelude.{take, drop, if◌then◌else◌, Option, Some, None, Result, Ok, Err}
use Rattle.vab_names.specs.Names.{most_partitions}
use Rattle.vab_geometry.specs.declared.geometry.Geometry.{Geometry}
use Rattle.vab_geometry.specs.declared.geometry.GeometryFault.{GeometryFault}
use Rattle.vab_geometry.specs.Geometry.{IsGeometry}
use Rattle.vab_geometry.specs.Reading.{geometry_of}
use Rattle.vab_tables.specs.declared.entries.Partition.{Partition}
use Rattle.vab_tables.specs.declared.fault.TableFault.{TableFault}
use Rattle.vab_tables.specs.declared.table.Table.{Table}
use Rattle.vab_tables.specs.Reading.{table_of}
use Rattle.vab_tables.specs.Rules.{KeepsRules}
use Rattle.vab_tables.specs.Spelling.{table_size_of}
use Rattle.vab_tables.specs.Text.{IsTableText}
use Rattle.vab_layout.specs.declared.layout.Part.{Part}
use Rattle.vab_layout.specs.declared.layout.Layout.{Layout}
use Rattle.vab_layout.specs.Layout.{layout_of}
use Rattle.vab_layout.specs.Slots.{own_parts, IsOwn}
use Rattle.vab_partitions.specs.Rules.{bad_part}
use Rattle.vab_super_image.specs.declared.image.SuperImage.{SuperImage}

-- ---- what the bytes say

-- the geometry in the first of its 4096 bytes
abbrev pub geometry_in : List ℕ → Result Geometry GeometryFault
geometry_in bytes = geometry_of (take 512 bytes)

-- the table in the bytes behind the geometry's block, as long as a copy may be; what stands behind
-- the table isn't read
abbrev pub table_in : Geometry → List ℕ → Result Table TableFault
table_in g bytes = table_of g.max (drop 4096 bytes)

-- what is read of a text: its table, which is one of that text, or that it has none
abbrev pub IsRead : (max : ℕ) → List ℕ → Option Table → Type 0
IsRead max text None = (f : TableFault) × (table_of max text ≡ Err f)
IsRead max text (Some t) = (table_of max text ≡ Ok t) × IsTableText max text t

-- the slot's own partitions keep their rules
abbrev pub if_own : (slot : ℕ) → SuperImage → Option (List ℕ) → Option SuperImage
if_own slot i None = Some i
if_own slot i (Some bad) = None

abbrev pub with_table : (slot : ℕ) → Geometry → Result Table TableFault → Option SuperImage
with_table slot g (Err fault) = None
with_table slot g (Ok t) =
    if_own slot (record { geometry = g; table = t })
    (bad_part most_partitions slot [] (own_parts slot (layout_of t).parts))

abbrev pub with_geometry : (slot : ℕ)
    → List ℕ
    → Result Geometry GeometryFault
    → Option SuperImage
with_geometry slot bytes (Err fault) = None
with_geometry slot bytes (Ok g) = with_table slot g (table_in g bytes)

-- The image of a `super` that these bytes are, where the slot's own partitions keep their rules.
unfoldable pub super_image_of : (slot : ℕ) → List ℕ → Option SuperImage
super_image_of slot bytes =
    if nat_le 4096 (length bytes) then with_geometry slot bytes (geometry_in bytes) else None

-- its rules, and the size of its table's text
pub record IsSuperImage (slot : ℕ) (i : SuperImage) : Type 0 where
  pub geometry : IsGeometry i.geometry
  pub rules : KeepsRules i.table
  pub own : IsOwn slot (layout_of i.table).parts
  pub small : table_size_of i.table < 2 ^ 24

-- ---- what is taken of it

-- the first partition with extents
abbrev pub first_filled : List Partition → Option (List ℕ)
first_filled [] = None
first_filled (p ∷ ps) = if p.extent_count == 0 then first_filled ps else Some p.name

-- the partition without extents
abbrev pub emptied : Partition → Partition
emptied p = record p { first_extent = 0; extent_count = 0 }

-- The table without extents, of minor version 2, and with the flag of Virtual A/B.
unfoldable pub wiped : Table → Table
wiped t = record {
  partitions = map emptied t.partitions;
  extents = [];
  groups = t.groups;
  devices = t.devices;
  minor = 2;
  flags = bit_or t.flags 1;
}

-- ---- as blocks

-- the partition without blocks
abbrev pub emptied_part : Part → Part
emptied_part p = record p { blocks = [] }

-- the table as lists of blocks: no partition has any
abbrev pub wiped_layout : Layout → Layout
wiped_layout l = record {
  parts = map emptied_part l.parts;
  groups = l.groups;
  device = l.device;
  flags = bit_or l.flags 1;
}
