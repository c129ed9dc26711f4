-- The page of the tables of both slots.
use Rattle.std.specs.Prelude.{ℕ, ◌*◌, ◌-◌, ◌^◌, min, sum_by, slice_get, Bool, true, false}
use Rattle.std.specs.Prelude.{if◌then◌else◌}
use Rattle.std.specs.Prelude.{List, [], ◌++◌, codes, Option, Some, None}
use Rattle.std.specs.List.{flat_map}
use Rattle.vab_geometry.specs.declared.geometry.Geometry.{Geometry}
use Rattle.vab_tables.specs.declared.entries.BlockDevice.{BlockDevice}
use Rattle.vab_tables.specs.declared.entries.Extent.{Extent}
use Rattle.vab_tables.specs.declared.entries.Group.{Group}
use Rattle.vab_tables.specs.declared.entries.Partition.{Partition}
use Rattle.vab_tables.specs.declared.table.Table.{Table}
use Rattle.vab_tables.specs.Extents.{extents_of}
use Rattle.vab_fbproto.specs.Texts.{slot_letter}
use Rattle.vab_survey.specs.declared.copies.SlotTable.{SlotTable}
use Rattle.vab_survey.specs.declared.copies.SlotTable.TheVariants.{Read, Bad}
use Rattle.vab_survey.specs.declared.tables.TablesPage.{TablesPage}
use Rattle.vab_look.specs.declared.form.Form.{Form}
use Rattle.vab_look.specs.Faults.{table_words}
use Rattle.vab_look.specs.Form.{begun, word_in, keyed_in, number_in, counted_in, ended}

-- ---- copies

abbrev pub copy_name : Bool → List ℕ
copy_name primary = if primary then codes "primary" else codes "backup"

-- the begin of a line on a slot
abbrev pub of_slot : Form → List ℕ → ℕ → List ℕ
of_slot form kind slot = begun form kind ++ word_in form (codes "slot") (slot_letter slot)

-- a copy of a slot's table, and what is said of it
abbrev pub copy_line : Form → ℕ → Bool → List ℕ → List ℕ
copy_line form slot primary words =
    of_slot form (codes "table") slot
    ++ word_in form (codes "copy") (copy_name primary)
    ++ word_in form (codes "says") words
    ++ ended form

-- whether a copy holds the text of the table
abbrev pub holds_words : Bool → List ℕ
holds_words holds = if holds then codes "ok" else codes "holds other bytes"

abbrev pub copy_lines : Form → ℕ → SlotTable → List ℕ
copy_lines form slot (Read l) =
    copy_line form slot true (holds_words l.primary)
    ++ copy_line form slot false (holds_words l.backup)
copy_lines form slot (Bad first second) =
    copy_line form slot true (table_words first)
    ++ copy_line form slot false (table_words second)

-- ---- entries

-- the bytes of these extents, 2^64 - 1 where there are more
abbrev pub bytes_of : List Extent → ℕ
bytes_of es = min (512 * sum_by (λ (e : Extent). e.sectors) es) (2 ^ 64 - 1)

abbrev pub name_in : Option Group → List ℕ
name_in None = []
name_in (Some g) = g.name

-- a partition, its attributes, its size in bytes and its group
abbrev pub partition_line : Form → ℕ → Table → Partition → List ℕ
partition_line form slot t p =
    of_slot form (codes "partition") slot
    ++ word_in form (codes "name") p.name
    ++ counted_in form (codes "attributes") p.attributes
    ++ counted_in form (codes "bytes") (bytes_of (extents_of t p))
    ++ keyed_in form (codes "group") (name_in (slice_get t.groups p.group))
    ++ ended form

-- the first sector of an extent, counted from the beginning of `super`, and how many it has
abbrev pub extent_line : Form → ℕ → Extent → List ℕ
extent_line form slot e =
    of_slot form (codes "extent") slot
    ++ number_in form (codes "first") e.first_sector
    ++ number_in form (codes "sectors") e.sectors
    ++ ended form

abbrev pub partition_lines : Form → ℕ → Table → Partition → List ℕ
partition_lines form slot t p =
    partition_line form slot t p ++ flat_map (extent_line form slot) (extents_of t p)

-- a group and its limit in bytes, 0 for none
abbrev pub group_line : Form → ℕ → Group → List ℕ
group_line form slot g =
    of_slot form (codes "group") slot
    ++ word_in form (codes "name") g.name
    ++ counted_in form (codes "limit") g.maximum_size
    ++ ended form

-- the block device, its first logical sector and its bytes
abbrev pub device_line : Form → ℕ → BlockDevice → List ℕ
device_line form slot d =
    of_slot form (codes "device") slot
    ++ word_in form (codes "name") d.partition_name
    ++ counted_in form (codes "first") d.first_logical_sector
    ++ counted_in form (codes "bytes") d.size
    ++ ended form

abbrev pub entry_lines : Form → ℕ → Table → List ℕ
entry_lines form slot t =
    flat_map (partition_lines form slot t) t.partitions
    ++ flat_map (group_line form slot) t.groups
    ++ flat_map (device_line form slot) t.devices

-- ---- a slot

abbrev pub read_line : Form → ℕ → Bool → List ℕ
read_line form slot primary =
    of_slot form (codes "table") slot
    ++ keyed_in form (codes "reads") (copy_name primary)
    ++ ended form

abbrev pub slot_lines : Form → ℕ → SlotTable → List ℕ
slot_lines form slot (Read l) =
    copy_lines form slot (Read l)
    ++ read_line form slot l.primary
    ++ entry_lines form slot l.table
slot_lines form slot (Bad first second) = copy_lines form slot (Bad first second)

-- most bytes of a copy, and how many slots have one
abbrev pub geometry_line : Form → Geometry → List ℕ
geometry_line form g =
    begun form (codes "geometry")
    ++ counted_in form (codes "max") g.max
    ++ counted_in form (codes "slots") g.slots
    ++ ended form

abbrev pub tables_text : Form → TablesPage → List ℕ
tables_text form p =
    geometry_line form p.geometry ++ slot_lines form 0 p.a ++ slot_lines form 1 p.b
