-- The one text that is written for a table: minor version 2, a header of 256 bytes, and the entries
-- without gaps.
use Rattle.std.specs.Prelude.{ℕ, ◌+◌, ◌*◌, List, ◌++◌, length, replicate}
use Rattle.std.specs.List.{flat_map}
use Rattle.std.specs.Int.{w16, w32, to_le_bytes}
use Rattle.vab_tables.specs.declared.table.Table.{Table}
use Rattle.vab_tables.specs.Entries.{partition_bytes, extent_bytes, group_bytes, device_bytes}
use Rattle.vab_tables.specs.Text.{sum_of, no_sum}

-- bytes of the text
abbrev pub table_size_of : Table → ℕ
table_size_of t =
    256 + 52 * length t.partitions + 24 * length t.extents + 48 * length t.groups + 64 * length
    t.devices

-- the table as one of minor version 2
abbrev pub as_minor_2 : Table → Table
as_minor_2 t = record t { minor = 2 }

-- the entries, one kind after another
unfoldable pub tables_text : Table → List ℕ
tables_text t =
    flat_map partition_bytes t.partitions ++ flat_map extent_bytes t.extents
    ++ flat_map group_bytes t.groups ++ flat_map device_bytes t.devices

-- a descriptor
unfoldable pub descriptor_text : ℕ → ℕ → ℕ → List ℕ
descriptor_text offset count size =
    to_le_bytes w32 offset ++ to_le_bytes w32 count ++ to_le_bytes w32 size

-- the magic, the version 10.2, the header's size
unfoldable pub header_front : List ℕ
header_front =
    to_le_bytes w32 0x414C5030 ++ to_le_bytes w16 10 ++ to_le_bytes w16 2 ++ to_le_bytes w32 256

-- the four descriptors
unfoldable pub descriptors_text : Table → List ℕ
descriptors_text t =
    let partitions = 52 * length t.partitions in
    let extents = 24 * length t.extents in
    let groups = 48 * length t.groups in
    descriptor_text 0 (length t.partitions) 52 ++ descriptor_text partitions (length t.extents) 24
    ++ descriptor_text (partitions + extents) (length t.groups) 48
    ++ descriptor_text (partitions + extents + groups) (length t.devices) 64

-- what follows the header's sum: the tables' size and sum, the descriptors, flags, and reserved
-- zeros
unfoldable pub header_back : Table → List ℕ
header_back t =
    to_le_bytes w32 (length (tables_text t)) ++ sum_of (tables_text t) ++ descriptors_text t
    ++ to_le_bytes w32 t.flags ++ replicate 124 0

-- the sum of the header with zeros in its place
unfoldable pub header_sum_of : Table → List ℕ
header_sum_of t = sum_of (header_front ++ no_sum ++ header_back t)

unfoldable pub table_text : Table → List ℕ
table_text t = header_front ++ header_sum_of t ++ header_back t ++ tables_text t
