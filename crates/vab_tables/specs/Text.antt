-- What it means that a text is that of a table: header fields at their places, sums, and entries
-- where the descriptors say.
use Rattle.std.specs.Prelude.{◌≡◌, ℕ, ◌+◌, ◌*◌, ◌≤◌, ◌==◌, if◌then◌else◌, List, ◌++◌, length, take}
use Rattle.std.specs.Prelude.{drop, replicate}
use Rattle.std.specs.List.{flat_map}
use Rattle.std.specs.Int.{w16, w32}
use Rattle.sha2.specs.Sha256.{sha256}
use Rattle.vab_bytes.specs.Number.{le_at, field}
use Rattle.vab_tables.specs.declared.table.Table.{Table}
use Rattle.vab_tables.specs.Entries.{partition_bytes, extent_bytes, group_bytes, device_bytes}
use Rattle.vab_tables.specs.Rules.{KeepsRules}

-- the SHA-256 sum of these bytes
unfoldable pub sum_of : List ℕ → List ℕ
sum_of bytes = sha256 bytes

-- ---- the fields of the header

unfoldable pub magic_at : List ℕ → ℕ
magic_at text = le_at w32 text 0

unfoldable pub major_at : List ℕ → ℕ
major_at text = le_at w16 text 4

unfoldable pub minor_at : List ℕ → ℕ
minor_at text = le_at w16 text 6

unfoldable pub header_size_at : List ℕ → ℕ
header_size_at text = le_at w32 text 8

unfoldable pub header_sum_at : List ℕ → List ℕ
header_sum_at text = field text 12 32

unfoldable pub tables_size_at : List ℕ → ℕ
tables_size_at text = le_at w32 text 44

unfoldable pub tables_sum_at : List ℕ → List ℕ
tables_sum_at text = field text 48 32

-- a descriptor: where its entries begin in the tables, how many there are, the bytes of each
unfoldable pub offset_at : List ℕ → ℕ → ℕ
offset_at text descriptor = le_at w32 text descriptor

unfoldable pub count_at : List ℕ → ℕ → ℕ
count_at text descriptor = le_at w32 text (descriptor + 4)

unfoldable pub entry_size_at : List ℕ → ℕ → ℕ
entry_size_at text descriptor = le_at w32 text (descriptor + 8)

-- minors 0 and 1 have no flags
unfoldable pub flags_at : List ℕ → ℕ
flags_at text = if minor_at text == 2 then le_at w32 text 128 else 0

-- ---- the parts of the text

-- bytes of the header of a minor version
abbrev pub header_size_of : ℕ → ℕ
header_size_of minor = if minor == 2 then 256 else 128

-- zeros in the place of a sum
unfoldable pub no_sum : List ℕ
no_sum = replicate 32 0

-- the header with zeros in the place of its sum, which is bytes 12 to 43
unfoldable pub blank_header : List ℕ → List ℕ
blank_header text = take 12 text ++ no_sum ++ drop 44 (take (header_size_at text) text)

-- what follows the header
unfoldable pub tables_at : List ℕ → List ℕ
tables_at text = field text (header_size_at text) (tables_size_at text)

-- bytes of header and tables together
unfoldable pub text_size_of : List ℕ → ℕ
text_size_of text = header_size_at text + tables_size_at text

-- the bytes of a descriptor's entries
unfoldable pub area_at : List ℕ → ℕ → ℕ → List ℕ
area_at text descriptor size =
    field (tables_at text) (offset_at text descriptor) (count_at text descriptor * size)

-- a descriptor names these entries, and they stand where it says, spelled so
pub record Lists {E : Type 0} (text : List ℕ) (descriptor size : ℕ) (spell : E
    → List ℕ) (entries : List E) : Type 0 where
  pub entry_size : entry_size_at text descriptor ≡ size
  pub count : count_at text descriptor ≡ length entries
  pub within : offset_at text descriptor + length entries * size ≤ tables_size_at text
  pub spelled : area_at text descriptor size ≡ flat_map spell entries

-- the text is that of the table, in at most max bytes
pub record IsTableText (max : ℕ) (text : List ℕ) (t : Table) : Type 0 where
  pub long : 128 ≤ length text
  pub magic : magic_at text ≡ 0x414C5030
  pub major : major_at text ≡ 10
  pub minor : minor_at text ≡ t.minor
  pub header_size : header_size_at text ≡ header_size_of t.minor
  pub header : header_size_at text ≤ length text
  pub header_sum : header_sum_at text ≡ sum_of (blank_header text)
  pub within_max : header_size_at text + tables_size_at text ≤ max
  pub within_text : header_size_at text + tables_size_at text ≤ length text
  pub tables_sum : tables_sum_at text ≡ sum_of (tables_at text)
  pub partitions : Lists text 80 52 partition_bytes t.partitions
  pub extents : Lists text 92 24 extent_bytes t.extents
  pub groups : Lists text 104 48 group_bytes t.groups
  pub devices : Lists text 116 64 device_bytes t.devices
  pub flags : flags_at text ≡ t.flags
  pub rules : KeepsRules t

-- each descriptor's entries lie within the tables
pub record EntriesWithin (text : List ℕ) : Type 0 where
  pub partitions : offset_at text 80 + count_at text 80 * 52 ≤ tables_size_at text
  pub extents : offset_at text 92 + count_at text 92 * 24 ≤ tables_size_at text
  pub groups : offset_at text 104 + count_at text 104 * 48 ≤ tables_size_at text
  pub devices : offset_at text 116 + count_at text 116 * 64 ≤ tables_size_at text

-- header and tables lie within the text, and the entries within the tables
pub record IsFramed (text : List ℕ) : Type 0 where
  pub long : 128 ≤ length text
  pub flags : minor_at text ≡ 2 → 256 ≤ length text
  pub tables : header_size_at text + tables_size_at text ≤ length text
  pub entries : EntriesWithin text
