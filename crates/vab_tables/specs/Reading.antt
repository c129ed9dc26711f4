-- What a text means: its table, or the first fault in the order of `TableFault`.
use Rattle.std.specs.Prelude.{◌≡◌, ℕ, zero, suc, ◌+◌, ◌*◌, Bool, true, false, ◌&&◌, not, ◌==◌}
use Rattle.std.specs.Prelude.{nat_lt, nat_le, if◌then◌else◌, List, [], ◌∷◌, ◌++◌, length, Option}
use Rattle.std.specs.Prelude.{Some, None, Result, Ok, Err}
use Rattle.std.specs.Str.{bytes_eq}
use Rattle.vab_bytes.specs.Number.{field}
use Rattle.vab_tables.specs.declared.entries.Partition.{Partition}
use Rattle.vab_tables.specs.declared.entries.Extent.{Extent}
use Rattle.vab_tables.specs.declared.entries.Group.{Group}
use Rattle.vab_tables.specs.declared.entries.BlockDevice.{BlockDevice}
use Rattle.vab_tables.specs.declared.table.Table.{Table}
use Rattle.vab_tables.specs.declared.fault.EntryKind.{EntryKind}
use Rattle.vab_tables.specs.declared.fault.EntryKind.TheVariants as kinds
use Rattle.vab_tables.specs.declared.fault.TableFault.{TableFault}
use Rattle.vab_tables.specs.declared.fault.TableFault.TheVariants as faults
use Rattle.vab_tables.specs.Entries.{partition_of, extent_of, group_of, device_of}
use Rattle.vab_tables.specs.Rules.{device_passes, group_passes, extent_passes, partition_passes}
use Rattle.vab_tables.specs.Rules.{is_named}
use Rattle.vab_tables.specs.Text.{sum_of, magic_at, major_at, minor_at, header_size_at}
use Rattle.vab_tables.specs.Text.{header_sum_at, tables_size_at, tables_sum_at, offset_at, count_at}
use Rattle.vab_tables.specs.Text.{entry_size_at, flags_at, header_size_of, blank_header, tables_at}
use Rattle.vab_tables.specs.Text.{area_at}

infixl 10 ◌>>=◌
abbrev pub ◌>>=◌ : {A B : Type 0} → Result A TableFault → (A → Result B TableFault)
    → Result B TableFault
(Ok x) >>= f = f x
(Err e) >>= f = Err e

-- What a function returned, seen by view, is what reading gives, unless memory was refused.
abbrev pub Fails : {Y : Type 0} → TableFault → Result Y TableFault → Type 0
Fails faults.NoMemory read = Unit {0}
Fails e read = read ≡ Err e

abbrev pub Gives : {X Y : Type 0} → (X → Y) → Result X TableFault → Result Y TableFault → Type 0
Gives view (Ok x) read = read ≡ Ok (view x)
Gives view (Err e) read = Fails e read

-- ---- the tests of the whole text, in their order

unfoldable pub has_header : List ℕ → Bool
has_header text = nat_le 128 (length text) && magic_at text == 0x414C5030

unfoldable pub has_version : List ℕ → Bool
has_version text = major_at text == 10 && nat_le (minor_at text) 2
    && header_size_at text == header_size_of (minor_at text)
    && nat_le (header_size_at text) (length text)

unfoldable pub has_header_sum : List ℕ → Bool
has_header_sum text = bytes_eq (header_sum_at text) (sum_of (blank_header text))

unfoldable pub has_size : ℕ → List ℕ → Bool
has_size max text = nat_le (header_size_at text + tables_size_at text) max
    && nat_le (header_size_at text + tables_size_at text) (length text)

unfoldable pub has_tables_sum : List ℕ → Bool
has_tables_sum text = bytes_eq (tables_sum_at text) (sum_of (tables_at text))

-- the entries of a descriptor have this size, and lie within the tables
unfoldable pub is_bounded : List ℕ → ℕ → ℕ → Bool
is_bounded text descriptor size = entry_size_at text descriptor == size
    && nat_le (offset_at text descriptor + count_at text descriptor * size) (tables_size_at text)

unfoldable pub has_bounds : List ℕ → Bool
has_bounds text = is_bounded text 80 52 && is_bounded text 92 24 && is_bounded text 104 48
    && is_bounded text 116 64

-- this fault, where a test fails
abbrev pub unless : Bool → TableFault → Result (Unit {0}) TableFault
unless true fault = Ok tt
unless false fault = Err fault

unfoldable pub frame_of : ℕ → List ℕ → Result (Unit {0}) TableFault
frame_of max text = do
  _ ← unless (has_header text) faults.NoHeader
  _ ← unless (has_version text) faults.BadVersion
  _ ← unless (has_header_sum text) faults.BadHeaderSum
  _ ← unless (has_size max text) faults.BadSize
  _ ← unless (has_tables_sum text) faults.BadTablesSum
  unless (has_bounds text) faults.BadBounds

-- ---- the entries

-- an entry that is there and passes its test, or else the fault
abbrev pub entry_or : {E : Type 0} → TableFault → (E → Bool) → Option E → Result E TableFault
entry_or fault passes None = Err fault
entry_or fault passes (Some e) = if passes e then Ok e else Err fault

-- one device, and that is one
unfoldable pub device_in : ℕ → List ℕ → Result BlockDevice TableFault
device_in count area = do
  _ ← unless (nat_lt 0 count) (faults.BadEntry kinds.Device 0)
  d ← entry_or (faults.BadEntry kinds.Device 0) device_passes (device_of (field area 0 64))
  _ ← unless (nat_lt count 2) (faults.BadEntry kinds.Device 1)
  Ok d

-- The entries behind those read so far, so many more. Each is judged beside those before it, and
-- the first that fails is the fault.
unfoldable pub entries_in : {E : Type 0} → EntryKind → ℕ → (List ℕ → Option E) → (List E → E → Bool)
    → List ℕ → ℕ → List E → Result (List E) TableFault
entries_in kind size read passes area zero earlier = Ok earlier
entries_in kind size read passes area (suc n) earlier = do
  e ← entry_or (faults.BadEntry kind (length earlier)) (passes earlier)
      (read (field area (length earlier * size) size))
  entries_in kind size read passes area n (earlier ++ e ∷ [])

-- ---- the entries of each kind: each passes its own test, and where it has a name, none before it
-- has that name

abbrev pub group_joins : List Group → Group → Bool
group_joins earlier g = group_passes g && not (is_named (λ e. e.name) earlier g.name)

abbrev pub extent_joins : BlockDevice → List Extent → Extent → Bool
extent_joins d earlier e = extent_passes d e

abbrev pub partition_joins : ℕ → ℕ → ℕ → List Partition → Partition → Bool
partition_joins minor extents groups earlier p = partition_passes minor extents groups p
    && not (is_named (λ e. e.name) earlier p.name)

unfoldable pub groups_in : ℕ → List ℕ → Result (List Group) TableFault
groups_in count area = entries_in kinds.Group 48 group_of group_joins area count []

unfoldable pub extents_in : BlockDevice → ℕ → List ℕ → Result (List Extent) TableFault
extents_in d count area = entries_in kinds.Extent 24 extent_of (extent_joins d) area count []

unfoldable pub partitions_in : ℕ → ℕ → ℕ → ℕ → List ℕ → Result (List Partition) TableFault
partitions_in minor extents groups count area =
    entries_in kinds.Partition 52 partition_of (partition_joins minor extents groups) area count []

-- ---- the whole

unfoldable pub table_of : ℕ → List ℕ → Result Table TableFault
table_of max text = do
  _ ← frame_of max text
  device ← device_in (count_at text 116) (area_at text 116 64)
  groups ← groups_in (count_at text 104) (area_at text 104 48)
  extents ← extents_in device (count_at text 92) (area_at text 92 24)
  partitions ← partitions_in (minor_at text) (length extents) (length groups) (count_at text 80)
      (area_at text 80 52)
  Ok (record {
    partitions = partitions;
    extents = extents;
    groups = groups;
    devices =
        device ∷ [];
    minor = minor_at text;
    flags = flags_at text;
  })
