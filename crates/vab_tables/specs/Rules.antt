-- The rules that a table's entries keep, on values.
use Rattle.std.specs.Prelude.{◌≡◌, ◌≢◌, ℕ, ◌+◌, ◌-◌, ◌*◌, ◌/◌, ◌%◌, ◌<◌, ◌≤◌, ◌^◌, Bool, ◌&&◌, ◌||◌}
use Rattle.std.specs.Prelude.{not, ◌==◌, nat_lt, nat_le, if◌then◌else◌, List, [], ◌∷◌, length}
use Rattle.std.specs.Prelude.{slice_index, codes, bit_and, All, AllPairs, IsTrue}
use Rattle.std.specs.List.{list_any}
use Rattle.std.specs.Str.{bytes_eq}
use Rattle.vab_tables.specs.declared.entries.Partition.{Partition}
use Rattle.vab_tables.specs.declared.entries.Extent.{Extent}
use Rattle.vab_tables.specs.declared.entries.Group.{Group}
use Rattle.vab_tables.specs.declared.entries.BlockDevice.{BlockDevice}
use Rattle.vab_tables.specs.declared.table.Table.{Table}
use Rattle.vab_tables.specs.Entries.{FitsPartition, FitsExtent, FitsGroup, FitsDevice}

-- ---- the block device

-- whole blocks of 8 sectors from the first logical sector to the end of the device
abbrev pub cap_of : BlockDevice → ℕ
cap_of d = (d.size / 512 - d.first_logical_sector) / 8

-- the sector behind its last whole block
abbrev pub end_of : BlockDevice → ℕ
end_of d = d.first_logical_sector + 8 * cap_of d

pub record IsDevice (d : BlockDevice) : Type 0 where
  pub fits : FitsDevice d
  pub flags : d.flags ≡ 0
  pub aligned : d.first_logical_sector % 8 ≡ 0
  pub within : d.first_logical_sector ≤ d.size / 512

unfoldable pub device_passes : BlockDevice → Bool
device_passes d = d.flags == 0 && d.first_logical_sector % 8 == 0
    && nat_le d.first_logical_sector (d.size / 512)

-- ---- groups

-- the groups of no slot
unfoldable pub is_shared : List ℕ → Bool
is_shared name = bytes_eq name (codes "default") || bytes_eq name (codes "cow")

-- `_a` or `_b` at the end, after at least one byte
unfoldable pub has_slot : List ℕ → Bool
has_slot name = nat_le 3 (length name) && slice_index name (length name - 2) == 95
    && (slice_index name (length name - 1) == 97 || slice_index name (length name - 1) == 98)

pub record IsGroup (g : Group) : Type 0 where
  pub fits : FitsGroup g
  pub named : IsTrue (is_shared g.name || has_slot g.name)
  pub flags : g.flags ≡ 0
  pub unlimited : IsTrue (is_shared g.name) → g.maximum_size ≡ 0

unfoldable pub group_passes : Group → Bool
group_passes g = (is_shared g.name || has_slot g.name) && g.flags == 0
    && (not (is_shared g.name) || g.maximum_size == 0)

-- ---- extents

-- linear, of whole blocks of the device
pub record IsExtent (d : BlockDevice) (e : Extent) : Type 0 where
  pub fits : FitsExtent e
  pub target_type : e.target_type ≡ 0
  pub target_source : e.target_source ≡ 0
  pub some : 0 < e.sectors
  pub whole : e.sectors % 8 ≡ 0
  pub aligned : e.first_sector % 8 ≡ 0
  pub above : d.first_logical_sector ≤ e.first_sector
  pub below : e.first_sector + e.sectors ≤ end_of d

unfoldable pub extent_passes : BlockDevice → Extent → Bool
extent_passes d e = e.target_type == 0 && e.target_source == 0 && nat_lt 0 e.sectors
    && e.sectors % 8 == 0 && e.first_sector % 8 == 0 && nat_le d.first_logical_sector e.first_sector
    && nat_le (e.first_sector + e.sectors) (end_of d)

-- ---- partitions

-- the attributes that a minor version has, but for the suffix that stands for a slot: read-only;
-- and from 1 on also updated and disabled
abbrev pub attributes_of : ℕ → ℕ
attributes_of minor = if minor == 0 then 1 else 13

-- A partition of a table of this minor, with so many extents and groups. One without extents, too,
-- names a first extent that is at most the number of extents.
pub record IsPartition (minor extents groups : ℕ) (p : Partition) : Type 0 where
  pub fits : FitsPartition p
  pub attributes : bit_and p.attributes (attributes_of minor) ≡ p.attributes
  pub extents_exist : p.first_extent + p.extent_count ≤ extents
  pub group_exists : p.group < groups

unfoldable pub partition_passes : ℕ → ℕ → ℕ → Partition → Bool
partition_passes minor extents groups p =
    bit_and p.attributes (attributes_of minor) == p.attributes
    && nat_le (p.first_extent + p.extent_count) extents && nat_lt p.group groups

-- ---- the whole table

-- a name stands among these
unfoldable pub is_named : {E : Type 0} → (E → List ℕ) → List E → List ℕ → Bool
is_named name entries text = list_any (λ e. bytes_eq (name e) text) entries

-- no two entries have one name
abbrev pub NamesDiffer : {E : Type 0} → (E → List ℕ) → List E → Type 0
NamesDiffer name entries = AllPairs (λ a b. name a ≢ name b) entries

pub record KeepsRules (t : Table) : Type 0 where
  pub minor : t.minor ≤ 2
  pub flags : t.flags < 2 ^ 32
  pub device : BlockDevice
  pub one_device : t.devices ≡ device ∷ []
  pub device_rule : IsDevice device
  pub groups : All IsGroup t.groups
  pub group_names : NamesDiffer (λ g. g.name) t.groups
  pub extents : All (IsExtent device) t.extents
  pub partitions : All (IsPartition t.minor (length t.extents) (length t.groups)) t.partitions
  pub partition_names : NamesDiffer (λ p. p.name) t.partitions
