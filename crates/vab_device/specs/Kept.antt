-- What is kept of a device between two commands, and what holds of it over every disk.
use Rattle.std.specs.Prelude.{◌≡◌, ◌≢◌, ◌⊎◌, ℕ, ◌+◌, ◌-◌, ◌*◌, ◌≤◌, ◌<◌, ◌==◌, ◌&&◌, ◌^◌}
use Rattle.std.specs.Prelude.{Bool, true, false, nat_le, if◌then◌else◌, List, map, length}
use Rattle.std.specs.Prelude.{Option, Some, None, is_some, All, AllPairs, Contains, IsTrue, not, []}
use Rattle.std.specs.Prelude.{◌∷◌}
use Rattle.std.specs.Str.{bytes_eq}
use Rattle.vab_names.specs.Names.{is_base, base_of, store_group_name}
use Rattle.vab_names.specs.Names.{most_partitions}
use Rattle.vab_bootctl.specs.Control.{Fits as FitsControl}
use Rattle.vab_marks.specs.declared.mark.MarkPhase.{MarkPhase}
use Rattle.vab_marks.specs.declared.mark.MarkPhase.TheVariants as marks
use Rattle.vab_marks.specs.Mark.{FlagsFit}
use Rattle.vab_exceptions.specs.declared.area.Exception.{Exception}
use Rattle.vab_space.specs.declared.Chunk.TheVariants.{One}
use Rattle.vab_store.specs.View.{Fits}
use Rattle.vab_tables.specs.declared.entries.BlockDevice.{BlockDevice}
use Rattle.vab_tables.specs.declared.table.Table.{Table}
use Rattle.vab_tables.specs.Rules.{KeepsRules}
use Rattle.vab_tables.specs.Spelling.{table_size_of}
use Rattle.vab_geometry.specs.declared.geometry.Geometry.{Geometry}
use Rattle.vab_geometry.specs.Geometry.{IsGeometry}
use Rattle.vab_layout.specs.declared.layout.Part.{Part as PartOfLayout}
use Rattle.vab_layout.specs.declared.layout.Layout.{Layout}
use Rattle.vab_layout.specs.Layout.{layout_of}
use Rattle.vab_layout.specs.Slots.{other_slot, own_parts, twins_by, IsOwn, IsTargetBeside}
use Rattle.vab_layout.specs.Slots.{groups_of_slot}
pub use Rattle.vab_model.specs.Groups.{limits_of, group_of}
use Rattle.vab_device.specs.declared.device.Part.{Part}
use Rattle.vab_device.specs.declared.device.PartImage.{PartImage}
use Rattle.vab_device.specs.declared.device.PartImage.TheVariants.{Kept, Declared, Written}
use Rattle.vab_device.specs.declared.device.PhaseKind.{PhaseKind}
use Rattle.vab_device.specs.declared.device.PhaseKind.TheVariants as kinds
use Rattle.vab_device.specs.declared.device.Device.{Device}

-- ---- where a partition stands

-- the first disk sector of a block, where block 0 begins at this sector of `super`
abbrev pub block_sector : ℕ → ℕ → ℕ
block_sector first b = 4096 + first + 8 * b

-- blocks, each as its first sector on the disk
unfoldable pub sectors_of : ℕ → List ℕ → List ℕ
sectors_of first blocks = map (block_sector first) blocks

-- a partition without a store
abbrev pub part_on : ℕ → PartOfLayout → Part
part_on first p = record {
  name = base_of p.name;
  group = p.group;
  map = sectors_of first p.blocks;
  store = None;
  image = Kept;
}

-- a slot's own partitions
abbrev pub parts_of : ℕ → Layout → List Part
parts_of slot l = map (part_on l.device.first_logical_sector) (own_parts slot l.parts)

-- ---- the places of the tables

-- the bytes of `super`, from sector 4096 to the one where it ends
abbrev pub super_bytes : ℕ → ℕ
super_bytes super_end = 512 * (super_end - 4096)

-- where the copies of the tables end, in bytes of `super`
abbrev pub copies_end : Geometry → ℕ
copies_end g = 12288 + 2 * g.slots * g.max

-- the block device lies in `super`, and its first logical sector behind the copies
abbrev pub lies_in : (super_end : ℕ) → Geometry → BlockDevice → Bool
lies_in super_end g d =
    nat_le d.size (super_bytes super_end)
    && nat_le (copies_end g) (512 * d.first_logical_sector)

-- ---- what holds of a kept device over every disk

-- the blocks of a store lie in front of this sector, none twice, and none is one of its
-- partition's own
pub record IsStore (size : ℕ) (base store : List ℕ) : Type 0 where
  pub on_disk : All (λ s. s + 8 ≤ size) store
  pub once : AllPairs (λ a b. a ≢ b) store
  pub apart : (s : ℕ) → Contains base s → Contains store s → ⊥

-- A partition that is written has a store, and its exceptions keep the rules of a list; or it is
-- written in place, without any.
abbrev pub IsStored : ℕ → List ℕ → Option (List ℕ) → PartImage → Type 0
IsStored size base None Kept = Unit {0}
IsStored size base None Declared = Unit {0}
IsStored size base None (Written k es) = es ≡ []
IsStored size base (Some store) Kept = IsStore size base store
IsStored size base (Some store) Declared = IsStore size base store
IsStored size base (Some store) (Written k es) =
    IsStore size base store × Fits k (length base) store es

-- Its name, at most 2^28 blocks in front of this sector, none twice, and its store.
pub record IsPart (size : ℕ) (p : Part) : Type 0 where
  pub name : IsTrue (is_base p.name)
  pub on_disk : All (λ s. s + 8 ≤ size) p.map
  pub once : AllPairs (λ a b. a ≢ b) p.map
  pub small : length p.map ≤ 2 ^ 28
  pub store : IsStored size p.map p.store p.image

-- the partitions of a slot, not too many
pub record AreParts (size : ℕ) (parts : List Part) : Type 0 where
  pub each : All (IsPart size) parts
  pub few : length parts ≤ most_partitions

abbrev pub ArePresent : ℕ → Option (List Part) → Type 0
ArePresent size None = Unit {0}
ArePresent size (Some parts) = AreParts size parts

-- the table of a slot: its rules, those of the slot's own partitions, its block device in `super`,
-- and the size of its text
pub record IsTableOf (size : ℕ) (g : Geometry) (slot : ℕ) (t : Table) : Type 0 where
  pub rules : KeepsRules t
  pub small : table_size_of t < 2 ^ 24
  pub own : IsOwn slot (layout_of t).parts
  pub lies : IsTrue (lies_in size g (layout_of t).device)

abbrev pub IsKeptTable : ℕ → Geometry → ℕ → Option Table → Type 0
IsKeptTable size g slot None = Unit {0}
IsKeptTable size g slot (Some t) = IsTableOf size g slot t

-- the table of a slot
abbrev pub table_of_slot : Device → ℕ → Option Table
table_of_slot d slot = if slot == 0 then d.table_a else d.table_b

-- it isn't in the stores' group
abbrev pub is_no_store : PartOfLayout → Bool
is_no_store p = not (bytes_eq p.group store_group_name)

-- Where the target of an installation stands apart, none of its table's partitions is in the
-- stores' group.
abbrev pub HasNoStores : (apart : Bool) → List PartOfLayout → Type 0
HasNoStores true parts = All (λ p. IsTrue (is_no_store p)) parts
HasNoStores false parts = Unit {0}

-- The target of an update from this source, whose tables are these, with the same groups. Where it
-- stands apart, no partition of the source is a twin of its own.
pub record AreOfUpdate (apart : Bool) (source : ℕ) (s t : Table) : Type 0 where
  pub target : IsTargetBeside (other_slot source)
      (twins_by apart (layout_of s).parts)
      (layout_of s).parts
      (layout_of t).parts
  pub device : s.devices ≡ t.devices
  pub groups : groups_of_slot source s.groups ≡ groups_of_slot (other_slot source) t.groups
  pub no_stores : HasNoStores apart (layout_of t).parts

abbrev pub IsUpdate : (apart : Bool) → ℕ → Option Table → Option Table → Type 0
IsUpdate apart source None t = Unit {0}
IsUpdate apart source (Some s) None = Unit {0}
IsUpdate apart source (Some s) (Some t) = AreOfUpdate apart source s t

-- ---- phases

abbrev pub is_installing : MarkPhase → Bool
is_installing marks.Installing = true
is_installing _ = false

-- both slots have images
abbrev pub has_both : MarkPhase → Bool
has_both marks.Staged = true
has_both _ = false

-- the tables of both slots are read
abbrev pub reads_both : MarkPhase → Bool
reads_both marks.Installing = true
reads_both marks.Staged = true
reads_both _ = false

-- a slot has images: that of the mark, or each of both
abbrev pub has_slot : MarkPhase → (own slot : ℕ) → Bool
has_slot phase own slot = if has_both phase then true else own == slot

-- The phases that a device may be in: where all stores are merged it has no update any more.
abbrev pub IsPhase : MarkPhase → Type 0
IsPhase phase =
    (phase ≡ marks.Idle) ⊎ (phase ≡ marks.Installing) ⊎ (phase ≡ marks.Staged)
    ⊎ (phase ≡ marks.Merging)

abbrev pub kind_of : MarkPhase → ℕ → PhaseKind
kind_of marks.Installing slot = kinds.Installing slot
kind_of marks.Staged slot = kinds.Staged slot
kind_of marks.Merging slot = kinds.Merging slot
kind_of _ slot = kinds.Idle

-- where an update stands
abbrev pub phase_kind : Device → PhaseKind
phase_kind d = kind_of d.mark.phase d.mark.slot

-- the partitions of a slot, where it has images
abbrev pub parts_at : Device → ℕ → Option (List Part)
parts_at d slot = if slot == 0 then d.a else d.b

-- ---- an overlay

-- the first partition of this base name
abbrev pub part_named : List ℕ → List Part → Option Part
part_named base [] = None
part_named base (p ∷ ps) = if bytes_eq p.name base then Some p else part_named base ps

-- The overlaid partition of a slot with these: the first of them with its name, with exceptions in
-- chunks of one block, and a store that has no block of any.
pub record IsOverlaidOn (size : ℕ) (parts : List Part) (p : Part) : Type 0 where
  pub part : IsPart size p
  pub store : List ℕ
  pub exceptions : List Exception
  pub stored : p.store ≡ Some store
  pub written : p.image ≡ Written One exceptions
  pub base : part_named p.name parts ≡ Some (record p { store = None; image = Kept })
  pub apart : All (λ q. (s : ℕ) → Contains q.map s → Contains store s → ⊥) parts

abbrev pub IsOverlay : ℕ → Option (List Part) → Option Part → Type 0
IsOverlay size parts None = Unit {0}
IsOverlay size None (Some p) = ⊥
IsOverlay size (Some parts) (Some p) = IsOverlaidOn size parts p

-- On a disk of so many sectors, where `super` ends at one of them or behind the last. The slot of
-- the mark has images and a table, and it is current, or the other is where that has images as
-- well. While an update is installed, the other has a table, and its partitions are planned; where
-- the update is ready, it has images. Where the mark says so, one of the slot's partitions is
-- overlaid.
pub record IsDevice (d : Device) (size : ℕ) : Type 0 where
  pub enough : 4120 ≤ d.tail.super_end
  pub ends : d.tail.super_end ≤ size
  pub geometry : IsGeometry d.geometry
  pub control : FitsControl d.control
  pub phase : IsPhase d.mark.phase
  pub slot : d.mark.slot < 2
  pub flags : FlagsFit d.mark
  pub current : has_slot d.mark.phase d.mark.slot d.control.current ≡ true
  pub has_a : is_some d.a ≡ has_slot d.mark.phase d.mark.slot 0
  pub has_b : is_some d.b ≡ has_slot d.mark.phase d.mark.slot 1
  pub copies_on : copies_end d.geometry ≤ super_bytes d.tail.super_end
  pub parts_a : ArePresent d.tail.super_end d.a
  pub parts_b : ArePresent d.tail.super_end d.b
  pub table_a : IsKeptTable d.tail.super_end d.geometry 0 d.table_a
  pub table_b : IsKeptTable d.tail.super_end d.geometry 1 d.table_b
  pub source : is_some (table_of_slot d d.mark.slot) ≡ true
  pub target : is_some (table_of_slot d (other_slot d.mark.slot)) ≡ reads_both d.mark.phase
  pub planned : is_some d.plan ≡ is_installing d.mark.phase
  pub plan : ArePresent d.tail.super_end d.plan
  pub update : IsUpdate d.mark.apart
      d.mark.slot
      (table_of_slot d d.mark.slot)
      (table_of_slot d (other_slot d.mark.slot))
  pub overlaid : is_some d.overlay ≡ d.mark.overlaid
  pub overlay : IsOverlay d.tail.super_end (parts_at d d.mark.slot) d.overlay
