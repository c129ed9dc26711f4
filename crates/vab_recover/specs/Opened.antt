-- What opening a device reads, and what of it is kept.
use Rattle.std.specs.Prelude.{◌≡◌, ℕ, ◌<◌, ◌≤◌, ◌^◌, ◌==◌, if◌then◌else◌, List, [], ◌∷◌}
use Rattle.std.specs.Prelude.{length}
use Rattle.std.specs.Prelude.{Bool, Option, Some, None, is_some, Ok, IfSome, IsTrue, nat_le, true}
use Rattle.std.specs.Prelude.{false, map, All, Result, ◌||◌}
use Rattle.vab_disk.specs.Disk.{Image}
use Rattle.vab_bootctl.specs.Control.{control_of, Fits}
use Rattle.vab_bootctl.specs.declared.slots.Control.{Control}
use Rattle.vab_bootctl.specs.Boot.{info_at}
use Rattle.vab_marks.specs.declared.mark.MarkPhase.{MarkPhase}
use Rattle.vab_marks.specs.declared.mark.MarkPhase.TheVariants as marks
use Rattle.vab_marks.specs.declared.mark.UpdateMark.{UpdateMark}
use Rattle.vab_marks.specs.Mark.{FlagsFit, is_idle}
use Rattle.vab_marks.specs.declared.version.MarkVersion.{MarkVersion}
use Rattle.vab_marks.specs.declared.status.PartStatus.{PartStatus}
use Rattle.vab_geometry.specs.declared.geometry.Geometry.{Geometry}
use Rattle.vab_geometry.specs.Geometry.{IsGeometry}
use Rattle.vab_tables.specs.declared.table.Table.{Table}
use Rattle.vab_tables.specs.Spelling.{table_size_of}
use Rattle.vab_tables.specs.Text.{IsTableText}
use Rattle.vab_lpstore.specs.declared.loaded.Loaded.{Loaded}
use Rattle.vab_layout.specs.declared.layout.Layout.{Layout}
use Rattle.vab_layout.specs.Layout.{layout_of}
use Rattle.vab_layout.specs.Slots.{other_slot}
use Rattle.vab_physical.specs.declared.tail.Tail.{Tail}
use Rattle.vab_device.specs.declared.device.Device.{Device}
use Rattle.vab_statuses.specs.Statuses.{written_in}
use Rattle.vab_tables.specs.Rules.{cap_of}
use Rattle.vab_device.specs.declared.fault.StartFault.{StartFault}
use Rattle.vab_device.specs.declared.fault.StartFault.TheVariants.{BadState}
use Rattle.vab_device.specs.declared.device.Part.{Part}
use Rattle.vab_device.specs.Checks.{check, first_fault, ◌>>=◌}
use Rattle.vab_device.specs.Kept.{lies_in, has_both, reads_both, IsPhase, copies_end, super_bytes}
use Rattle.vab_device.specs.Kept.{limits_of, parts_of}
use Rattle.vab_device.specs.Phases.{phase_at, own_check, update_checks, plan_of, slot_checks}
use Rattle.vab_device.specs.Phases.{are_ready, is_good, may_run, merging_check}
use Rattle.vab_device.specs.Phases.{overlay_checks, overlay_wanted, overlay_of}
use Rattle.vab_device.specs.Reading.{Read, mark_in, statuses_at, tail_at, geometry_at, tables_in}
use Rattle.vab_device.specs.Reading.{kept}
use Rattle.vab_device.specs.Reading.{control_kept, version_at}
use Rattle.vab_device.specs.Reading.{Reads}
use Rattle.vab_device.specs.Stores.{Wanted, Scanned, wanted_of, or_fewer, scans_in}
use Rattle.vab_recover.specs.Overlay.{AreOverScanned}
use Rattle.vab_recover.specs.Repairs.{IsLoadedAt}
use Rattle.vab_recover.specs.Scans.{IsScanned}
use Rattle.vab_recover.specs.declared.table.Tables.{Tables}
use Rattle.vab_recover.specs.declared.frame.Frame.{Frame}
use Rattle.vab_recover.specs.declared.stores.Stored.{Stored}

-- ---- the phases

-- the stores of an update are merged
abbrev pub is_merging : MarkPhase → Bool
is_merging marks.Merging = true
is_merging _ = false

-- the statuses of partitions are read
abbrev pub reads_statuses : MarkPhase → Bool
reads_statuses marks.Installing = true
reads_statuses marks.Staged = true
reads_statuses marks.Merging = true
reads_statuses _ = false

-- An image may stand in place: where the target of an update stands apart, and while it is merged.
abbrev pub may_place : UpdateMark → Bool
may_place m = is_merging m.phase || m.apart

-- ---- what is read in front of the stores

abbrev pub read_of : UpdateMark
    → List (Option PartStatus)
    → Control
    → Tail
    → Geometry
    → List Table
    → List Scanned
    → Read
read_of m statuses c tail g ts scanned = record {
  mark = m;
  statuses = statuses;
  control = control_kept m c;
  tail = tail;
  geometry = g;
  tables = ts;
  scanned = scanned;
}

-- the mark, its version and the statuses of a disk that is large enough
pub record IsMarked
    (size : ℕ)
    (image : Image)
    (m : UpdateMark)
    (v : MarkVersion)
    (ss : List (Option PartStatus)) : Type 0 where
  pub enough : nat_le 4120 size ≡ true
  pub mark : mark_in image ≡ Ok m
  pub version : version_at image ≡ v
  pub statuses : statuses_at (phase_at m).reads_statuses image ≡ Ok ss

-- where `super` ends, and the geometry
abbrev pub both_of : Tail → Geometry → Result (Tail × Geometry) StartFault
both_of tail g = Ok (tail, g)

abbrev pub ends_at : (physical : Bool)
    → (size : ℕ)
    → Image
    → Result (Tail × Geometry) StartFault
ends_at physical size image =
    tail_at physical size image >>= λ tail. geometry_at tail.super_end image >>= both_of tail

-- those, the whole boot control, where `super` ends, and the geometry
pub record IsHeaded
    (size : ℕ)
    (image : Image)
    (m : UpdateMark)
    (v : MarkVersion)
    (ss : List (Option PartStatus))
    (c : Control)
    (tail : Tail)
    (g : Geometry) : Type 0 where
  pub marked : IsMarked size image m v ss
  pub control : control_of (image 4) ≡ Ok c
  pub ends : tail_at m.physical size image ≡ Ok tail
  pub geometry : geometry_at tail.super_end image ≡ Ok g

-- what holds of the heads over every disk
pub record AreHeads
    (size : ℕ)
    (m : UpdateMark)
    (c : Control)
    (tail : Tail)
    (g : Geometry) : Type 0 where
  pub enough : 4120 ≤ tail.super_end
  pub ends : tail.super_end ≤ size
  pub phase : IsPhase m.phase
  pub slot : m.slot < 2
  pub flags : FlagsFit m
  pub control : Fits c
  pub geometry : IsGeometry g
  pub copies_on : copies_end g ≤ super_bytes tail.super_end

-- ---- tables

abbrev pub target_tables : Option Loaded → List Table
target_tables None = []
target_tables (Some l) = l.table ∷ []

-- the tables that were loaded, the source's first
abbrev pub tables_of : Tables → List Table
tables_of t = t.source.table ∷ target_tables t.target

-- the slots whose tables are read behind the source's
abbrev pub target_slots : UpdateMark → List ℕ
target_slots m = if reads_both m.phase then other_slot m.slot ∷ [] else []

-- so are those of both slots
pub record AreLoaded (g : Geometry) (slot : ℕ) (image : Image) (t : Tables) : Type 0 where
  pub source : IsLoadedAt g slot image t.source
  pub target : IfSome t.target (IsLoadedAt g (other_slot slot) image)

-- what holds of a loaded table over every disk
pub record IsTableThere (super_end : ℕ) (g : Geometry) (l : Loaded) : Type 0 where
  pub text : IsTableText g.max l.text l.table
  pub fits : length l.text ≤ g.max
  pub small : table_size_of l.table < 2 ^ 24
  pub lies : IsTrue (lies_in super_end g (layout_of l.table).device)

pub record AreTablesThere
    (super_end : ℕ)
    (g : Geometry)
    (m : UpdateMark)
    (t : Tables) : Type 0 where
  pub source : IsTableThere super_end g t.source
  pub target : IfSome t.target (IsTableThere super_end g)
  pub both : is_some t.target ≡ reads_both m.phase

-- what is read of a disk in front of its stores
pub record IsFramed (size : ℕ) (image : Image) (f : Frame) : Type 0 where
  pub heads : IsHeaded size image f.heads.mark f.heads.version f.heads.statuses.items
      f.heads.control f.heads.tail f.heads.geometry
  pub tables : tables_in f.heads.tail.super_end f.heads.geometry
      (phase_at f.heads.mark).tables
      image
      ≡ Ok (tables_of f.tables)
  pub loaded : AreLoaded f.heads.geometry f.heads.mark.slot image f.tables

-- ---- rules and plan

-- the first fault of the tables and of their partitions, of which a slot may have so many
abbrev pub fault_of : (most : ℕ) → UpdateMark → Table → Option Loaded → Option StartFault
fault_of most m s None =
    if is_merging m.phase
    then merging_check most m.slot s
    else first_fault
    (own_check most m.slot s ∷ overlay_checks m.overlaid m.slot (layout_of s))
fault_of most m s (Some l) = first_fault (update_checks m.apart most m.slot s l.table)

-- The table whose partitions are read through stores: that of an update's target, and while it is
-- merged that of the mark's slot.
abbrev pub through_of : MarkPhase → Loaded → Option Loaded → Option Loaded
through_of phase s t = if is_merging phase then Some s else t

-- the slot of that table
abbrev pub through_slot : MarkPhase → ℕ → ℕ
through_slot phase slot = if is_merging phase then slot else other_slot slot

-- the image that a status names, of which there may be fewer exceptions or not, and which may stand
-- in place or not
abbrev pub wanted_for : (fewer may : Bool) → ℕ → Layout → PartStatus → Result Wanted StartFault
wanted_for false may slot l s = wanted_of may slot l s
wanted_for true may slot l s = or_fewer (wanted_of may slot l s)

-- the images that are read
abbrev pub stores_by : (fewer may : Bool)
    → ℕ
    → Option Loaded
    → List PartStatus
    → List (Result Wanted StartFault)
stores_by fewer may slot None statuses = []
stores_by fewer may slot (Some l) statuses =
    map (wanted_for fewer may slot (layout_of l.table)) statuses

abbrev pub plan_by : ℕ → Option Loaded → List Scanned → Option (List Part)
plan_by slot None scanned = None
plan_by slot (Some l) scanned = Some (plan_of slot (layout_of l.table) scanned)

-- the partitions of a table, with what their stores hold
pub record AreRead
    (modelled : Type 0)
    (fewer may : Bool)
    (slot : ℕ)
    (t : Table)
    (statuses : List (Option PartStatus))
    (image : Image)
    (parts : List Part) : Type 0 where
  pub scanned : List Scanned
  pub parts_are : parts ≡ plan_of slot (layout_of t) scanned
  pub are : All (IsScanned slot (layout_of t)) scanned
  pub read : modelled
      → scans_in (map (wanted_for fewer may slot (layout_of t)) (written_in statuses)) image
      ≡ Ok scanned

-- those of the table that is read through stores, where there is one
pub record IsPlanRead
    (modelled : Type 0)
    (fewer may : Bool)
    (slot : ℕ)
    (through : Option Loaded)
    (statuses : List (Option PartStatus))
    (image : Image)
    (plan : Option (List Part)) : Type 0 where
  pub scanned : List Scanned
  pub plan_is : plan ≡ plan_by slot through scanned
  pub are : IfSome through (λ l. All (IsScanned slot (layout_of l.table)) scanned)
  pub read : modelled
      → scans_in (stores_by fewer may slot through (written_in statuses)) image ≡ Ok scanned

-- ---- what is read through stores

-- the images that are read: without an update that of the partition that is overlaid
abbrev pub stores_at : UpdateMark
    → Loaded
    → Option Loaded
    → List PartStatus
    → List (Result Wanted StartFault)
stores_at m s t statuses =
    if is_idle m.phase
    then overlay_wanted m.overlaid m.slot (layout_of s.table)
    else stores_by (is_merging m.phase) (may_place m) (through_slot m.phase m.slot)
    (through_of m.phase s t) statuses

-- the partition that is overlaid, where there is no update
abbrev pub overlay_by : UpdateMark → Table → List Scanned → Option Part
overlay_by m s scanned =
    if is_idle m.phase then overlay_of m.overlaid m.slot (layout_of s) scanned else None

-- the partitions that are read through stores, and the one that is overlaid
pub record AreStored
    (modelled : Type 0)
    (m : UpdateMark)
    (s : Loaded)
    (t : Option Loaded)
    (statuses : List (Option PartStatus))
    (image : Image)
    (stored : Stored) : Type 0 where
  pub scanned : List Scanned
  pub through_is : stored.through
      ≡ plan_by (through_slot m.phase m.slot) (through_of m.phase s t) scanned
  pub overlay_is : stored.overlay ≡ overlay_by m s.table scanned
  pub are : IfSome (through_of m.phase s t)
      (λ l. All (IsScanned (through_slot m.phase m.slot) (layout_of l.table)) scanned)
  pub over : is_idle m.phase ≡ true
      → AreOverScanned m.overlaid m.slot (layout_of s.table) scanned
  pub read : modelled → scans_in (stores_at m s t (written_in statuses)) image ≡ Ok scanned

-- whether nothing more needs to be written, where these partitions are read through stores
abbrev pub is_target_ready : Option (List Part) → Bool
is_target_ready None = true
is_target_ready (Some parts) = are_ready parts

-- the rules of the slots, where these partitions are read through stores
abbrev pub slots_fault : UpdateMark → Control → Option (List Part) → Option StartFault
slots_fault m c through =
    first_fault
    (if has_both m.phase
    then check (may_run m.slot (control_kept m c)) (BadState 2)
    ∷ check (is_target_ready through) (BadState 3)
    ∷ []
    else (if is_merging m.phase
    then check ((control_kept m c).current == m.slot) (BadState 1)
    ∷ check (is_good (info_at (control_kept m c) m.slot)) (BadState 2)
    ∷ check (is_target_ready through) (BadState 3)
    ∷ []
    else slot_checks m.slot (control_kept m c)))

-- The partitions of a slot, where it has images: those of this table, and of a slot that is read
-- through stores these.
abbrev pub slot_parts : UpdateMark → ℕ → Table → Option (List Part) → Option (List Part)
slot_parts m slot s through =
    if m.slot == slot
    then (if is_merging m.phase then through else Some (parts_of m.slot (layout_of s)))
    else (if has_both m.phase then through else None)

-- those that are planned
abbrev pub planned_by : MarkPhase → Option (List Part) → Option (List Part)
planned_by phase through =
    if is_merging phase then None else (if has_both phase then None else through)

-- a device of these parts, but for its tables
pub record IsAssembled
    (d : Device)
    (m : UpdateMark)
    (c : Control)
    (tail : Tail)
    (g : Geometry)
    (s : Table)
    (stored : Stored) : Type 0 where
  pub mark : d.mark ≡ m
  pub control : d.control ≡ c
  pub ends : d.tail ≡ tail
  pub geometry : d.geometry ≡ g
  pub cap : d.cap ≡ cap_of (layout_of s).device
  pub groups : d.groups ≡ limits_of m.slot s.groups
  pub a : d.a ≡ slot_parts m 0 s stored.through
  pub b : d.b ≡ slot_parts m 1 s stored.through
  pub plan : d.plan ≡ planned_by m.phase stored.through
  pub overlay : d.overlay ≡ stored.overlay

-- ---- what is opened

-- the device with the tables that were loaded
abbrev pub table_if : Bool → Table → Option Loaded → Option Table
table_if true t target = Some t
table_if false t None = None
table_if false t (Some l) = Some l.table

abbrev pub with_tables : Tables → Device → Device
with_tables t d = record d {
  table_a = table_if (d.mark.slot == 0) t.source.table t.target;
  table_b = table_if (d.mark.slot == 1) t.source.table t.target;
}

-- A device that was read of a disk, but for its tables, and the tables that were loaded.
pub record IsOpened (d : Device) (t : Tables) (size : ℕ) (image : Image) : Type 0 where
  pub statuses : List (Option PartStatus)
  pub scanned : List Scanned
  pub reads : Reads size
      (read_of d.mark statuses d.control d.tail d.geometry (tables_of t) scanned)
      image
  pub is : with_tables t d
      ≡ record (kept (read_of d.mark statuses d.control d.tail d.geometry (tables_of t) scanned)) {
        control = d.control;
      }
  pub control : control_of (image 4) ≡ Ok d.control
  pub loaded : AreLoaded d.geometry d.mark.slot image t
