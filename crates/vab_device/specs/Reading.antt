-- What a whole disk means: a device with its images, or the first thing that is wrong.
use Rattle.std.specs.Prelude.{◌≡◌, ◌⊎◌, ℕ, ◌+◌, ◌≤◌, ◌==◌, Bool, true, false, not, nat_le}
use Rattle.std.specs.Prelude.{if◌then◌else◌}
use Rattle.std.specs.Prelude.{List, [], ◌∷◌, length, Option, Some, None, Result, Ok, Err}
use Rattle.vab_disk.specs.Disk.{Image}
use Rattle.vab_disk.specs.Calls.{IsBetween, SameBut}
use Rattle.vab_bootctl.specs.declared.slots.Control.{Control}
use Rattle.vab_bootctl.specs.declared.sector.ControlFault.{ControlFault}
use Rattle.vab_bootctl.specs.Control.{control_of}
use Rattle.vab_marks.specs.declared.mark.MarkPhase.{MarkPhase}
use Rattle.vab_marks.specs.declared.mark.MarkPhase.TheVariants as marks
use Rattle.vab_marks.specs.declared.mark.UpdateMark.{UpdateMark}
use Rattle.vab_marks.specs.declared.physical.PhysicalSizes.{PhysicalSizes}
use Rattle.vab_marks.specs.declared.sector.MarkFault.{MarkFault}
use Rattle.vab_marks.specs.declared.status.PartStatus.{PartStatus}
use Rattle.vab_marks.specs.declared.version.MarkVersion.{MarkVersion}
use Rattle.vab_marks.specs.declared.version.MarkVersion.TheVariants.{Two}
use Rattle.vab_marks.specs.Mark.{mark_of}
use Rattle.vab_marks.specs.Version.{version_in, partitions_under}
use Rattle.vab_space.specs.declared.Chunk.{Chunk}
use Rattle.vab_store.specs.Reached.{IsReached}
use Rattle.vab_statuses.specs.Statuses.{statuses_under, written_in, IsOfStatuses}
use Rattle.vab_tables.specs.declared.table.Table.{Table}
use Rattle.vab_tables.specs.declared.fault.TableFault.{TableFault}
use Rattle.vab_tables.specs.Rules.{cap_of}
use Rattle.vab_geometry.specs.declared.geometry.Geometry.{Geometry}
use Rattle.vab_geometry.specs.declared.geometry.GeometryFault.{GeometryFault}
use Rattle.vab_geometry.specs.Loading.{geometry_in}
use Rattle.vab_lpstore.specs.Layout.{copy_sectors, primary_of, backup_of, BothHold}
use Rattle.vab_lpstore.specs.Loading.{slot_table}
use Rattle.vab_tables.specs.Text.{IsTableText}
use Rattle.vab_layout.specs.Layout.{layout_of}
use Rattle.vab_model.specs.State.{control_seen}
use Rattle.vab_physical.specs.declared.tail.Tail.{Tail}
use Rattle.vab_physical.specs.Tail.{tail_in}
use Rattle.vab_device.specs.declared.fault.StartFault.{StartFault}
use Rattle.vab_device.specs.declared.fault.StartFault.TheVariants.{TooSmall, BadMark, BadControl}
use Rattle.vab_device.specs.declared.fault.StartFault.TheVariants.{BadPhysical, BadGeometry}
use Rattle.vab_device.specs.declared.fault.StartFault.TheVariants.{BadTable}
use Rattle.vab_device.specs.declared.device.Part.{Part}
use Rattle.vab_device.specs.declared.device.PartImage.{PartImage}
use Rattle.vab_device.specs.declared.device.PartImage.TheVariants.{Kept, Declared, Written}
use Rattle.vab_device.specs.declared.device.Device.{Device}
use Rattle.vab_device.specs.Checks.{unless, first_fault, passing, ◌>>=◌}
use Rattle.vab_device.specs.Kept.{parts_of, limits_of, copies_end, super_bytes, lies_in, has_slot}
use Rattle.vab_device.specs.Mounted.{Mounted, mounted_on, images_on, sectors_read, entries_on}
use Rattle.vab_device.specs.Mounted.{written_sectors, overlay_on}
use Rattle.vab_device.specs.Phases.{Phase, phase_at, plan_of, of_first_table}
use Rattle.vab_device.specs.Stores.{Wanted, Scanned, scans_in}

-- What the sectors say that the phase reads. The images are left where they stand. Of boot control
-- the slots with images are read, and of a slot's table that of the whole copy.
pub record Read : Type 0 where
  pub mark : UpdateMark
  pub statuses : List (Option PartStatus)
  pub control : Control
  pub tail : Tail
  pub geometry : Geometry
  pub tables : List Table
  pub scanned : List Scanned

-- ---- the parts of a disk

-- where all stores are merged there is no update any more
abbrev pub settled : MarkPhase → MarkPhase
settled marks.Completed = marks.Idle
settled phase = phase

-- No device has physical partitions yet: a mark that says that there are some is none.
abbrev pub mark_read : Result UpdateMark MarkFault → Result UpdateMark StartFault
mark_read (Ok m) =
    unless (not m.physical) (BadMark 2048) (Ok (record m { phase = settled m.phase }))
mark_read (Err fault) = Err (BadMark 2048)

-- the update mark, in sector 2048
unfoldable pub mark_in : Image → Result UpdateMark StartFault
mark_in image = mark_read (mark_of (image 2048))

-- the version of the mark, and the most partitions that a slot may have under it
abbrev pub version_at : Image → MarkVersion
version_at image = version_in (image 2048)

abbrev pub most_at : Image → ℕ
most_at image = partitions_under (version_at image)

abbrev pub statuses_read : Result (List (Option PartStatus)) ℕ
    → Result (List (Option PartStatus)) StartFault
statuses_read (Ok statuses) = Ok statuses
statuses_read (Err sector) = Err (BadMark sector)

-- the statuses, where they are read: those that the mark's version has
unfoldable pub statuses_at : Bool → Image → Result (List (Option PartStatus)) StartFault
statuses_at false image = Ok []
statuses_at true image = statuses_read (statuses_under (version_at image) image)

abbrev pub control_read : Bool → Bool → Result Control ControlFault → Result Control StartFault
control_read has_a has_b (Ok c) = Ok (control_seen has_a has_b c)
control_read has_a has_b (Err fault) = Err (BadControl fault)

-- the boot control, in sector 4, as far as slots with images go
unfoldable pub control_in : Bool → Bool → Image → Result Control StartFault
control_in has_a has_b image = control_read has_a has_b (control_of (image 4))

-- the boot control as far as the slots with images go
abbrev pub control_kept : UpdateMark → Control → Control
control_kept m c = control_seen (has_slot m.phase m.slot 0) (has_slot m.phase m.slot 1) c

-- without physical partitions `super` ends with the disk
abbrev pub whole_disk : (size : ℕ) → Tail
whole_disk size = record { sizes = record { boot = 0; vbmeta = 0 }; super_end = size }

abbrev pub tail_there : Option Tail → Result Tail StartFault
tail_there None = Err BadPhysical
tail_there (Some tail) = Ok tail

-- the sizes of the physical partitions, in sector 2113, where the mark says that there are some,
-- and where `super` ends on a disk of so many sectors
unfoldable pub tail_at : (physical : Bool) → (size : ℕ) → Image → Result Tail StartFault
tail_at false size image = Ok (whole_disk size)
tail_at true size image = tail_there (tail_in size image)

abbrev pub geometry_read : (super_end : ℕ)
    → Result Geometry (GeometryFault × GeometryFault)
    → Result Geometry StartFault
geometry_read super_end (Ok g) =
    unless (nat_le (copies_end g) (super_bytes super_end)) BadGeometry (Ok g)
geometry_read super_end (Err faults) = Err BadGeometry

unfoldable pub geometry_at : (super_end : ℕ) → Image → Result Geometry StartFault
geometry_at super_end image = geometry_read super_end (geometry_in image)

abbrev pub table_read : (super_end : ℕ)
    → Geometry
    → ℕ
    → Result Table (TableFault × TableFault)
    → Result Table StartFault
table_read super_end g slot (Ok t) =
    unless (lies_in super_end g (layout_of t).device) (BadTable slot) (Ok t)
table_read super_end g slot (Err faults) = Err (BadTable slot)

-- a slot's table
unfoldable pub table_at : (super_end : ℕ) → Geometry → ℕ → Image → Result Table StartFault
table_at super_end g slot image = table_read super_end g slot (slot_table g slot image)

abbrev pub tables_in : (super_end : ℕ)
    → Geometry
    → List ℕ
    → Image
    → Result (List Table) StartFault
tables_in super_end g [] image = Ok []
tables_in super_end g (slot ∷ slots) image =
    table_at super_end g slot image >>= λ t.
    tables_in super_end g slots image >>= λ ts.
    Ok (t ∷ ts)

-- ---- the links: each takes what the one before has read

-- the sectors with places of their own
abbrev pub framed : ℕ → UpdateMark → Phase → Image → Result Read StartFault
framed size m p image =
    statuses_at p.reads_statuses image >>= λ ss.
    control_in p.has_a p.has_b image >>= λ c.
    tail_at m.physical size image >>= λ tail.
    geometry_at tail.super_end image >>= λ g.
    tables_in tail.super_end g p.tables image >>= λ ts.
    Ok (record {
      mark = m;
      statuses = ss;
      control = c;
      tail = tail;
      geometry = g;
      tables = ts;
      scanned = [];
    })

unfoldable pub frame : ℕ → Image → Result Read StartFault
frame size image =
    unless (nat_le 4120 size) (TooSmall 4120 size) (mark_in image) >>= λ m.
    framed size m (phase_at m) image

abbrev pub part_fault : (most : ℕ) → Read → Option StartFault
part_fault most r = first_fault ((phase_at r.mark).part_checks most r.tables)

abbrev pub state_fault : Read → Option StartFault
state_fault r =
    first_fault
    ((phase_at r.mark).state_checks r.control r.tables r.scanned)

-- the rules of the partitions, of which a slot has so many at most
unfoldable pub judged : (most : ℕ) → Read → Result Read StartFault
judged most r = passing (part_fault most r) r

-- the stores that are read
abbrev pub stores_of : Read → List (Result Wanted StartFault)
stores_of r = (phase_at r.mark).stores r.tables (written_in r.statuses)

-- their exceptions
unfoldable pub scanned_in : Image → Read → Result Read StartFault
scanned_in image r = scans_in (stores_of r) image >>= λ ss. Ok (record r { scanned = ss })

-- the rules of the slots
unfoldable pub stated : Read → Result Read StartFault
stated r = passing (state_fault r) r

-- ---- what is kept

-- the table of a slot among those that are read
abbrev pub table_for : ℕ → List ℕ → List Table → Option Table
table_for slot [] ts = None
table_for slot (s ∷ ss) [] = None
table_for slot (s ∷ ss) (t ∷ ts) = if s == slot then Some t else table_for slot ss ts

-- a slot's partitions, through their stores or not
abbrev pub parts_by : ℕ → (through : Bool) → List Scanned → Table → List Part
parts_by slot false scanned t = parts_of slot (layout_of t)
parts_by slot true scanned t = plan_of slot (layout_of t) scanned

-- those of a slot that has images
abbrev pub parts_for : ℕ → (has through : Bool) → List Scanned → Option Table → Option (List Part)
parts_for slot false through scanned t = None
parts_for slot true through scanned None = None
parts_for slot true through scanned (Some t) = Some (parts_by slot through scanned t)

abbrev pub read_table : ℕ → Read → Option Table
read_table slot r = table_for slot (phase_at r.mark).tables r.tables

-- The blocks and the groups of the device are those of the first table.
abbrev pub kept : Read → Device
kept r = record {
  geometry = r.geometry;
  control = r.control;
  mark = r.mark;
  tail = r.tail;
  cap = of_first_table 0 (λ t. cap_of (layout_of t).device) r.tables;
  groups = of_first_table [] (λ t. limits_of r.mark.slot t.groups) r.tables;
  a = parts_for 0
      (phase_at r.mark).has_a
      ((phase_at r.mark).through 0)
      r.scanned
      (read_table 0 r);
  b = parts_for 1
      (phase_at r.mark).has_b
      ((phase_at r.mark).through 1)
      r.scanned
      (read_table 1 r);
  table_a = read_table 0 r;
  table_b = read_table 1 r;
  plan = (phase_at r.mark).plan r.tables r.scanned;
  overlay = (phase_at r.mark).overlay r.tables r.scanned;
}

-- ---- what a disk means

-- What a disk of so many sectors means: the links in their order.
unfoldable pub device : ℕ → Image → Result Mounted StartFault
device size image =
    frame size image >>= judged (most_at image) >>= scanned_in image >>= stated >>= λ r.
    Ok (mounted_on (kept r) image)

-- a disk of so many sectors is this device
abbrev pub IsIn : ℕ → Mounted → Image → Type 0
IsIn size m image = device size image ≡ Ok m

-- A disk is read so: what each link takes, and that its rules are kept.
pub record Reads (size : ℕ) (r : Read) (image : Image) : Type 0 where
  pub enough : nat_le 4120 size ≡ true
  pub mark : mark_in image ≡ Ok r.mark
  pub statuses : statuses_at (phase_at r.mark).reads_statuses image ≡ Ok r.statuses
  pub control : control_in
      (phase_at r.mark).has_a
      (phase_at r.mark).has_b
      image
      ≡ Ok r.control
  pub tail : tail_at r.mark.physical size image ≡ Ok r.tail
  pub geometry : geometry_at r.tail.super_end image ≡ Ok r.geometry
  pub tables : tables_in r.tail.super_end r.geometry (phase_at r.mark).tables image
      ≡ Ok r.tables
  pub parts : part_fault (most_at image) r ≡ None
  pub stores : scans_in (stores_of r) image ≡ Ok r.scanned
  pub state : state_fault r ≡ None

-- ---- a kept device and its disk

-- both copies of each of these slots' tables are the text of the table that is read
abbrev pub AgreeCopies : Geometry → List ℕ → List Table → Image → Type 0
AgreeCopies g [] ts image = Unit {0}
AgreeCopies g (s ∷ ss) [] image = ⊥
AgreeCopies g (s ∷ ss) (t ∷ ts) image =
    ((text : List ℕ) × IsTableText g.max text t × BothHold g s text image)
    × AgreeCopies g ss ts image

-- The device that is kept is that of the disk, whose mark has this version: it is what is read of
-- it, with the whole boot control, its tables are those that the disk reads, and both copies of
-- each agree.
pub record RepresentsUnder (v : MarkVersion) (d : Device) (size : ℕ) (image : Image) : Type 0 where
  pub read : Read
  pub reads : Reads size read image
  pub is : d ≡ record (kept read) { control = d.control }
  pub control : control_of (image 4) ≡ Ok d.control
  pub copies : AgreeCopies read.geometry (phase_at read.mark).tables
      read.tables image
  pub version : version_at image ≡ v

-- The kept device of a disk that is open: the mark has version 2.
abbrev pub Represents : Device → ℕ → Image → Type 0
Represents d size image = RepresentsUnder Two d size image

-- ---- what is read the same

-- Each part that is read, and the images, are the same in both, and a slot may have as many
-- partitions or more.
pub record SameRead (size : ℕ) (r : Read) (old new : Image) : Type 0 where
  pub most : most_at old ≤ most_at new
  pub mark : mark_in new ≡ mark_in old
  pub statuses : statuses_at (phase_at r.mark).reads_statuses new
      ≡ statuses_at (phase_at r.mark).reads_statuses old
  pub control : control_in
      (phase_at r.mark).has_a
      (phase_at r.mark).has_b
      new
      ≡ control_in
      (phase_at r.mark).has_a
      (phase_at r.mark).has_b
      old
  pub tail : tail_at r.mark.physical size new ≡ tail_at r.mark.physical size old
  pub geometry : geometry_at r.tail.super_end new ≡ geometry_at r.tail.super_end old
  pub tables : tables_in r.tail.super_end r.geometry (phase_at r.mark).tables new
      ≡ tables_in r.tail.super_end r.geometry (phase_at r.mark).tables old
  pub stores : scans_in (stores_of r) new ≡ scans_in (stores_of r) old
  pub images_a : images_on new (kept r).a ≡ images_on old (kept r).a
  pub images_b : images_on new (kept r).b ≡ images_on old (kept r).b
  pub plan : entries_on new (kept r).plan ≡ entries_on old (kept r).plan
  pub overlay : overlay_on new (kept r).overlay ≡ overlay_on old (kept r).overlay

-- Writes of such values are dead: each image that has other bytes there alone is read the same.
abbrev pub Dead : ℕ → Read → Image → (ℕ → List ℕ → Type 0) → Type 0
Dead size r old W = (new : Image) → SameBut W old new → SameRead size r old new

-- ---- the sectors on which a reading rests

-- a sector of a copy of one of these slots' tables
abbrev pub IsOfTables : Geometry → List ℕ → ℕ → Type 0
IsOfTables g [] s = ⊥
IsOfTables g (slot ∷ slots) s =
    IsBetween (primary_of g slot) (primary_of g slot + copy_sectors g) s
    ⊎ IsBetween (backup_of g slot) (backup_of g slot + copy_sectors g) s
    ⊎ IsOfTables g slots s

abbrev pub IsOfBlocks : List ℕ → ℕ → Type 0
IsOfBlocks [] s = ⊥
IsOfBlocks (b ∷ bs) s = IsBetween b (b + 8) s ⊎ IsOfBlocks bs s

abbrev pub IsOfParts : List Part → ℕ → Type 0
IsOfParts [] s = ⊥
IsOfParts (p ∷ ps) s = IsOfBlocks (sectors_read p) s ⊎ IsOfParts ps s

abbrev pub IsOfImages : Option (List Part) → ℕ → Type 0
IsOfImages None s = ⊥
IsOfImages (Some parts) s = IsOfParts parts s

-- a sector on which the list of a store rests, where there is a store and its list is so long
abbrev pub IsOfScan : Chunk → Option (List ℕ) → (count : ℕ) → ℕ → Type 0
IsOfScan k None count s = ⊥
IsOfScan k (Some store) count s = IsReached k store count s

-- of one of the stores that are read, whose exceptions are these
abbrev pub IsOfStores : List (Result Wanted StartFault) → List Scanned → ℕ → Type 0
IsOfStores [] xs s = ⊥
IsOfStores (w ∷ ws) [] s = ⊥
IsOfStores (Err fault ∷ ws) (x ∷ xs) s = ⊥
IsOfStores (Ok w ∷ ws) (x ∷ xs) s =
    IsOfScan w.chunk w.store (length x.exceptions) s ⊎ IsOfStores ws xs s

-- a sector that a read of a written partition takes
abbrev pub IsOfWritten : Part → PartImage → ℕ → Type 0
IsOfWritten p Kept s = ⊥
IsOfWritten p Declared s = ⊥
IsOfWritten p (Written k es) s = IsOfBlocks (written_sectors p k es) s

abbrev pub IsOfPlanned : List Part → ℕ → Type 0
IsOfPlanned [] s = ⊥
IsOfPlanned (p ∷ ps) s = IsOfWritten p p.image s ⊎ IsOfPlanned ps s

abbrev pub IsOfPlan : Option (List Part) → ℕ → Type 0
IsOfPlan None s = ⊥
IsOfPlan (Some plan) s = IsOfPlanned plan s

-- a sector that a read of the overlaid partition takes
abbrev pub IsOfOverlay : Option Part → ℕ → Type 0
IsOfOverlay None s = ⊥
IsOfOverlay (Some p) s = IsOfBlocks (sectors_read p) s

-- The live sectors: the reading and the images are the same where these are.
pub data Live (r : Read) (s : ℕ) : Type 0 where
  of_mark : s ≡ 2048 → Live r s
  of_statuses : (phase_at r.mark).reads_statuses ≡ true → IsOfStatuses s → Live r s
  of_control : s ≡ 4 → Live r s
  of_sizes : r.mark.physical ≡ true → s ≡ 2113 → Live r s
  of_geometry : (s ≡ 4104) ⊎ (s ≡ 4112) → Live r s
  of_tables : IsOfTables r.geometry (phase_at r.mark).tables s → Live r s
  of_stores : IsOfStores (stores_of r) r.scanned s → Live r s
  of_images_a : IsOfImages (kept r).a s → Live r s
  of_images_b : IsOfImages (kept r).b s → Live r s
  of_plan : IsOfPlan (kept r).plan s → Live r s
  of_overlay : IsOfOverlay (kept r).overlay s → Live r s

-- the same where the reading rests
abbrev pub Agrees : Read → Image → Image → Type 0
Agrees r old new = (s : ℕ) → Live r s → new s ≡ old s

-- none of these sectors is live
abbrev pub Misses : Read → (ℕ → Type 0) → Type 0
Misses r W = (s : ℕ) → Live r s → W s → ⊥
