-- What the links of a disk answer, one after another.
use Rattle.std.proofs.Common.{◌≡◌, ℕ, true, false, leb, List, [], ◌∷◌, Result, Ok, Err, refl}
use Rattle.std.proofs.Common.{ap}
use Rattle.std.specs.Prelude.{Bool, Option, Some, None}
use Rattle.vab_disk.specs.Disk.{Image}
use Rattle.vab_marks.specs.declared.status.PartStatus.{PartStatus}
use Rattle.vab_bootctl.specs.declared.slots.Control.{Control}
use Rattle.vab_bootctl.specs.Control.{control_of}
use Rattle.vab_marks.specs.declared.mark.UpdateMark.{UpdateMark}
use Rattle.vab_geometry.specs.declared.geometry.Geometry.{Geometry}
use Rattle.vab_device.specs.declared.fault.StartFault.{StartFault}
use Rattle.vab_device.specs.declared.fault.StartFault.TheVariants.{TooSmall}
use Rattle.vab_device.specs.Checks.{Check, first_fault}
use Rattle.vab_device.specs.Phases.{phase_at}
use Rattle.vab_device.specs.Reading.{Read, mark_in, statuses_at, control_read, control_in}
use Rattle.vab_physical.specs.declared.tail.Tail.{Tail}
use Rattle.vab_device.specs.Reading.{tail_at, geometry_at, tables_in, frame, part_fault, judged}
use Rattle.vab_device.specs.Reading.{state_fault}
use Rattle.vab_device.specs.Reading.{stores_of, scanned_in, stated, device, Reads, most_at}
use Rattle.vab_device.specs.Stores.{Scanned, scans_in}
use Rattle.vab_device.proofs.ReadingLaws.{FrameReads, frame_is}

-- ---- a part of the frame fails

pub device_small : (size : ℕ) (image : Image)
    → leb 4120 size ≡ false
    → device size image ≡ Err (TooSmall 4120 size)
unfolding device frame
device_small size image few = rw few refl

pub device_no_mark : (size : ℕ) (image : Image) (f : StartFault)
    → leb 4120 size ≡ true
    → mark_in image ≡ Err f
    → device size image ≡ Err f
unfolding device frame
device_no_mark size image f enough mark = rw (enough, mark) refl

pub device_no_statuses : (size : ℕ) (image : Image) (m : UpdateMark) (f : StartFault)
    → leb 4120 size ≡ true
    → mark_in image ≡ Ok m
    → statuses_at (phase_at m).reads_statuses image ≡ Err f
    → device size image ≡ Err f
unfolding device frame
device_no_statuses size image m f enough mark statuses = rw (enough, mark, statuses) refl

pub device_no_control : (size : ℕ) (image : Image) (m : UpdateMark)
    (ss : List (Option PartStatus)) (f : StartFault)
    → leb 4120 size ≡ true
    → mark_in image ≡ Ok m
    → statuses_at (phase_at m).reads_statuses image ≡ Ok ss
    → control_in (phase_at m).has_a (phase_at m).has_b image ≡ Err f
    → device size image ≡ Err f
unfolding device frame
device_no_control size image m ss f enough mark statuses control =
    rw (enough, mark, statuses, control) refl

pub device_no_tail : (size : ℕ) (image : Image) (m : UpdateMark)
    (ss : List (Option PartStatus)) (c : Control) (f : StartFault)
    → leb 4120 size ≡ true
    → mark_in image ≡ Ok m
    → statuses_at (phase_at m).reads_statuses image ≡ Ok ss
    → control_in (phase_at m).has_a (phase_at m).has_b image ≡ Ok c
    → tail_at m.physical size image ≡ Err f
    → device size image ≡ Err f
unfolding device frame
device_no_tail size image m ss c f enough mark statuses control tail =
    rw (enough, mark, statuses, control, tail) refl

pub device_no_geometry : (size : ℕ) (image : Image) (m : UpdateMark)
    (ss : List (Option PartStatus)) (c : Control) (tail : Tail) (f : StartFault)
    → leb 4120 size ≡ true
    → mark_in image ≡ Ok m
    → statuses_at (phase_at m).reads_statuses image ≡ Ok ss
    → control_in (phase_at m).has_a (phase_at m).has_b image ≡ Ok c
    → tail_at m.physical size image ≡ Ok tail
    → geometry_at tail.super_end image ≡ Err f
    → device size image ≡ Err f
unfolding device frame
device_no_geometry size image m ss c tail f enough mark statuses control ends geometry =
    rw (enough, mark, statuses, control, ends, geometry) refl

pub device_no_tables : (size : ℕ) (image : Image) (m : UpdateMark)
    (ss : List (Option PartStatus)) (c : Control) (tail : Tail) (g : Geometry) (f : StartFault)
    → leb 4120 size ≡ true
    → mark_in image ≡ Ok m
    → statuses_at (phase_at m).reads_statuses image ≡ Ok ss
    → control_in (phase_at m).has_a (phase_at m).has_b image ≡ Ok c
    → tail_at m.physical size image ≡ Ok tail
    → geometry_at tail.super_end image ≡ Ok g
    → tables_in tail.super_end g (phase_at m).tables image ≡ Err f
    → device size image ≡ Err f
unfolding device frame
device_no_tables size image m ss c tail g f enough mark statuses control ends geometry tables =
    rw (enough, mark, statuses, control, ends, geometry, tables) refl

-- ---- a rule is broken, or a store isn't read

pub device_judged : (size : ℕ) (r : Read) (image : Image) (f : StartFault)
    → FrameReads size image r
    → part_fault (most_at image) r ≡ Some f
    → device size image ≡ Err f
unfolding device judged
device_judged size r image f reads parts = rw (frame_is size r image reads, parts) refl

pub device_scanned : (size : ℕ) (r : Read) (image : Image) (f : StartFault)
    → FrameReads size image r
    → part_fault (most_at image) r ≡ None
    → scans_in (stores_of r) image ≡ Err f
    → device size image ≡ Err f
unfolding device judged scanned_in
device_scanned size r image f reads parts stores =
    rw (frame_is size r image reads, parts, stores) refl

pub device_stated : (size : ℕ) (r : Read) (image : Image) (ss : List Scanned) (f : StartFault)
    → FrameReads size image r
    → part_fault (most_at image) r ≡ None
    → scans_in (stores_of r) image ≡ Ok ss
    → state_fault (record r { scanned = ss }) ≡ Some f
    → device size image ≡ Err f
unfolding device judged scanned_in stated
device_stated size r image ss f reads parts stores state =
    rw (frame_is size r image reads, parts, stores, state) refl

-- and where none is it is read
pub reads_of : (size : ℕ) (r : Read) (image : Image) (ss : List Scanned)
    → FrameReads size image r
    → part_fault (most_at image) r ≡ None
    → scans_in (stores_of r) image ≡ Ok ss
    → state_fault (record r { scanned = ss }) ≡ None
    → Reads size (record r { scanned = ss }) image
reads_of size r image ss reads parts stores state = record {
  enough = reads.enough;
  mark = reads.mark;
  statuses = reads.statuses;
  control = reads.control;
  tail = reads.tail;
  geometry = reads.geometry;
  tables = reads.tables;
  parts = parts;
  stores = stores;
  state = state;
}

-- ---- the boot control as far as it is read

pub control_seen_in : (a b : Bool) (image : Image) (c : Control)
    → control_of (image 4) ≡ Ok c
    → (let seen : Result Control StartFault = control_read a b (Ok c) in control_in a b image
    ≡ seen)
unfolding control_in
control_seen_in a b image c is = ap (control_read a b) is

-- ---- rules one after another

pub or_first : (c : Check) → first_fault (c ∷ []) ≡ c
or_first None = refl
or_first (Some f) = refl
