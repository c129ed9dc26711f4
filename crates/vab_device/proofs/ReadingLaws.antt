-- A disk means a device exactly where it is read so.
use Rattle.std.proofs.Common.{◌≡◌, ◌∙◌, ◌⊎◌, inl, inr, ⊎_elim, ℕ, zero, suc, ◌+◌, ◌<◌, true, false}
use Rattle.std.proofs.Common.{List, IsTrue}
use Rattle.std.proofs.Common.{[], ◌∷◌, length, Result, Ok, Err, refl, sym, ap, subst, arith}
use Rattle.std.specs.Prelude.{◌||◌, not, Bool, Option, Some, None, is_some, nat_le, ◌==◌}
use Rattle.std.proofs.lemmas.Bool.{cases_Bool}
use Rattle.vab_disk.specs.Disk.{Image}
use Rattle.vab_bootctl.specs.declared.slots.Control.{Control}
use Rattle.vab_bootctl.specs.Control.{control_of}
use Rattle.vab_bootctl.specs.Boot.{info_at}
use Rattle.vab_marks.specs.declared.mark.UpdateMark.{UpdateMark}
use Rattle.vab_marks.specs.declared.status.PartStatus.{PartStatus}
use Rattle.vab_marks.specs.declared.mark.MarkPhase.{MarkPhase}
use Rattle.vab_marks.specs.declared.mark.MarkPhase.TheVariants as marks
use Rattle.vab_tables.specs.declared.table.Table.{Table}
use Rattle.vab_geometry.specs.declared.geometry.Geometry.{Geometry}
use Rattle.vab_layout.specs.Slots.{other_slot}
use Rattle.vab_model.specs.State.{control_seen}
use Rattle.vab_model.proofs.SeenLaws.{seen_again}
use Rattle.vab_physical.specs.declared.tail.Tail.{Tail}
use Rattle.vab_device.specs.declared.fault.StartFault.{StartFault}
use Rattle.vab_device.specs.declared.fault.StartFault.TheVariants.{TooSmall, BadMark, BadState}
use Rattle.vab_marks.specs.declared.sector.MarkFault.{MarkFault}
use Rattle.vab_marks.specs.Mark.{mark_of, FlagsFit, may_stand_apart, is_idle}
use Rattle.vab_model.specs.declared.state.Phase.TheVariants as phases
use Rattle.vab_device.specs.declared.device.Device.{Device}
use Rattle.vab_device.specs.Checks.{Check, check, or_else, first_fault, ◌>>=◌}
use Rattle.vab_device.specs.Mounted.{Mounted, control_on, state_on, mounted_on, images_on}
use Rattle.vab_device.specs.Mounted.{entries_on, phase_by, phase_on, count_at}
use Rattle.vab_device.specs.Stores.{Scanned, scans_in}
use Rattle.vab_device.specs.Kept.{IsPhase, has_both, has_slot}
use Rattle.vab_device.specs.Phases.{Phase, slot_checks, staged_checks, idle, installing}
use Rattle.vab_device.specs.Phases.{phase_in, phase_at, is_good, slot_ready}
use Rattle.vab_device.specs.Reading.{Read, settled, mark_read, mark_in, statuses_at, control_read}
use Rattle.vab_device.specs.Reading.{control_in}
use Rattle.vab_device.specs.Reading.{tail_at, geometry_at, stores_of, scanned_in, most_at}
use Rattle.vab_device.specs.Reading.{table_at, tables_in, framed, frame, part_fault, state_fault}
use Rattle.vab_device.specs.Reading.{judged, stated, table_for, parts_for, kept, device}
use Rattle.vab_device.specs.Reading.{Reads, Represents, SameRead, control_kept}
use Rattle.vab_device.proofs.CheckLaws.{bound, passed}
use Rattle.vab_device.proofs.MarkLaws.{mark_slot, mark_flags}
use Rattle.vab_device.proofs.MostLaws.{parts_more}
use Rattle.vab_device.proofs.StayLaws.{bare_read}
use Rattle.vab_device.specs.Mounted.{overlay_on}

-- ---- where it is read it means so

-- what is read before the stores are
abbrev pub unscanned : Read → Read
unscanned r = record r { scanned = [] }

-- what the frame of a disk gives
pub record FrameReads (size : ℕ) (image : Image) (r : Read) : Type 0 where
  pub enough : nat_le 4120 size ≡ true
  pub mark : mark_in image ≡ Ok r.mark
  pub statuses : statuses_at (phase_at r.mark).reads_statuses image ≡ Ok r.statuses
  pub control : control_in
      (phase_at r.mark).has_a
      (phase_at r.mark).has_b
      image
      ≡ Ok r.control
  pub tail : tail_at r.mark.physical size image ≡ Ok r.tail
  pub geometry : geometry_at r.tail.super_end image ≡ Ok r.geometry
  pub tables : tables_in r.tail.super_end r.geometry (phase_at r.mark).tables image
      ≡ Ok r.tables

pub frame_is : (size : ℕ) (r : Read) (image : Image)
    → FrameReads size image r
    → frame size image ≡ Ok (unscanned r)
unfolding frame
frame_is size r image reads =
    rw (
      reads.enough,
      reads.mark,
      reads.statuses,
      reads.control,
      reads.tail,
      reads.geometry,
      reads.tables,
    ) refl

frame_of : (size : ℕ) (r : Read) (image : Image)
    → Reads size r image
    → frame size image ≡ Ok (unscanned r)
frame_of size r image reads = frame_is size r image (record {
  enough = reads.enough;
  mark = reads.mark;
  statuses = reads.statuses;
  control = reads.control;
  tail = reads.tail;
  geometry = reads.geometry;
  tables = reads.tables;
})

scanned_of : (size : ℕ) (r : Read) (image : Image)
    → Reads size r image
    → scanned_in image (unscanned r) ≡ Ok r
unfolding scanned_in
scanned_of size r image reads = rw reads.stores refl

pub device_of : (size : ℕ) (r : Read) (image : Image)
    → Reads size r image
    → device size image ≡ Ok (mounted_on (kept r) image)
unfolding device judged stated
device_of size r image reads =
    rw (frame_of size r image reads, reads.parts, scanned_of size r image reads, reads.state) refl

-- ---- and where it means so it is read

-- what is read of the frame
abbrev framed_so : UpdateMark
    → List (Option PartStatus)
    → Control
    → Tail
    → Geometry
    → List Table
    → Read
framed_so m ss c tail g ts = record {
  mark = m;
  statuses = ss;
  control = c;
  tail = tail;
  geometry = g;
  tables = ts;
  scanned = [];
}

framed_was : (size : ℕ) (m : UpdateMark) (image : Image) (r : Read)
    → nat_le 4120 size ≡ true
    → mark_in image ≡ Ok m
    → framed size m (phase_at m) image ≡ Ok r
    → FrameReads size image r
framed_was size m image r enough mark is =
    let p : Phase = phase_at m in
    let ss = bound (statuses_at p.reads_statuses image)
    (λ ss. control_in p.has_a p.has_b image >>= λ c.
    tail_at m.physical size image >>= λ tail.
    geometry_at tail.super_end image >>= λ g.
    tables_in tail.super_end g p.tables image >>= λ ts.
    Ok (framed_so m ss c tail g ts))
    r is in
    let c = bound (control_in p.has_a p.has_b image)
    (λ c. tail_at m.physical size image >>= λ tail.
    geometry_at tail.super_end image >>= λ g.
    tables_in tail.super_end g p.tables image >>= λ ts.
    Ok (framed_so m ss.0 c tail g ts))
    r ss.2 in
    let tail = bound (tail_at m.physical size image)
    (λ tail. geometry_at tail.super_end image >>= λ g.
    tables_in tail.super_end g p.tables image >>= λ ts.
    Ok (framed_so m ss.0 c.0 tail g ts))
    r c.2 in
    let g = bound (geometry_at tail.0.super_end image)
    (λ g. tables_in tail.0.super_end g p.tables image >>= λ ts.
    Ok (framed_so m ss.0 c.0 tail.0 g ts))
    r tail.2 in
    let ts = bound (tables_in tail.0.super_end g.0 p.tables image)
    (λ ts. Ok (framed_so m ss.0 c.0 tail.0 g.0 ts))
    r g.2 in
    let read : Read = framed_so m ss.0 c.0 tail.0 g.0 ts.0 in
    let whole : Ok read ≡ Ok r = ts.2 in
    let same : read ≡ r = cc in
    subst (FrameReads size image) same
    (record {
      enough = enough;
      mark = mark;
      statuses = ss.1;
      control = c.1;
      tail = tail.1;
      geometry = g.1;
      tables = ts.1;
    })

frame_was : (size : ℕ) (image : Image) (r : Read)
    → frame size image ≡ Ok r
    → FrameReads size image r
unfolding frame
frame_was size image r is = elim (cases_Bool (nat_le 4120 size)) [
  | inl enough ↦
      let reading : (mark_in image >>= λ m. framed size m (phase_at m) image) ≡ Ok r =
      rw enough at is in
      let m = bound (mark_in image) (λ m. framed size m (phase_at m) image) r reading in
      framed_was size m.0 image r enough m.1 m.2
  | inr few ↦
      let failed : (let none : Result Read StartFault = Err (TooSmall 4120 size) in none ≡ Ok r) =
      rw few at is in
      absurd cc
]

-- what the stores' link leaves
record ScannedWas (image : Image) (first r : Read) : Type 0 where
  scanned : List Scanned
  stores : scans_in (stores_of first) image ≡ Ok scanned
  is : record first { scanned = scanned } ≡ r

scanned_was : (image : Image) (first r : Read)
    → scanned_in image first ≡ Ok r
    → ScannedWas image first r
unfolding scanned_in
scanned_was image first r is =
    let ss = bound (scans_in (stores_of first) image)
    (λ ss. Ok (record first { scanned = ss })) r is in
    let whole : Ok (record first { scanned = ss.0 }) ≡ Ok r = ss.2 in
    record { scanned = ss.0; stores = ss.1; is = cc }

pub record DeviceWas (size : ℕ) (image : Image) (m : Mounted) : Type 0 where
  pub read : Read
  pub reads : Reads size read image
  pub is : m ≡ mounted_on (kept read) image

-- the links of a reading, from the frame to the stores
read_was : (size : ℕ) (image : Image) (first r : Read)
    → FrameReads size image first
    → part_fault (most_at image) first ≡ None
    → ScannedWas image first r
    → state_fault r ≡ None
    → Reads size r image
read_was size image first r was parts scanned state =
    subst
    (λ (x : Read). state_fault x ≡ None → Reads size x image)
    scanned.is
    (λ state. record {
      enough = was.enough;
      mark = was.mark;
      statuses = was.statuses;
      control = was.control;
      tail = was.tail;
      geometry = was.geometry;
      tables = was.tables;
      parts = parts;
      stores = scanned.stores;
      state = state;
    })
    state

pub device_was : (size : ℕ) (image : Image) (m : Mounted)
    → device size image ≡ Ok m
    → DeviceWas size image m
unfolding device judged stated
device_was size image m is =
    let judging_by = judged (most_at image) in
    let last = bound (frame size image >>= judging_by >>= scanned_in image >>= stated)
    (λ r. Ok (mounted_on (kept r) image)) m is in
    let mid = bound (frame size image >>= judging_by >>= scanned_in image) stated last.0 last.1 in
    let judging = bound (frame size image >>= judging_by) (scanned_in image) mid.0 mid.1 in
    let first = bound (frame size image) judging_by judging.0 judging.1 in
    let parts = passed (part_fault (most_at image) first.0) first.0 judging.0 first.2 in
    let state = passed (state_fault mid.0) mid.0 last.0 mid.2 in
    let scanned : ScannedWas image first.0 mid.0 =
    subst (λ (x : Read). ScannedWas image x mid.0) (sym parts.1)
    (scanned_was image judging.0 mid.0 judging.2) in
    let whole : Ok (mounted_on (kept last.0) image) ≡ Ok m = last.2 in
    let same : mounted_on (kept last.0) image ≡ m = cc in
    record {
      read = mid.0;
      reads = read_was size image first.0 mid.0 (frame_was size image first.0 first.1) parts.0
          scanned
          state.0;
      is = sym same ∙ ap (λ (x : Read). mounted_on (kept x) image) (sym state.1);
    }

-- ---- what is read the same

pub reads_kept : (size : ℕ) (r : Read) (old new : Image)
    → Reads size r old
    → SameRead size r old new
    → Reads size r new
reads_kept size r old new reads same = record {
  enough = reads.enough;
  mark = same.mark ∙ reads.mark;
  statuses = same.statuses ∙ reads.statuses;
  control = same.control ∙ reads.control;
  tail = same.tail ∙ reads.tail;
  geometry = same.geometry ∙ reads.geometry;
  tables = same.tables ∙ reads.tables;
  parts = parts_more r (most_at old) (most_at new) same.most reads.parts;
  stores = same.stores ∙ reads.stores;
  state = reads.state;
}

pub state_same : (d : Device) (old new : Image)
    → images_on new d.a ≡ images_on old d.a
    → images_on new d.b ≡ images_on old d.b
    → entries_on new d.plan ≡ entries_on old d.plan
    → overlay_on new d.overlay ≡ overlay_on old d.overlay
    → state_on d new ≡ state_on d old
unfolding state_on
state_same d old new a b plan overlay = rw (a, b, plan, overlay) refl

pub mounted_same : (d : Device) (old new : Image)
    → images_on new d.a ≡ images_on old d.a
    → images_on new d.b ≡ images_on old d.b
    → entries_on new d.plan ≡ entries_on old d.plan
    → overlay_on new d.overlay ≡ overlay_on old d.overlay
    → mounted_on d new ≡ mounted_on d old
mounted_same d old new a b plan overlay = rw (state_same d old new a b plan overlay) refl

-- A disk that is read the same means the same.
pub device_same : (size : ℕ) (r : Read) (old new : Image)
    → Reads size r old
    → SameRead size r old new
    → device size new ≡ device size old
device_same size r old new reads same =
    device_of size r new (reads_kept size r old new reads same)
    ∙ ap Ok
    (mounted_same (kept r) old new same.images_a same.images_b same.plan same.overlay)
    ∙ sym (device_of size r old reads)

-- ---- the phases

pub idle_at : (m : UpdateMark) → m.phase ≡ marks.Idle → phase_at m ≡ idle m
idle_at m is = ap (λ (p : MarkPhase). phase_in p m) is

-- What a phase reads: which slots have images, and the table of the slot of the mark first.
pub record IsOf (p : MarkPhase) (m : UpdateMark) : Type 0 where
  pub has_a : (phase_in p m).has_a ≡ has_slot p m.slot 0
  pub has_b : (phase_in p m).has_b ≡ has_slot p m.slot 1
  pub others : List ℕ
  pub tables : (phase_in p m).tables ≡ m.slot ∷ others

pub of_phase : (p : MarkPhase) (m : UpdateMark) → IsOf p m
of_phase marks.Idle m = record { has_a = refl; has_b = refl; others = []; tables = refl }
of_phase marks.Installing m = record {
  has_a = refl;
  has_b = refl;
  others = other_slot m.slot ∷ [];
  tables = refl;
}
of_phase marks.Staged m = record {
  has_a = refl;
  has_b = refl;
  others = other_slot m.slot ∷ [];
  tables = refl;
}
of_phase marks.Merging m = record { has_a = refl; has_b = refl; others = []; tables = refl }
of_phase marks.Completed m = record { has_a = refl; has_b = refl; others = []; tables = refl }

-- what is asked beside boot control, where one slot has images
unfoldable ready_check : MarkPhase → (slot : ℕ) → List Table → List Scanned → Check
ready_check marks.Idle slot ts ss = None
ready_check marks.Installing slot ts ss = None
ready_check marks.Staged slot ts ss = None
ready_check marks.Merging slot ts ss = check (slot_ready slot ts ss) (BadState 3)
ready_check marks.Completed slot ts ss = None

or_none : (x : Check) → or_else x None ≡ x
or_none None = refl
or_none (Some fault) = refl

or_again : (x y z : Check) → or_else x (or_else y (or_else z None))
    ≡ or_else (or_else x (or_else y None)) z
or_again None None z = or_none z
or_again None (Some fault) z = refl
or_again (Some fault) y z = refl

or_parts : (x y : Check) → or_else x y ≡ None → (x ≡ None) × (y ≡ None)
or_parts None y is = (refl, is)
or_parts (Some fault) y is = absurd (let same : Some fault ≡ None = is in cc)

-- where one slot has images, the rules of the slots are those of that one, and that
single_checks : (p : MarkPhase) (m : UpdateMark) (c : Control) (ts : List Table)
    (ss : List Scanned)
    → has_both p ≡ false
    → first_fault ((phase_in p m).state_checks c ts ss)
    ≡ or_else (first_fault (slot_checks m.slot c)) (ready_check p m.slot ts ss)
unfolding ready_check
single_checks marks.Idle m c ts ss one = sym (or_none (first_fault (slot_checks m.slot c)))
single_checks marks.Installing m c ts ss one = sym (or_none (first_fault (slot_checks m.slot c)))
single_checks marks.Staged m c ts ss one = absurd cc
single_checks marks.Merging m c ts ss one =
    or_again (check (c.current == m.slot) (BadState 1))
    (check (is_good (info_at c m.slot)) (BadState 2))
    (check (slot_ready m.slot ts ss) (BadState 3))
single_checks marks.Completed m c ts ss one = sym (or_none (first_fault (slot_checks m.slot c)))

pub single_works : (r : Read)
    → has_both r.mark.phase ≡ false
    → state_fault r ≡ None
    → first_fault (slot_checks r.mark.slot r.control) ≡ None
single_works r one none =
    (or_parts (first_fault (slot_checks r.mark.slot r.control))
    (ready_check r.mark.phase r.mark.slot r.tables r.scanned)
    (sym (single_checks r.mark.phase r.mark r.control r.tables r.scanned one) ∙ none)).0

-- so they are with another boot control
pub single_again : (r : Read) (c : Control)
    → has_both r.mark.phase ≡ false
    → state_fault r ≡ None
    → first_fault (slot_checks r.mark.slot c) ≡ None
    → state_fault (record r { control = c }) ≡ None
single_again r c one none keeps =
    let ready = (or_parts (first_fault (slot_checks r.mark.slot r.control))
    (ready_check r.mark.phase r.mark.slot r.tables r.scanned)
    (sym (single_checks r.mark.phase r.mark r.control r.tables r.scanned one) ∙ none)).1 in
    single_checks r.mark.phase r.mark c r.tables r.scanned one
    ∙ (λ i. or_else (keeps i) (ready i))

pub state_staged : (r : Read)
    → r.mark.phase ≡ marks.Staged
    → state_fault r ≡ first_fault (staged_checks r.mark.slot r.control r.tables r.scanned)
state_staged r is =
    ap
    (λ (p : MarkPhase).
    first_fault ((phase_in p r.mark).state_checks r.control r.tables r.scanned))
    is

-- of boot control the info of slots with images is read
pub seen_slots : (r : Read) (c : Control)
    → control_seen (phase_at r.mark).has_a
    (phase_at r.mark).has_b c
    ≡ control_kept r.mark c
seen_slots r c =
    let of = of_phase r.mark.phase r.mark in
    (λ i. control_seen (of.has_a i) (of.has_b i) c)

-- a mark that is read is of a phase that a device may be in
known_by : (phase : MarkPhase) → IsPhase (settled phase)
known_by marks.Idle = inl refl
known_by marks.Installing = inr (inl refl)
known_by marks.Staged = inr (inr (inl refl))
known_by marks.Merging = inr (inr (inr refl))
known_by marks.Completed = inl refl

-- a mark that is read has no physical partitions
record IsReadMark (x : Result UpdateMark MarkFault) (r : UpdateMark) : Type 0 where
  there : UpdateMark
  is : x ≡ Ok there
  bare : there.physical ≡ false
  same : record there { phase = settled there.phase } ≡ r

mark_was : (x : Result UpdateMark MarkFault) (r : UpdateMark) → mark_read x ≡ Ok r → IsReadMark x r
mark_was (Ok m) r is = by m.physical refl
  where
    by : (p : Bool) → m.physical ≡ p → IsReadMark (Ok m) r
    by false bare =
        let kept : Ok (record m { phase = settled m.phase }) ≡ Ok r = sym (bare_read m bare) ∙ is in
        record { there = m; is = refl; bare = bare; same = cc }
    by true some =
        let none : (let x : Result UpdateMark StartFault = Err (BadMark 2048) in x ≡ Ok r) =
        rw some at is in
        absurd cc
mark_was (Err fault) r is =
    absurd (let bad : (let x : Result UpdateMark StartFault = Err (BadMark 2048) in x ≡ Ok r) =
    is in cc)

-- what is read of a mark that is there: it has no physical partitions
pub read_from : (image : Image) (k m : UpdateMark)
    → mark_in image ≡ Ok m
    → mark_of (image 2048) ≡ Ok k
    → (k.physical ≡ false) × (m ≡ record k { phase = settled k.phase })
unfolding mark_in
read_from image k m is there =
    let w = mark_was (mark_of (image 2048)) m is in
    let both : Ok w.there ≡ Ok k = sym w.is ∙ there in
    let same : w.there ≡ k = cc in (
      ap (λ (x : UpdateMark). x.physical) (sym same) ∙ w.bare,
      sym w.same ∙ ap (λ (x : UpdateMark). record x { phase = settled x.phase }) same,
    )

pub bare_known : (image : Image) (m : UpdateMark) → mark_in image ≡ Ok m → m.physical ≡ false
unfolding mark_in
bare_known image m is =
    let w = mark_was (mark_of (image 2048)) m is in
    sym (ap (λ (x : UpdateMark). x.physical) w.same) ∙ w.bare

pub known_phase : (image : Image) (m : UpdateMark) → mark_in image ≡ Ok m → IsPhase m.phase
unfolding mark_in
known_phase image m is =
    let w = mark_was (mark_of (image 2048)) m is in
    subst (λ (x : UpdateMark). IsPhase x.phase) w.same (known_by w.there.phase)

settled_flags : (p : MarkPhase) (apart overlaid : Bool)
    → IsTrue (may_stand_apart p || not apart) × IsTrue (is_idle p || not overlaid)
    → IsTrue (may_stand_apart (settled p) || not apart)
    × IsTrue (is_idle (settled p) || not overlaid)
settled_flags marks.Idle apart overlaid fits = fits
settled_flags marks.Installing apart overlaid fits = fits
settled_flags marks.Staged apart overlaid fits = fits
settled_flags marks.Merging apart overlaid fits = fits
settled_flags marks.Completed apart overlaid fits = (fits.0, refl)

-- a flag is on in the phases alone that have it
pub flags_known : (image : Image) (m : UpdateMark) → mark_in image ≡ Ok m → FlagsFit m
unfolding mark_in
flags_known image m is =
    let w = mark_was (mark_of (image 2048)) m is in
    subst FlagsFit w.same
    (settled_flags w.there.phase w.there.apart w.there.overlaid
    (mark_flags (image 2048) w.there w.is))

-- the slot of a mark that is read is a or b
pub slot_below : (image : Image) (m : UpdateMark) → mark_in image ≡ Ok m → m.slot < 2
unfolding mark_in
slot_below image m is =
    let w = mark_was (mark_of (image 2048)) m is in
    subst (λ (x : UpdateMark). x.slot < 2) w.same (mark_slot (image 2048) w.there w.is)

tables_two : (size : ℕ) (g : Geometry) (slot other : ℕ) (image : Image) (ts : List Table)
    → tables_in size g (slot ∷ other ∷ []) image ≡ Ok ts
    → (t : Table) × (u : Table) × (ts ≡ t ∷ u ∷ [])
tables_two size g slot other image ts is =
    let t = bound (table_at size g slot image)
    (λ t. tables_in size g (other ∷ []) image >>= λ ts. Ok (t ∷ ts)) ts is in
    let rest = bound (tables_in size g (other ∷ []) image) (λ ts. Ok (t.0 ∷ ts)) ts t.2 in
    let u = bound (table_at size g other image)
    (λ u. tables_in size g [] image >>= λ ts. Ok (u ∷ ts)) rest.0 rest.1 in
    let last : Ok (u.0 ∷ []) ≡ Ok rest.0 = u.2 in
    let tail : u.0 ∷ [] ≡ rest.0 = cc in
    let whole : Ok (t.0 ∷ rest.0) ≡ Ok ts = rest.2 in
    let same : t.0 ∷ rest.0 ≡ ts = cc in
    (t.0, u.0, sym same ∙ ap (λ (l : List Table). t.0 ∷ l) (sym tail))

-- where no update is said to be there, the disk was read without one
pub idle_read_of : (size : ℕ) (r : Read) (image : Image)
    → Reads size r image
    → phase_on (kept r) image ≡ phases.Idle
    → r.mark.phase ≡ marks.Idle
idle_read_of size r image reads none =
    ⊎_elim (λ idle. idle)
    (λ update. absurd (by_phase r.mark.phase update r.tables reads.tables none))
    (known_phase image r.mark reads.mark)
  where
    left : ℕ
    left = count_at (kept r).a + count_at (kept r).b

    by_phase : (p : MarkPhase)
        → (p ≡ marks.Installing) ⊎ (p ≡ marks.Staged) ⊎ (p ≡ marks.Merging)
        → (ts : List Table)
        → tables_in r.tail.super_end r.geometry (phase_in p r.mark).tables image ≡ Ok ts
        → phase_by (record r.mark { phase = p }) left
        (entries_on image ((phase_in p r.mark).plan ts r.scanned))
        ≡ phases.Idle
        → ⊥
    by_phase marks.Idle (inl e) ts read is = cc
    by_phase marks.Idle (inr (inl e)) ts read is = cc
    by_phase marks.Idle (inr (inr e)) ts read is = cc
    by_phase marks.Installing e ts read is =
        let two =
        tables_two r.tail.super_end r.geometry r.mark.slot (other_slot r.mark.slot) image ts read in
        let there : phase_by (record r.mark { phase = marks.Installing }) left
        (entries_on image ((installing r.mark).plan (two.0 ∷ two.1 ∷ []) r.scanned))
        ≡ phases.Idle =
        subst
        (λ (ts : List Table).
        phase_by (record r.mark { phase = marks.Installing }) left
        (entries_on image ((installing r.mark).plan ts r.scanned))
        ≡ phases.Idle)
        two.2 is in
        cc
    by_phase marks.Staged e ts read is =
        let no : phases.Staged r.mark.slot left ≡ phases.Idle = is in cc
    by_phase marks.Merging e ts read is =
        let no : phases.Merging r.mark.slot left ≡ phases.Idle = is in cc
    by_phase marks.Completed (inl e) ts read is = cc
    by_phase marks.Completed (inr (inl e)) ts read is = cc
    by_phase marks.Completed (inr (inr e)) ts read is = cc

pub tables_first : (size : ℕ) (g : Geometry) (slot : ℕ) (slots : List ℕ) (image : Image)
    (ts : List Table)
    → tables_in size g (slot ∷ slots) image ≡ Ok ts
    → (t : Table) × (rest : List Table) × (ts ≡ t ∷ rest)
tables_first size g slot slots image ts is =
    let t = bound (table_at size g slot image)
    (λ t. tables_in size g slots image >>= λ ts. Ok (t ∷ ts)) ts is in
    let rest = bound (tables_in size g slots image) (λ ts. Ok (t.0 ∷ ts)) ts t.2 in
    let whole : Ok (t.0 ∷ rest.0) ≡ Ok ts = rest.2 in
    (t.0, rest.0, let same : t.0 ∷ rest.0 ≡ ts = cc in sym same)

-- the table of the slot of the mark
pub source_table : (size : ℕ) (r : Read) (image : Image)
    → Reads size r image
    → (t : Table) × (rest : List Table) × (r.tables ≡ t ∷ rest)
source_table size r image reads =
    let of = of_phase r.mark.phase r.mark in
    tables_first r.tail.super_end r.geometry r.mark.slot of.others image r.tables
    (subst (λ (slots : List ℕ). tables_in r.tail.super_end r.geometry slots image ≡ Ok r.tables)
    of.tables reads.tables)

tables_one : (size : ℕ) (g : Geometry) (slot : ℕ) (image : Image) (ts : List Table)
    → tables_in size g (slot ∷ []) image ≡ Ok ts
    → (t : Table) × (ts ≡ t ∷ [])
tables_one size g slot image ts is =
    let t = bound (table_at size g slot image)
    (λ t. tables_in size g [] image >>= λ ts. Ok (t ∷ ts)) ts is in
    let whole : Ok (t.0 ∷ []) ≡ Ok ts = t.2 in
    (t.0, let same : t.0 ∷ [] ≡ ts = cc in sym same)

-- the one table that is read without an update
pub one_table : (size : ℕ) (r : Read) (image : Image)
    → r.mark.phase ≡ marks.Idle
    → Reads size r image
    → (t : Table) × (r.tables ≡ t ∷ [])
one_table size r image is reads =
    tables_one r.tail.super_end r.geometry r.mark.slot image r.tables
    (subst (λ (p : Phase). tables_in r.tail.super_end r.geometry p.tables image ≡ Ok r.tables)
    (idle_at r.mark is) reads.tables)

tables_long : (size : ℕ) (g : Geometry) (slots : List ℕ) (image : Image) (ts : List Table)
    → tables_in size g slots image ≡ Ok ts
    → length ts ≡ length slots
tables_long size g [] image ts is =
    let none : (let x : Result (List Table) StartFault = Ok [] in x ≡ Ok ts) = is in
    let e : [] ≡ ts = cc in
    ap length (sym e)
tables_long size g (slot ∷ slots) image ts is =
    let t = bound (table_at size g slot image)
    (λ t. tables_in size g slots image >>= λ ts. Ok (t ∷ ts)) ts is in
    let rest = bound (tables_in size g slots image) (λ ts. Ok (t.0 ∷ ts)) ts t.2 in
    let whole : Ok (t.0 ∷ rest.0) ≡ Ok ts = rest.2 in
    let e : t.0 ∷ rest.0 ≡ ts = cc in
    ap length (sym e) ∙ ap suc (tables_long size g slots image rest.0 rest.1)

some_first : (k own : ℕ) (others : List ℕ) (through : Bool) (ss : List Scanned) (t : Table)
    (ts : List Table)
    → is_some (parts_for k (own == k) through ss (table_for k (own ∷ others) (t ∷ ts)))
    ≡ (own == k)
some_first k own others through ss t ts = elim (cases_Bool (own == k)) [
  | inl same ↦ rw same refl
  | inr other ↦ rw other refl
]

some_both : (k own : ℕ) (through : Bool) (ss : List Scanned) (t u : Table) (ts : List Table)
    → k < 2
    → own < 2
    → is_some
    (parts_for k true through ss (table_for k (own ∷ other_slot own ∷ []) (t ∷ u ∷ ts)))
    ≡ true
some_both zero zero through ss t u ts k_below below = refl
some_both zero (suc zero) through ss t u ts k_below below = refl
some_both (suc zero) zero through ss t u ts k_below below = refl
some_both (suc zero) (suc zero) through ss t u ts k_below below = refl
some_both zero (suc (suc n)) through ss t u ts k_below below = absurd (omega (arith, below))
some_both (suc zero) (suc (suc n)) through ss t u ts k_below below = absurd (omega (arith, below))
some_both (suc (suc k)) own through ss t u ts k_below below = absurd (omega (arith, k_below))

-- whether the partitions of slot k are there where the phase says that it has images
abbrev AreThere : MarkPhase → UpdateMark → List Table → List Scanned → Type 0
AreThere p m ts ss =
    (is_some (parts_for 0 (phase_in p m).has_a ((phase_in p m).through 0) ss
    (table_for 0 (phase_in p m).tables ts))
    ≡ (phase_in p m).has_a)
    × (is_some (parts_for 1 (phase_in p m).has_b ((phase_in p m).through 1) ss
    (table_for 1 (phase_in p m).tables ts))
    ≡ (phase_in p m).has_b)

are_there : (p : MarkPhase) (m : UpdateMark) (ts : List Table) (ss : List Scanned)
    → m.slot < 2
    → length ts ≡ length (phase_in p m).tables
    → AreThere p m ts ss
are_there p m [] ss below long = absurd (none_read p long)
  where
    none_read : (p : MarkPhase) → 0 ≡ length (phase_in p m).tables → ⊥
    none_read marks.Idle is = omega (arith, is)
    none_read marks.Installing is = omega (arith, is)
    none_read marks.Staged is = omega (arith, is)
    none_read marks.Merging is = omega (arith, is)
    none_read marks.Completed is = omega (arith, is)
are_there marks.Idle m (t ∷ ts) ss below long =
    (some_first 0 m.slot [] false ss t ts, some_first 1 m.slot [] false ss t ts)
are_there marks.Installing m (t ∷ ts) ss below long = (
  some_first 0 m.slot (other_slot m.slot ∷ []) false ss t ts,
  some_first 1 m.slot (other_slot m.slot ∷ []) false ss t ts,
)
are_there marks.Staged m (t ∷ []) ss below long = absurd (omega (arith, long))
are_there marks.Staged m (t ∷ u ∷ ts) ss below long = (
  some_both 0 m.slot (other_slot m.slot == 0) ss t u ts (omega arith) below,
  some_both 1 m.slot (other_slot m.slot == 1) ss t u ts (omega arith) below,
)
are_there marks.Merging m (t ∷ ts) ss below long = (
  some_first 0 m.slot [] (m.slot == 0) ss t ts,
  some_first 1 m.slot [] (m.slot == 1) ss t ts,
)
are_there marks.Completed m (t ∷ ts) ss below long =
    (some_first 0 m.slot [] false ss t ts, some_first 1 m.slot [] false ss t ts)

-- a slot has partitions where the phase says that it has images
pub record HasImages (r : Read) : Type 0 where
  pub a : is_some (kept r).a ≡ (phase_at r.mark).has_a
  pub b : is_some (kept r).b ≡ (phase_at r.mark).has_b

pub has_images : (size : ℕ) (r : Read) (image : Image) → Reads size r image → HasImages r
has_images size r image reads =
    let both = are_there r.mark.phase r.mark r.tables r.scanned
    (slot_below image r.mark reads.mark)
    (tables_long r.tail.super_end r.geometry (phase_at r.mark).tables image r.tables
    reads.tables) in
    record { a = both.0; b = both.1 }

-- ---- a kept device

-- what is read of the boot control is what is seen of the whole
pub control_is_seen : (a b : Bool) (image : Image) (c seen : Control)
    → control_in a b image ≡ Ok seen
    → control_of (image 4) ≡ Ok c
    → seen ≡ control_seen a b c
unfolding control_in
control_is_seen a b image c seen read whole =
    let same : control_read a b (control_of (image 4)) ≡ Ok (control_seen a b c) =
    ap (control_read a b) whole in
    let both : Ok seen ≡ Ok (control_seen a b c) = sym read ∙ same in
    cc

with_seen : (r : Read) (c : Control) (image : Image)
    → control_on (record (kept r) { control = c }) ≡ control_on (kept r)
    → mounted_on (record (kept r) { control = c }) image ≡ mounted_on (kept r) image
unfolding state_on
with_seen r c image same = rw same refl

-- the disk of a kept device means what the device says
pub device_stands : (d : Device) (size : ℕ) (image : Image)
    → Represents d size image
    → device size image ≡ Ok (mounted_on d image)
device_stands d size image is =
    let r = is.read in
    let a = (phase_at r.mark).has_a in
    let b = (phase_at r.mark).has_b in
    let has = has_images size r image is.reads in
    let seen : r.control ≡ control_seen a b d.control =
    control_is_seen a b image d.control r.control is.reads.control is.control in
    let left : control_on (record (kept r) { control = d.control }) ≡ control_seen a b d.control =
    (λ i. control_seen (has.a i) (has.b i) d.control) in
    let right : control_on (kept r) ≡ control_seen a b d.control =
    (λ i. control_seen (has.a i) (has.b i) (seen i)) ∙ seen_again a b d.control in
    device_of size r image is.reads
    ∙ ap Ok (sym (with_seen r d.control image (left ∙ sym right)))
    ∙ ap (λ (k : Device). Ok (mounted_on k image)) (sym is.is)
