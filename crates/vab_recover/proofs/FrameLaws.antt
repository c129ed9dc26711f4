-- What a disk means by what was read of it in front of its stores, and the device that is kept.
use Rattle.std.proofs.Common.{◌≡◌, ◌∙◌, inl, inr, ℕ, zero, suc, ◌<◌, true, false, List, [], ◌∷◌}
use Rattle.std.proofs.Common.{Result, Ok, Err, refl, sym, ap, subst, arith}
use Rattle.std.specs.Prelude.{Bool, Option, Some, None, is_some, ◌==◌, if◌then◌else◌}
use Rattle.vab_disk.specs.Disk.{Image}
use Rattle.vab_bootctl.specs.declared.slots.Control.{Control}
use Rattle.vab_bootctl.specs.Control.{control_of}
use Rattle.vab_marks.specs.declared.mark.MarkPhase.{MarkPhase}
use Rattle.vab_marks.specs.declared.mark.MarkPhase.TheVariants as marks
use Rattle.vab_marks.specs.declared.mark.UpdateMark.{UpdateMark}
use Rattle.vab_marks.specs.declared.status.PartStatus.{PartStatus}
use Rattle.vab_statuses.specs.Statuses.{written_in}
use Rattle.vab_geometry.specs.declared.geometry.Geometry.{Geometry}
use Rattle.vab_lpstore.specs.declared.loaded.Loaded.{Loaded}
use Rattle.vab_layout.specs.Slots.{other_slot}
use Rattle.vab_device.specs.declared.fault.StartFault.{StartFault}
use Rattle.vab_device.specs.declared.device.Device.{Device}
use Rattle.vab_device.specs.declared.device.Part.{Part}
use Rattle.vab_device.specs.Checks.{first_fault, ◌>>=◌}
use Rattle.vab_device.specs.Kept.{reads_both, IsPhase}
use Rattle.vab_device.specs.Phases.{phase_in, phase_at, merging_check}
use Rattle.vab_device.specs.Reading.{Read, control_in, control_kept}
use Rattle.vab_device.specs.Reading.{whole_disk, tail_at, geometry_at, tables_in, table_for}
use Rattle.vab_device.specs.Reading.{parts_for}
use Rattle.vab_device.specs.Reading.{state_fault, stores_of, kept, device, Reads}
use Rattle.vab_device.specs.Stores.{Wanted, Scanned, scans_in}
use Rattle.vab_device.proofs.OpeningLaws.{device_no_control, device_no_tail, device_no_geometry}
use Rattle.vab_device.proofs.OpeningLaws.{device_no_tables, device_judged, device_scanned}
use Rattle.vab_device.proofs.OpeningLaws.{device_stated, reads_of, control_seen_in, or_first}
use Rattle.vab_device.proofs.ReadingLaws.{FrameReads, seen_slots}
use Rattle.vab_recover.specs.declared.frame.Frame.{Frame}
use Rattle.vab_recover.specs.declared.stores.Stored.{Stored}
use Rattle.vab_recover.specs.declared.table.Tables.{Tables}
use Rattle.vab_recover.specs.Opened.{read_of, IsMarked, IsHeaded, IsFramed, target_tables}
use Rattle.vab_recover.specs.Opened.{tables_of, slots_fault, slot_parts, planned_by}
use Rattle.vab_recover.specs.Opened.{reads_statuses, through_of, through_slot, overlay_by}
use Rattle.vab_recover.specs.Opened.{target_slots, fault_of, stores_at, plan_by, IsAssembled}
use Rattle.vab_recover.specs.Opened.{with_tables, table_if, IsOpened, AreLoaded, both_of}
use Rattle.vab_recover.specs.Opened.{ends_at}
use Rattle.vab_physical.specs.declared.tail.Tail.{Tail}
use Rattle.vab_marks.specs.Version.{partitions_under}
use Rattle.vab_device.specs.Reading.{part_fault, most_at}
use Rattle.vab_marks.specs.declared.version.MarkVersion.{MarkVersion}

-- ---- a phase and the tables that are read in it

pub reads_if : (m : UpdateMark) → (phase_at m).reads_statuses ≡ reads_statuses m.phase
reads_if m = by_phase m.phase
  where
    by_phase : (p : MarkPhase) → (phase_in p m).reads_statuses ≡ reads_statuses p
    by_phase marks.Idle = refl
    by_phase marks.Installing = refl
    by_phase marks.Staged = refl
    by_phase marks.Merging = refl
    by_phase marks.Completed = refl

pub tables_split : (m : UpdateMark)
    → (phase_at m).tables ≡ m.slot ∷ target_slots m
tables_split m = by_phase m.phase
  where
    by_phase : (p : MarkPhase)
        → (phase_in p m).tables
        ≡ m.slot ∷ (if reads_both p then other_slot m.slot ∷ [] else [])
    by_phase marks.Idle = refl
    by_phase marks.Installing = refl
    by_phase marks.Staged = refl
    by_phase marks.Merging = refl
    by_phase marks.Completed = refl

-- what is read through stores
abbrev pub through_parts : MarkPhase → ℕ → Loaded → Option Loaded → List Scanned
    → Option (List Part)
through_parts phase slot s t ss = plan_by (through_slot phase slot) (through_of phase s t) ss

-- this mark, in this phase and of this slot
abbrev pub mark_in_phase : UpdateMark → MarkPhase → ℕ → UpdateMark
mark_in_phase base phase slot = record base { phase = phase; slot = slot }

-- what the phase makes of the tables that were read, and of the stores
pub record IsOfPhase
    (base : UpdateMark)
    (phase : MarkPhase)
    (slot : ℕ)
    (s : Loaded)
    (t : Option Loaded) : Type 0 where
  pub parts : (most : ℕ)
      → first_fault ((phase_at (mark_in_phase base phase slot)).part_checks most
      (s.table ∷ target_tables t))
      ≡ fault_of most (mark_in_phase base phase slot) s.table t
  pub stores : (sts : List PartStatus)
      → (phase_at (mark_in_phase base phase slot)).stores (s.table ∷ target_tables t) sts
      ≡ stores_at (mark_in_phase base phase slot) s t sts
  pub state : (c : Control) (ss : List Scanned)
      → first_fault
      ((phase_at (mark_in_phase base phase slot)).state_checks
      (control_kept (mark_in_phase base phase slot) c)
      (s.table ∷ target_tables t) ss)
      ≡ slots_fault (mark_in_phase base phase slot) c (through_parts phase slot s t ss)
  pub plan : (ss : List Scanned)
      → planned_by phase (through_parts phase slot s t ss)
      ≡ (phase_at (mark_in_phase base phase slot)).plan (s.table ∷ target_tables t) ss
  pub overlay : (ss : List Scanned)
      → overlay_by (mark_in_phase base phase slot) s.table ss
      ≡ (phase_at (mark_in_phase base phase slot)).overlay (s.table ∷ target_tables t) ss
  pub a : (ss : List Scanned)
      → slot_parts (mark_in_phase base phase slot) 0 s.table (through_parts phase slot s t ss)
      ≡ parts_for 0 (phase_at (mark_in_phase base phase slot)).has_a
      ((phase_at (mark_in_phase base phase slot)).through 0) ss
      (table_for 0 (phase_at (mark_in_phase base phase slot)).tables (s.table ∷ target_tables t))
  pub b : (ss : List Scanned)
      → slot_parts (mark_in_phase base phase slot) 1 s.table (through_parts phase slot s t ss)
      ≡ parts_for 1 (phase_at (mark_in_phase base phase slot)).has_b
      ((phase_at (mark_in_phase base phase slot)).through 1) ss
      (table_for 1 (phase_at (mark_in_phase base phase slot)).tables (s.table ∷ target_tables t))
  pub table_a : table_if (slot == 0) s.table t
      ≡ table_for 0 (phase_at (mark_in_phase base phase slot)).tables (s.table ∷ target_tables t)
  pub table_b : table_if (slot == 1) s.table t
      ≡ table_for 1 (phase_at (mark_in_phase base phase slot)).tables (s.table ∷ target_tables t)

of_phase : (base : UpdateMark) (phase : MarkPhase) (slot : ℕ) (s : Loaded) (t : Option Loaded)
    → IsPhase phase
    → slot < 2
    → is_some t ≡ reads_both phase
    → IsOfPhase base phase slot s t
of_phase base marks.Idle zero s None is below both = record {
  parts = λ most. refl;
  stores = λ sts. refl;
  state = λ c ss. refl;
  plan = λ ss. refl;
  overlay = λ ss. refl;
  a = λ ss. refl;
  b = λ ss. refl;
  table_a = refl;
  table_b = refl;
}
of_phase base marks.Idle (suc zero) s None is below both = record {
  parts = λ most. refl;
  stores = λ sts. refl;
  state = λ c ss. refl;
  plan = λ ss. refl;
  overlay = λ ss. refl;
  a = λ ss. refl;
  b = λ ss. refl;
  table_a = refl;
  table_b = refl;
}
of_phase base marks.Installing zero s (Some l) is below both = record {
  parts = λ most. refl;
  stores = λ sts. refl;
  state = λ c ss. refl;
  plan = λ ss. refl;
  overlay = λ ss. refl;
  a = λ ss. refl;
  b = λ ss. refl;
  table_a = refl;
  table_b = refl;
}
of_phase base marks.Installing (suc zero) s (Some l) is below both = record {
  parts = λ most. refl;
  stores = λ sts. refl;
  state = λ c ss. refl;
  plan = λ ss. refl;
  overlay = λ ss. refl;
  a = λ ss. refl;
  b = λ ss. refl;
  table_a = refl;
  table_b = refl;
}
of_phase base marks.Staged zero s (Some l) is below both = record {
  parts = λ most. refl;
  stores = λ sts. refl;
  state = λ c ss. refl;
  plan = λ ss. refl;
  overlay = λ ss. refl;
  a = λ ss. refl;
  b = λ ss. refl;
  table_a = refl;
  table_b = refl;
}
of_phase base marks.Staged (suc zero) s (Some l) is below both = record {
  parts = λ most. refl;
  stores = λ sts. refl;
  state = λ c ss. refl;
  plan = λ ss. refl;
  overlay = λ ss. refl;
  a = λ ss. refl;
  b = λ ss. refl;
  table_a = refl;
  table_b = refl;
}
of_phase base marks.Merging zero s None is below both = record {
  parts = λ most. or_first (merging_check most 0 s.table);
  stores = λ sts. refl;
  state = λ c ss. refl;
  plan = λ ss. refl;
  overlay = λ ss. refl;
  a = λ ss. refl;
  b = λ ss. refl;
  table_a = refl;
  table_b = refl;
}
of_phase base marks.Merging (suc zero) s None is below both = record {
  parts = λ most. or_first (merging_check most 1 s.table);
  stores = λ sts. refl;
  state = λ c ss. refl;
  plan = λ ss. refl;
  overlay = λ ss. refl;
  a = λ ss. refl;
  b = λ ss. refl;
  table_a = refl;
  table_b = refl;
}
of_phase base phase (suc (suc n)) s t is below both = absurd (omega (arith, below))
of_phase base marks.Idle zero s (Some l) is below both =
    absurd (let no : true ≡ false = both in cc)
of_phase base marks.Idle (suc zero) s (Some l) is below both =
    absurd (let no : true ≡ false = both in cc)
of_phase base marks.Installing zero s None is below both =
    absurd (let no : false ≡ true = both in cc)
of_phase base marks.Installing (suc zero) s None is below both =
    absurd (let no : false ≡ true = both in cc)
of_phase base marks.Staged zero s None is below both =
    absurd (let no : false ≡ true = both in cc)
of_phase base marks.Staged (suc zero) s None is below both =
    absurd (let no : false ≡ true = both in cc)
of_phase base marks.Merging zero s (Some l) is below both =
    absurd (let no : true ≡ false = both in cc)
of_phase base marks.Merging (suc zero) s (Some l) is below both =
    absurd (let no : true ≡ false = both in cc)
of_phase base marks.Completed slot s t is below both = absurd (no_phase is)
  where
    no_phase : IsPhase marks.Completed → ⊥
    no_phase (inl e) = absurd (let no : marks.Completed ≡ marks.Idle = e in cc)
    no_phase (inr (inl e)) = absurd (let no : marks.Completed ≡ marks.Installing = e in cc)
    no_phase (inr (inr (inl e))) = absurd (let no : marks.Completed ≡ marks.Staged = e in cc)
    no_phase (inr (inr (inr e))) = absurd (let no : marks.Completed ≡ marks.Merging = e in cc)

-- ---- a part of the frame fails

pub control_single : (m : UpdateMark) (image : Image) (c : Control)
    → control_of (image 4) ≡ Ok c
    → control_in (phase_at m).has_a (phase_at m).has_b image
    ≡ Ok (control_kept m c)
control_single m image c is =
    let r : Read = record {
      mark = m;
      statuses = [];
      control = c;
      tail = whole_disk 0;
      geometry = record { max = 0; slots = 0 };
      tables = [];
      scanned = [];
    } in
    control_seen_in (phase_at m).has_a (phase_at m).has_b image c is
    ∙ ap Ok (seen_slots r c)

pub no_control : (size : ℕ) (image : Image) (m : UpdateMark) (v : MarkVersion)
    (ss : List (Option PartStatus)) (f : StartFault)
    → IsMarked size image m v ss
    → ((a b : Bool) → control_in a b image ≡ Err f)
    → device size image ≡ Err f
no_control size image m v ss f marked bad =
    device_no_control size image m ss f marked.enough marked.mark marked.statuses
    (bad (phase_at m).has_a (phase_at m).has_b)

-- `super` has no end, or its geometry is bad
pub no_ends : (size : ℕ) (image : Image) (m : UpdateMark) (v : MarkVersion)
    (ss : List (Option PartStatus)) (c : Control) (f : StartFault)
    → IsMarked size image m v ss
    → control_of (image 4) ≡ Ok c
    → ends_at m.physical size image ≡ Err f
    → device size image ≡ Err f
no_ends size image m v ss c f marked control bad =
    by_tail (tail_at m.physical size image) refl bad
  where
    control_is : control_in (phase_at m).has_a (phase_at m).has_b image ≡ Ok (control_kept m c)
    control_is = control_single m image c control

    by_geometry : (tail : Tail) (x : Result Geometry StartFault)
        → tail_at m.physical size image ≡ Ok tail
        → geometry_at tail.super_end image ≡ x
        → (x >>= both_of tail) ≡ Err f
        → device size image ≡ Err f
    by_geometry tail (Ok g) ends geometry bad =
        absurd (let no : both_of tail g ≡ Err f = bad in cc)
    by_geometry tail (Err h) ends geometry bad =
        let both : (let x : Result (Tail × Geometry) StartFault = Err h in x ≡ Err f) = bad in
        let same : h ≡ f = cc in
        device_no_geometry size image m ss (control_kept m c) tail f marked.enough marked.mark
        marked.statuses control_is ends (geometry ∙ ap Err same)

    by_tail : (x : Result Tail StartFault)
        → tail_at m.physical size image ≡ x
        → (x >>= λ tail. geometry_at tail.super_end image >>= both_of tail) ≡ Err f
        → device size image ≡ Err f
    by_tail (Ok tail) ends bad =
        by_geometry tail (geometry_at tail.super_end image) ends refl bad
    by_tail (Err h) ends bad =
        let both : (let x : Result (Tail × Geometry) StartFault = Err h in x ≡ Err f) = bad in
        let same : h ≡ f = cc in
        device_no_tail size image m ss (control_kept m c) f marked.enough marked.mark
        marked.statuses control_is (ends ∙ ap Err same)

pub no_tables : (size : ℕ) (image : Image) (m : UpdateMark) (v : MarkVersion)
    (ss : List (Option PartStatus)) (c : Control) (tail : Tail) (g : Geometry) (f : StartFault)
    → IsHeaded size image m v ss c tail g
    → tables_in tail.super_end g (phase_at m).tables image ≡ Err f
    → device size image ≡ Err f
no_tables size image m v ss c tail g f headed bad =
    device_no_tables size image m ss (control_kept m c) tail g f headed.marked.enough
    headed.marked.mark headed.marked.statuses (control_single m image c headed.control)
    headed.ends headed.geometry bad

-- ---- behind the frame

-- the stores that are read
abbrev pub stores_for : Frame → List PartStatus → List (Result Wanted StartFault)
stores_for f sts = stores_at f.heads.mark f.tables.source f.tables.target sts

module _
    (size : ℕ) (image : Image) (f : Frame)
    (framed : IsFramed size image f)
    (phase : IsPhase f.heads.mark.phase)
    (below : f.heads.mark.slot < 2)
    (both : is_some f.tables.target ≡ reads_both f.heads.mark.phase) where
  abbrev m : UpdateMark
  m = f.heads.mark

  abbrev ss : List (Option PartStatus)
  ss = f.heads.statuses.items

  abbrev first : Read
  first = read_of f.heads.mark f.heads.statuses.items f.heads.control f.heads.tail
      f.heads.geometry (tables_of f.tables) []

  pub is_of : IsOfPhase f.heads.mark f.heads.mark.phase f.heads.mark.slot f.tables.source
      f.tables.target
  is_of =
      of_phase f.heads.mark f.heads.mark.phase f.heads.mark.slot f.tables.source f.tables.target
      phase below both

  frame_reads : FrameReads size image first
  frame_reads = record {
    enough = framed.heads.marked.enough;
    mark = framed.heads.marked.mark;
    statuses = framed.heads.marked.statuses;
    control = control_single m image f.heads.control framed.heads.control;
    tail = framed.heads.ends;
    geometry = framed.heads.geometry;
    tables = framed.tables;
  }

  state_is : (scanned : List Scanned) (x : Option StartFault)
      → slots_fault f.heads.mark f.heads.control
      (through_parts f.heads.mark.phase f.heads.mark.slot f.tables.source f.tables.target scanned)
      ≡ x
      → state_fault (record first { scanned = scanned }) ≡ x
  state_is scanned x is = is_of.state f.heads.control scanned ∙ is

  -- of the disk's version
  parts_as : (x : Option StartFault)
      → fault_of (partitions_under f.heads.version) f.heads.mark
      f.tables.source.table f.tables.target
      ≡ x
      → part_fault (most_at image) first ≡ x
  parts_as x is =
      is_of.parts (most_at image)
      ∙ ap
      (λ v.
      fault_of (partitions_under v) f.heads.mark f.tables.source.table
      f.tables.target)
      framed.heads.marked.version
      ∙ is

  pub frame_judged : (h : StartFault)
      → fault_of (partitions_under f.heads.version) f.heads.mark
      f.tables.source.table f.tables.target
      ≡ Some h
      → device size image ≡ Err h
  frame_judged h is = device_judged size first image h frame_reads (parts_as (Some h) is)

  stores_are : (x : Result (List Scanned) StartFault)
      → scans_in (stores_for f (written_in f.heads.statuses.items)) image ≡ x
      → scans_in (stores_of first) image ≡ x
  stores_are x is =
      ap (λ (ws : List (Result Wanted StartFault)). scans_in ws image)
      (is_of.stores (written_in ss)) ∙ is

  pub frame_scanned : (h : StartFault)
      → fault_of (partitions_under f.heads.version) f.heads.mark
      f.tables.source.table f.tables.target
      ≡ None
      → scans_in (stores_for f (written_in f.heads.statuses.items)) image ≡ Err h
      → device size image ≡ Err h
  frame_scanned h parts is =
      device_scanned size first image h frame_reads (parts_as None parts) (stores_are (Err h) is)

  pub frame_stated : (scanned : List Scanned) (h : StartFault)
      → fault_of (partitions_under f.heads.version) f.heads.mark
      f.tables.source.table f.tables.target
      ≡ None
      → scans_in (stores_for f (written_in f.heads.statuses.items)) image ≡ Ok scanned
      → slots_fault f.heads.mark f.heads.control
      (through_parts f.heads.mark.phase f.heads.mark.slot f.tables.source f.tables.target scanned)
      ≡ Some h
      → device size image ≡ Err h
  frame_stated scanned h parts stores is =
      device_stated size first image scanned h frame_reads (parts_as None parts)
      (stores_are (Ok scanned) stores) (state_is scanned (Some h) is)

  pub frame_read : (scanned : List Scanned)
      → fault_of (partitions_under f.heads.version) f.heads.mark
      f.tables.source.table f.tables.target
      ≡ None
      → scans_in (stores_for f (written_in f.heads.statuses.items)) image ≡ Ok scanned
      → slots_fault f.heads.mark f.heads.control
      (through_parts f.heads.mark.phase f.heads.mark.slot f.tables.source f.tables.target scanned)
      ≡ None
      → Reads size
      (read_of f.heads.mark f.heads.statuses.items f.heads.control f.heads.tail
      f.heads.geometry (tables_of f.tables) scanned)
      image
  frame_read scanned parts stores state =
      reads_of size first image scanned frame_reads (parts_as None parts)
      (stores_are (Ok scanned) stores) (state_is scanned None state)

-- the rules of the slots, of the target's partitions as they were planned
pub slots_are : (f : Frame) (target : Option (List Part)) (scanned : List Scanned)
    (x : Option StartFault)
    → target
    ≡ through_parts f.heads.mark.phase f.heads.mark.slot f.tables.source f.tables.target scanned
    → slots_fault f.heads.mark f.heads.control target ≡ x
    → slots_fault f.heads.mark f.heads.control
    (through_parts f.heads.mark.phase f.heads.mark.slot f.tables.source f.tables.target scanned)
    ≡ x
slots_are f target scanned x planned is =
    sym (ap (slots_fault f.heads.mark f.heads.control) planned) ∙ is

-- the device that is kept of a reading
pub kept_is : (d : Device) (t : Tables) (m : UpdateMark) (ss : List (Option PartStatus))
    (c : Control) (tail : Tail)
    (g : Geometry) (x : Stored) (scanned : List Scanned)
    → IsPhase m.phase
    → m.slot < 2
    → is_some t.target ≡ reads_both m.phase
    → IsAssembled d m c tail g t.source.table x
    → x.through ≡ through_parts m.phase m.slot t.source t.target scanned
    → x.overlay ≡ overlay_by m t.source.table scanned
    → with_tables t d ≡ record (kept (read_of m ss c tail g (tables_of t) scanned)) { control = c }
kept_is d t m ss c tail g x scanned phase below both is planned overlaid =
    let of = of_phase m m.phase m.slot t.source t.target phase below both in
    let a = is.a ∙ ap (slot_parts m 0 t.source.table) planned ∙ of.a scanned in
    let b = is.b ∙ ap (slot_parts m 1 t.source.table) planned ∙ of.b scanned in
    let table_a = ap (λ (x : UpdateMark). table_if (x.slot == 0) t.source.table t.target) is.mark
    ∙ of.table_a in
    let table_b = ap (λ (x : UpdateMark). table_if (x.slot == 1) t.source.table t.target) is.mark
    ∙ of.table_b in
    let plan_is =
    is.plan
    ∙ ap (planned_by m.phase) planned
    ∙ of.plan scanned in
    let overlay_is = is.overlay ∙ overlaid ∙ of.overlay scanned in
    (λ i. record {
      geometry = is.geometry i;
      control = is.control i;
      mark = is.mark i;
      tail = is.ends i;
      cap = is.cap i;
      groups = is.groups i;
      a = a i;
      b = b i;
      table_a = table_a i;
      table_b = table_b i;
      plan = plan_is i;
      overlay = overlay_is i;
    })

-- what is said of these parts is said of those of the device
pub opened_of : (d : Device) (t : Tables) (size : ℕ) (image : Image) (m : UpdateMark)
    (ss : List (Option PartStatus)) (c : Control) (tail : Tail) (g : Geometry)
    (scanned : List Scanned)
    → d.mark ≡ m
    → d.control ≡ c
    → d.tail ≡ tail
    → d.geometry ≡ g
    → Reads size (read_of m ss c tail g (tables_of t) scanned) image
    → with_tables t d
    ≡ record (kept (read_of m ss c tail g (tables_of t) scanned)) { control = c }
    → control_of (image 4) ≡ Ok c
    → AreLoaded g m.slot image t
    → IsOpened d t size image
opened_of d t size image m ss c tail g scanned is_m is_c is_tail is_g reads is control loaded =
    let P : UpdateMark → Control → Tail → Geometry → Type 0 = λ m c tail g.
    Reads size (read_of m ss c tail g (tables_of t) scanned) image
    × (with_tables t d
    ≡ record (kept (read_of m ss c tail g (tables_of t) scanned)) { control = c })
    × (control_of (image 4) ≡ Ok c)
    × AreLoaded g m.slot image t in
    let all : P d.mark d.control d.tail d.geometry =
    subst (λ (m : UpdateMark). P m d.control d.tail d.geometry) (sym is_m)
    (subst (λ (c : Control). P m c d.tail d.geometry) (sym is_c)
    (subst (λ (tail : Tail). P m c tail d.geometry) (sym is_tail)
    (subst (λ (g : Geometry). P m c tail g) (sym is_g) (reads, is, control, loaded)))) in
    record {
      statuses = ss;
      scanned = scanned;
      reads = all.0;
      is = all.1;
      control = all.2;
      loaded = all.3;
    }
