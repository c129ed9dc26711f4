-- What a repair of a table leaves of the device that was read.
use Rattle.std.proofs.Common.{◌≡◌, ◌≢◌, ◌∙◌, inl, inr, ℕ, ◌≤◌, ◌<◌, true, false, List, [], ◌∷◌}
use Rattle.std.proofs.Common.{length, Result, Ok, Err, refl, sym, ap, subst, arith}
use Rattle.std.specs.Prelude.{Bool, Option, Some, None, is_some, IfSome, OnOk, if◌then◌else◌}
use Rattle.vab_disk.specs.Disk.{Image, Outcome}
use Rattle.vab_disk.specs.Calls.{SameBut}
use Rattle.vab_bootctl.specs.Control.{control_of}
use Rattle.vab_marks.specs.declared.mark.UpdateMark.{UpdateMark}
use Rattle.vab_geometry.specs.declared.geometry.Geometry.{Geometry}
use Rattle.vab_geometry.specs.Geometry.{IsGeometry}
use Rattle.vab_tables.specs.Text.{IsTableText}
use Rattle.vab_lpstore.specs.declared.loaded.Loaded.{Loaded}
use Rattle.vab_lpstore.specs.Layout.{copy_sectors, primary_of, backup_of, primary_bytes}
use Rattle.vab_lpstore.specs.Layout.{backup_bytes, text_sectors, BothHold, Begins}
use Rattle.vab_lpstore.specs.Loading.{slot_table, IsLoaded}
use Rattle.vab_lpstore.specs.Storing.{IsOfRepair, SameElsewhere, LeavesTable}
use Rattle.vab_lpstore.proofs.StoreLaws.{loaded_table, both_table, text_fits, repair_elsewhere}
use Rattle.vab_layout.specs.Slots.{other_slot}
use Rattle.vab_device.specs.declared.device.Device.{Device}
use Rattle.vab_device.specs.Kept.{reads_both, IsDevice}
use Rattle.vab_device.specs.Phases.{phase_at}
use Rattle.vab_device.specs.Reading.{Read, device, Reads, AgreeCopies, RepresentsUnder, SameRead}
use Rattle.vab_device.specs.Reading.{version_at}
use Rattle.vab_marks.specs.Version.{version_in}
use Rattle.vab_device.proofs.ReadingLaws.{device_same, reads_kept}
use Rattle.vab_device.proofs.RepairLaws.{repair_same, primary_kept, backup_kept}
use Rattle.vab_recover.specs.declared.table.Tables.{Tables}
use Rattle.vab_recover.specs.Opened.{read_of, target_tables}
use Rattle.vab_recover.specs.Repairs.{IsLoadedAt}
use Rattle.vab_recover.specs.Opened.{tables_of, with_tables, IsOpened}
use Rattle.vab_tidy.specs.Stays.{LeavesSame}
use Rattle.vab_recover.specs.Repairs.{IsOneOf}
use Rattle.vab_recover.specs.Repairs.{IsRepair}
use Rattle.vab_recover.specs.Opened.{IsTableThere, AreTablesThere}
use Rattle.vab_recover.specs.Repairs.{BothCopiesHold}
use Rattle.vab_recover.proofs.FrameLaws.{tables_split}

-- the table that was loaded is the slot's
pub loaded_is : (g : Geometry) (slot : ℕ) (l : Loaded) (image : Image)
    → IsLoadedAt g slot image l
    → slot_table g slot image ≡ Ok l.table
unfolding slot_table
loaded_is g slot l image is =
    loaded_table g.max (primary_bytes g slot image) (backup_bytes g slot image) l is

abbrev pub sectors_in : Loaded → ℕ
sectors_in l = text_sectors (length l.text)

-- ---- one table

module _
    (size : ℕ) (r : Read) (k : ℕ) (l : Loaded) (old : Image)
    (geometry : IsGeometry r.geometry) (slot : r.mark.slot < 2) (below : k < 2)
    (fits : length l.text ≤ r.geometry.max)
    (reads : Reads size r old)
    (loaded : IsLoadedAt r.geometry k old l) where
  -- an image whose copies alone differ, and whose table is the loaded one, is read the same
  pub same_read : (new : Image)
      → SameElsewhere r.geometry k (sectors_in l) old new
      → slot_table r.geometry k new ≡ Ok l.table
      → SameRead size r old new
  same_read new others table =
      repair_same size (sectors_in l) k r old new geometry slot below
      (text_fits r.geometry (length l.text) geometry fits) reads others
      (table ∙ sym (loaded_is r.geometry k l old loaded))

  pub leaves_same : (told : List ℕ) (o : Outcome)
      → LeavesTable told r.geometry k (sectors_in l) old l.table o
      → LeavesSame told size old o
  leaves_same told o leaves = record {
    told_so_far = leaves.told_so_far;
    same =
        device_same size r old o.image reads (same_read o.image leaves.others leaves.table);
  }

  -- what the repair wrote is of the copy that didn't hold the text
  pub repair_is : IsOneOf k (phase_at r.mark).tables
      → (s : ℕ) (b : List ℕ)
      → IsOfRepair l.primary l.backup r.geometry k l.text s b
      → IsRepair size old s b
  repair_is is_read s b writes = record {
    read = r;
    reads = reads;
    slot = k;
    is_read = is_read;
    table = l;
    loaded = loaded;
    writes = writes;
  }

  -- where both copies hold it, the flags say so
  pub both_flags : IsOneOf k (phase_at r.mark).tables
      → BothCopiesHold size old
      → (l.primary ≡ true) × (l.backup ≡ true)
  both_flags is_read hold =
      let both = hold r k l reads is_read loaded in
      (loaded.in_primary.1 both.primary, loaded.in_backup.1 both.backup)

  pub repaired_same : (new : Image)
      → SameElsewhere r.geometry k (sectors_in l) old new
      → BothHold r.geometry k l.text new
      → SameRead size r old new
  repaired_same new others both =
      same_read new others (both_table r.geometry k l.text l.table new both loaded.text)

-- ---- the other table

module _
    (g : Geometry) (j k n : ℕ) (old new : Image)
    (two : 2 ≤ g.slots) (j_below : j < 2) (k_below : k < 2)
    (other : j ≢ k)
    (fits : n ≤ copy_sectors g)
    (others : SameElsewhere g k n old new) where
  pub other_loaded : (l : Loaded) → IsLoadedAt g j old l → IsLoadedAt g j new l
  other_loaded l is =
      let primary = primary_kept g j k n old new two j_below k_below other fits others in
      let backup = backup_kept g j k n old new two j_below k_below other fits others in
      subst (λ (p : List ℕ). IsLoaded g.max p (backup_bytes g j new) l) (sym primary)
      (subst (λ (b : List ℕ). IsLoaded g.max (primary_bytes g j old) b l) (sym backup) is)

  pub other_holds : (text : List ℕ) → BothHold g j text old → BothHold g j text new
  other_holds text both =
      let primary = primary_kept g j k n old new two j_below k_below other fits others in
      let backup = backup_kept g j k n old new two j_below k_below other fits others in
      record {
        primary = subst (λ (p : List ℕ). Begins p text) (sym primary) both.primary;
        backup = subst (λ (p : List ℕ). Begins p text) (sym backup) both.backup;
      }

-- ---- the copies of both tables

abbrev pub Holds : Geometry → ℕ → Image → Loaded → Type 0
Holds g slot image l = IsTableText g.max l.text l.table × BothHold g slot l.text image

by_target : (g : Geometry) (other : ℕ) (image : Image) (target : Option Loaded) (b : Bool)
    → is_some target ≡ b
    → IfSome target (Holds g other image)
    → AgreeCopies g (if b then other ∷ [] else []) (target_tables target) image
by_target g other image None true is holds = absurd (let no : false ≡ true = is in cc)
by_target g other image None false is holds = tt
by_target g other image (Some l) true is holds = ((l.text, holds.0, holds.1), tt)
by_target g other image (Some l) false is holds = absurd (let no : true ≡ false = is in cc)

pub copies_agree : (g : Geometry) (m : UpdateMark) (t : Tables) (image : Image)
    → is_some t.target ≡ reads_both m.phase
    → Holds g m.slot image t.source
    → IfSome t.target (Holds g (other_slot m.slot) image)
    → AgreeCopies g (phase_at m).tables (tables_of t) image
copies_agree g m t image is source target =
    subst (λ (slots : List ℕ). AgreeCopies g slots (tables_of t) image) (sym (tables_split m)) (
      (t.source.text, source.0, source.1),
      by_target g (other_slot m.slot) image t.target (reads_both m.phase) is target,
    )

-- the slots whose tables are read
pub source_read : (m : UpdateMark) → IsOneOf m.slot (phase_at m).tables
source_read m = subst (IsOneOf m.slot) (sym (tables_split m)) (inl refl)

pub target_read : (m : UpdateMark)
    → reads_both m.phase ≡ true
    → IsOneOf (other_slot m.slot) (phase_at m).tables
target_read m is =
    subst (IsOneOf (other_slot m.slot)) (sym (tables_split m)) (inr (rw is (inl refl)))

-- ---- the device

some_at : (x : Option Loaded) (l : Loaded) (P : Loaded → Type 0) → x ≡ Some l → IfSome x P → P l
some_at x l P is p = subst (λ (y : Option Loaded). IfSome y P) is p

-- the boot control lies before both copies
pub control_stays : (g : Geometry) (slot n : ℕ) (old new : Image)
    → SameElsewhere g slot n old new
    → new 4 ≡ old 4
unfolding primary_of backup_of
control_stays g slot n old new others = others 4 (inl (omega arith)) (inl (omega arith))

-- so does the mark
pub front_stays : (g : Geometry) (slot n : ℕ) (old new : Image)
    → SameElsewhere g slot n old new
    → new 2048 ≡ old 2048
unfolding primary_of backup_of
front_stays g slot n old new others = others 2048 (inl (omega arith)) (inl (omega arith))

pub on_ok : {A E : Type 0} (P Q : Type 0) (r : Result A E) → (P → Q) → OnOk r P → OnOk r Q
on_ok P Q (Ok x) f p = f p
on_ok P Q (Err e) f p = p

module _
    (d : Device) (t : Tables) (size : ℕ) (old : Image)
    (kept : IsDevice (with_tables t d) size)
    (there : AreTablesThere d.tail.super_end d.geometry d.mark t)
    (opened : IsOpened d t size old) where
  abbrev read : Read
  read = read_of d.mark opened.statuses d.control d.tail d.geometry (tables_of t) opened.scanned

  pub source_repair : (s : ℕ) (b : List ℕ)
      → IsOfRepair t.source.primary t.source.backup d.geometry d.mark.slot t.source.text s b
      → IsRepair size old s b
  source_repair s b writes =
      repair_is size read
      d.mark.slot t.source old kept.geometry kept.slot kept.slot there.source.fits opened.reads
      opened.loaded.source (source_read d.mark) s b writes

  pub source_flags : BothCopiesHold size old
      → (t.source.primary ≡ true) × (t.source.backup ≡ true)
  source_flags hold =
      both_flags size read
      d.mark.slot t.source old kept.geometry kept.slot kept.slot there.source.fits opened.reads
      opened.loaded.source (source_read d.mark) hold

  pub source_leaves : (told : List ℕ) (o : Outcome)
      → LeavesTable told d.geometry d.mark.slot (sectors_in t.source) old t.source.table o
      → LeavesSame told size old o
  source_leaves told o leaves =
      leaves_same size read
      d.mark.slot t.source old kept.geometry kept.slot kept.slot there.source.fits opened.reads
      opened.loaded.source told o leaves

  installing : (l : Loaded) → t.target ≡ Some l → reads_both d.mark.phase ≡ true
  installing l is = sym there.both ∙ ap is_some is

  pub target_repair : (l : Loaded)
      → t.target ≡ Some l
      → (s : ℕ) (b : List ℕ)
      → IsOfRepair l.primary l.backup d.geometry (other_slot d.mark.slot) l.text s b
      → IsRepair size old s b
  target_repair l is s b writes =
      repair_is size read
      (other_slot d.mark.slot) l old kept.geometry kept.slot (omega arith)
      (some_at t.target l (IsTableThere d.tail.super_end d.geometry) is there.target).fits
      opened.reads
      (some_at t.target l (IsLoadedAt d.geometry (other_slot d.mark.slot) old) is
      opened.loaded.target)
      (target_read d.mark (installing l is)) s b writes

  pub target_flags : (l : Loaded)
      → t.target ≡ Some l
      → BothCopiesHold size old
      → (l.primary ≡ true) × (l.backup ≡ true)
  target_flags l is hold =
      both_flags size read
      (other_slot d.mark.slot) l old kept.geometry kept.slot (omega arith)
      (some_at t.target l (IsTableThere d.tail.super_end d.geometry) is there.target).fits
      opened.reads
      (some_at t.target l (IsLoadedAt d.geometry (other_slot d.mark.slot) old) is
      opened.loaded.target)
      (target_read d.mark (installing l is)) hold

  -- ---- the source's table is repaired

  module _
      (mid : Image)
      (but : SameBut (IsOfRepair t.source.primary t.source.backup d.geometry d.mark.slot
      t.source.text) old mid)
      (held : BothHold d.geometry d.mark.slot t.source.text mid) where
    others : SameElsewhere d.geometry d.mark.slot (sectors_in t.source) old mid
    others =
        repair_elsewhere t.source.primary t.source.backup d.geometry d.mark.slot t.source.text old
        mid but

    mid_same : SameRead size read old mid
    mid_same =
        repaired_same size read
        d.mark.slot t.source old kept.geometry kept.slot kept.slot there.source.fits opened.reads
        opened.loaded.source mid others held

    pub mid_means : device size mid ≡ device size old
    mid_means =
        device_same size read old mid
        opened.reads mid_same

    mid_reads : Reads size read mid
    mid_reads =
        reads_kept size read old mid
        opened.reads mid_same

    mid_control : control_of (mid 4) ≡ Ok d.control
    mid_control =
        ap control_of (control_stays d.geometry d.mark.slot (sectors_in t.source) old mid others)
        ∙ opened.control

    mid_version : version_at mid ≡ version_at old
    mid_version =
        ap version_in (front_stays d.geometry d.mark.slot (sectors_in t.source) old mid others)

    pub mid_represents : t.target ≡ None
        → RepresentsUnder (version_at old) (with_tables t d) size mid
    mid_represents none = record {
      read = read;
      reads = mid_reads;
      is = opened.is;
      control = mid_control;
      copies = copies_agree d.geometry d.mark t mid there.both (there.source.text, held)
          (subst (λ (y : Option Loaded). IfSome y (Holds d.geometry (other_slot d.mark.slot) mid))
          (sym none) tt);
      version = mid_version;
    }

    -- ---- and then the target's

    module _ (l : Loaded) (is : t.target ≡ Some l) where
      apart : d.mark.slot ≢ other_slot d.mark.slot
      apart e = omega (arith, e, kept.slot)

      apart_too : other_slot d.mark.slot ≢ d.mark.slot
      apart_too e = omega (arith, e, kept.slot)

      l_there : IsTableThere d.tail.super_end d.geometry l
      l_there = some_at t.target l (IsTableThere d.tail.super_end d.geometry) is there.target

      pub mid_loaded : IsLoadedAt d.geometry (other_slot d.mark.slot) mid l
      mid_loaded =
          other_loaded d.geometry (other_slot d.mark.slot) d.mark.slot (sectors_in t.source) old mid
          kept.geometry.two (omega arith) kept.slot apart_too
          (text_fits d.geometry (length t.source.text) kept.geometry there.source.fits) others l
          (some_at t.target l (IsLoadedAt d.geometry (other_slot d.mark.slot) old) is
          opened.loaded.target)

      pub target_leaves : (told : List ℕ) (o : Outcome)
          → LeavesTable told d.geometry (other_slot d.mark.slot) (sectors_in l) mid l.table o
          → LeavesSame told size old o
      target_leaves told o leaves =
          let same = leaves_same size read
          (other_slot d.mark.slot) l mid kept.geometry kept.slot (omega arith) l_there.fits
          mid_reads
          mid_loaded told o leaves in
          record { told_so_far = same.told_so_far; same = same.same ∙ mid_means }

      module _
          (new : Image)
          (but_too : SameBut (IsOfRepair l.primary l.backup d.geometry (other_slot d.mark.slot)
          l.text) mid new)
          (held_too : BothHold d.geometry (other_slot d.mark.slot) l.text new) where
        others_too : SameElsewhere d.geometry (other_slot d.mark.slot) (sectors_in l) mid new
        others_too =
            repair_elsewhere l.primary l.backup d.geometry (other_slot d.mark.slot) l.text mid new
            but_too

        new_same : SameRead size read mid new
        new_same =
            repaired_same size read
            (other_slot d.mark.slot) l mid kept.geometry kept.slot (omega arith) l_there.fits
            mid_reads mid_loaded new others_too held_too

        pub new_means : device size new ≡ device size old
        new_means =
            device_same size read mid new
            mid_reads new_same
            ∙ mid_means

        source_holds : BothHold d.geometry d.mark.slot t.source.text new
        source_holds =
            let fits = text_fits d.geometry (length l.text) kept.geometry l_there.fits in
            other_holds d.geometry d.mark.slot (other_slot d.mark.slot) (sectors_in l) mid new
            kept.geometry.two kept.slot (omega arith) apart fits others_too t.source.text held

        pub new_represents : RepresentsUnder (version_at old) (with_tables t d) size new
        new_represents = record {
          read = read;
          reads =
              reads_kept size read mid
              new mid_reads new_same;
          is = opened.is;
          control =
              ap control_of
              (control_stays d.geometry (other_slot d.mark.slot) (sectors_in l) mid new others_too)
              ∙ mid_control;
          copies =
              copies_agree d.geometry d.mark t new there.both (there.source.text, source_holds)
              (subst (λ (y : Option Loaded).
              IfSome y (Holds d.geometry (other_slot d.mark.slot) new))
              (sym is) (l_there.text, held_too));
          version =
              ap version_in
              (front_stays d.geometry (other_slot d.mark.slot) (sectors_in l) mid new others_too)
              ∙ mid_version;
        }
