-- The mark of no update in place of that of a merge that has ended: all is read as before.
use Rattle.std.proofs.Common.{◌≡◌, ◌≢◌, ◌∙◌, ℕ, ◌≤◌, [], ◌∷◌, Result, Ok, Err}
use Rattle.std.proofs.Common.{inl, refl, sym, ap, arith, true, false}
use Rattle.std.specs.Prelude.{not}
use Rattle.vab_disk.specs.Disk.{Image}
use Rattle.vab_bootctl.specs.Control.{control_of}
use Rattle.vab_marks.specs.declared.mark.MarkPhase.{MarkPhase}
use Rattle.vab_marks.specs.declared.mark.MarkPhase.TheVariants as marks
use Rattle.vab_marks.specs.declared.mark.UpdateMark.{UpdateMark}
use Rattle.vab_marks.specs.declared.sector.MarkFault.{MarkFault}
use Rattle.vab_marks.specs.declared.version.MarkVersion.TheVariants.{Two}
use Rattle.vab_marks.specs.Mark.{FlagsFit, mark_of, rephased}
use Rattle.vab_marks.specs.Version.{partitions_under}
use Rattle.vab_geometry.specs.declared.geometry.Geometry.{Geometry}
use Rattle.vab_lpstore.specs.Layout.{primary_of, backup_of}
use Rattle.vab_lpstore.specs.Storing.{SameElsewhere}
use Rattle.vab_tables.specs.declared.table.Table.{Table}
use Rattle.vab_device.specs.declared.device.Device.{Device}
use Rattle.vab_device.specs.Reading.{Read, kept, device, SameRead, Represents, mark_read, mark_in}
use Rattle.vab_device.specs.Reading.{IsOfTables, settled, version_at}
use Rattle.vab_device.proofs.Behind.{images_behind}
use Rattle.vab_device.proofs.MarkLaws.{as_phase, mark_flags}
use Rattle.vab_device.proofs.ReadingLaws.{reads_kept, device_same, read_from}
use Rattle.vab_device.proofs.SameLaws.{control_same, tail_kept, geometry_same, tables_agree}
use Rattle.vab_device.proofs.SameLaws.{images_same}
use Rattle.vab_device.proofs.StayLaws.{copy_stays, copies_from, bare_read}
use Rattle.vab_device.proofs.StoreLaws.{statuses_kept}
use Rattle.vab_tidy.specs.Tidied.{HasCompleted, is_completed}
use Rattle.vab_tidy.specs.Tidied.{says_completed}
use Rattle.vab_device.proofs.StandsLaws.{StandsIdle, read_at}

-- ---- the mark of a merge that has ended

-- what the disk was read with where a merge has ended
pub completed_is : (k m : UpdateMark) (image : Image)
    → mark_in image ≡ Ok m
    → HasCompleted k image
    → m ≡ rephased marks.Idle k
completed_is k m image read is = (read_from image (rephased marks.Completed k) m read is).1

completed_phase : (p : MarkPhase) → is_completed p ≡ true → p ≡ marks.Completed
completed_phase marks.Idle is = absurd cc
completed_phase marks.Installing is = absurd cc
completed_phase marks.Staged is = absurd cc
completed_phase marks.Merging is = absurd cc
completed_phase marks.Completed is = refl

completed_again : (k : UpdateMark)
    → FlagsFit k
    → k.phase ≡ marks.Completed
    → k ≡ rephased marks.Completed (record k { phase = settled k.phase })
completed_again k fits is =
    as_phase k marks.Completed fits refl is

says_slot : (x : Result UpdateMark MarkFault) (m : UpdateMark)
    → ((k : UpdateMark) → x ≡ Ok k → FlagsFit k × (m ≡ record k { phase = settled k.phase }))
    → says_completed x ≡ true
    → x ≡ Ok (rephased marks.Completed m)
says_slot (Ok k) m known is =
    let of = known k refl in
    ap Ok (completed_again k of.0 (completed_phase k.phase is))
    ∙ ap (λ (x : UpdateMark). Ok (rephased marks.Completed x)) (sym of.1)
says_slot (Err f) m known is = absurd cc

-- the merge that has ended is that of the slot of the mark
pub says_of : (m : UpdateMark) (image : Image)
    → mark_in image ≡ Ok m
    → says_completed (mark_of (image 2048)) ≡ true
    → HasCompleted m image
says_of m image read is =
    says_slot (mark_of (image 2048)) m
    (λ k there. (mark_flags (image 2048) k there, (read_from image k m read there).1)) is

pub says_none : (m : UpdateMark) (image : Image)
    → says_completed (mark_of (image 2048)) ≡ false
    → HasCompleted m image
    → ⊥
says_none m image not is =
    let said : true ≡ false = sym (ap says_completed is) ∙ not in
    cc

-- so is the mark of no update
pub idle_there : (m : UpdateMark) (image : Image)
    → m.physical ≡ false
    → mark_of (image 2048) ≡ Ok (rephased marks.Idle m)
    → mark_in image ≡ Ok (rephased marks.Idle m)
unfolding mark_in
idle_there m image bare is = ap mark_read is ∙ bare_read (rephased marks.Idle m) bare

-- the mark stays where copies of a table are written
pub completed_stays : (g : Geometry) (slot n : ℕ) (m : UpdateMark) (old new : Image)
    → SameElsewhere g slot n old new
    → HasCompleted m old
    → HasCompleted m new
unfolding primary_of backup_of
completed_stays g slot n m old new others has =
    let same : new 2048 ≡ old 2048 = others 2048 (inl (omega arith)) (inl (omega arith)) in
    ap mark_of same ∙ has

module _
    (d : Device) (size : ℕ) (old : Image) (t : Table)
    (st : StandsIdle d size old t)
    (image : Image)
    (elsewhere : (s : ℕ) → s ≢ 2048 → image s ≡ old s)
    (mark : mark_in image ≡ Ok (rephased marks.Idle d.mark))
    (version : version_at image ≡ Two) where
  abbrev r : Read
  r = read_at d.mark d.control d.tail d.geometry t

  behind : (s : ℕ) → 4096 ≤ s → image s ≡ old s
  behind s le = elsewhere s (λ e. omega (arith, e, le))

  of_tables : (s : ℕ) → IsOfTables d.geometry (d.mark.slot ∷ []) s → image s ≡ old s
  of_tables s there =
      elsewhere s (λ e. omega (arith, e, copies_from d.geometry (d.mark.slot ∷ []) s there))

  same_read : SameRead size (read_at d.mark d.control d.tail d.geometry t) old image
  same_read = record {
    most = omega (arith, ap partitions_under (version ∙ sym st.version));
    mark = mark ∙ sym st.reads.mark;
    statuses = statuses_kept false old image (version ∙ sym st.version)
        (λ read s is. elsewhere s (λ e. omega (arith, e, is.from)));
    control = control_same _ _ old image (elsewhere 4 (λ e. omega (arith, e)));
    tail = tail_kept d.mark.physical size old image
        (λ some. elsewhere 2113 (λ e. omega (arith, e)));
    geometry = geometry_same d.tail.super_end old image
        (elsewhere 4104 (λ e. omega (arith, e)))
        (elsewhere 4112 (λ e. omega (arith, e)));
    tables = tables_agree d.tail.super_end d.geometry (d.mark.slot ∷ []) old image of_tables;
    stores = refl;
    images_a = images_same old image (kept r).a
        (λ s is. behind s (images_behind size 4096 0 _ _ r old s st.reads (omega arith) is));
    images_b = images_same old image (kept r).b
        (λ s is. behind s (images_behind size 4096 1 _ _ r old s st.reads (omega arith) is));
    plan = refl;
    overlay = refl;
  }

  pub marked_means : device size image ≡ device size old
  marked_means =
      device_same size (read_at d.mark d.control d.tail d.geometry t) old image st.reads same_read

  pub marked_represents : Represents d size image
  marked_represents = record {
    read = read_at d.mark d.control d.tail d.geometry t;
    reads =
        reads_kept size (read_at d.mark d.control d.tail d.geometry t) old image st.reads same_read;
    is = st.is;
    control = ap control_of (elsewhere 4 (λ e. omega (arith, e))) ∙ st.control;
    copies = (
      (
        st.copies.0.0,
        st.copies.0.1,
        copy_stays d.geometry d.mark.slot st.copies.0.0 old image of_tables st.copies.0.2,
      ),
      tt,
    );
    version = version;
  }
