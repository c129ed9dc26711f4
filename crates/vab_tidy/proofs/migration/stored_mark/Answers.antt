use Rattle.std.proofs.Common.{◌≡◌, ◌∙◌, Result, Ok, Err, ap, sym}
use Rattle.vab_disk.specs.Disk.{Image}
use Rattle.vab_marks.specs.declared.mark.UpdateMark.{UpdateMark}
use Rattle.vab_marks.specs.declared.sector.MarkFault.{MarkFault}
use Rattle.vab_marks.specs.Mark.{mark_of}
use Rattle.vab_device.specs.Reading.{mark_read, mark_in}
use Rattle.vab_tidy.proofs.migration.stored_mark.Goals as goal

-- a mark that isn't read is no mark of the disk
not_read : (x : Result UpdateMark MarkFault) (m : UpdateMark) (fault : MarkFault)
    → mark_read x ≡ Ok m
    → x ≡ Err fault
    → ⊥
not_read (Ok n) m fault is bad = cc
not_read (Err e) m fault is bad = cc

no_mark : (image : Image) (m : UpdateMark) (fault : MarkFault)
    → mark_in image ≡ Ok m
    → mark_of (image 2048) ≡ Err fault
    → ⊥
unfolding mark_in
no_mark image m fault is bad = not_read (mark_of (image 2048)) m fault is bad

pub returns-in-Err-decode_mark-clause-mark : goal.returns-in-Err-decode_mark-clause-mark
returns-in-Err-decode_mark-clause-mark g c = λ t.
    absurd
    (no_mark (g.D.Disk.seen c.args.d.now) c.args.known.now c.in-Err-decode_mark.field-0
    (c.requires.mark t)
    (ap mark_of (sym (c.in-Ok.ensures.bytes t))
    ∙ sym c.decode_mark.ensures.exact
    ∙ c.in-Err-decode_mark.is))
