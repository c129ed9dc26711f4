-- A disk whose mark is zeros.
use Rattle.std.proofs.Common.{◌≡◌, ◌∙◌, ℕ, ◌≤◌, true, leb, List, Err, refl, ap}
use Rattle.std.proofs.lemmas.Bool.{le-leb}
use Rattle.vab_disk.specs.Disk.{Image}
use Rattle.vab_marks.specs.Mark.{mark_of}
use Rattle.vab_marks.proofs.MarkLaws.{zero_is_no_mark}
use Rattle.vab_copies.specs.Copies.{zeros}
use Rattle.vab_device.specs.declared.fault.StartFault.TheVariants as faults
use Rattle.vab_device.specs.Reading.{mark_read, mark_in}
use Rattle.vab_device.proofs.OpeningLaws.{device_no_mark}
use Rattle.vab_make.specs.Making.{IsNone}

blank_mark : (image : Image) → image 2048 ≡ zeros → mark_in image ≡ Err (faults.BadMark 2048)
unfolding mark_in
blank_mark image blank =
    ap (λ (b : List ℕ). mark_read (mark_of b)) blank ∙ ap mark_read (zero_is_no_mark zeros refl)

-- a disk whose mark's sector is zeros is no device
pub blank_none : (size : ℕ) (image : Image) → 4120 ≤ size → image 2048 ≡ zeros → IsNone size image
blank_none size image enough blank =
    let long : leb 4120 size ≡ true = le-leb _ _ enough in (
      faults.BadMark 2048,
      device_no_mark size image (faults.BadMark 2048) long (blank_mark image blank),
    )
