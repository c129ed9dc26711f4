use Rattle.std.proofs.Common.{◌≡◌, ℕ, List, length, Result, Ok, Err, sym, ◌∙◌}
use Rattle.std.specs.Prelude.{IfOk}
use Rattle.vab_bytes.specs.Number.{IsBytes}
use Rattle.vab_marks.specs.declared.mark.UpdateMark.{UpdateMark}
use Rattle.vab_marks.specs.declared.sector.MarkFault.{MarkFault}
use Rattle.vab_marks.specs.Version.{version_in}
use Rattle.vab_marks.specs.Mark.{FitsMark, mark_under, mark_of}
use Rattle.vab_marks.proofs.MarkLaws.{found_mark, read_mark}
use Rattle.vab_marks.proofs.mark.decode_mark.Goals as goal

found : (bytes : List ℕ) (r : Result UpdateMark MarkFault)
    → length bytes ≡ 512
    → IsBytes bytes
    → r ≡ mark_of bytes
    → IfOk r (λ m. FitsMark m × (bytes ≡ mark_under (version_in bytes) m))
found bytes (Ok m) len are h = found_mark bytes m len are (sym h)
found bytes (Err e) len are h = tt

pub returns-clause-found : goal.returns-clause-found
returns-clause-found c = found c.args.bytes.now c.mark_in.result c.told-bytes c.fits-bytes
    c.mark_in.ensures

pub returns-clause-only : goal.returns-clause-only
returns-clause-only c v m fits spelled = c.mark_in.ensures
    ∙ read_mark c.args.bytes.now v m c.fits-bytes fits spelled
