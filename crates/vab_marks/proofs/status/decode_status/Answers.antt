use Rattle.std.proofs.Common.{◌≡◌, ℕ, List, length, Result, Ok, Err, sym, ◌∙◌}
use Rattle.std.specs.Prelude.{IfOk}
use Rattle.vab_bytes.specs.Number.{IsBytes}
use Rattle.vab_marks.specs.declared.status.PartStatus.{PartStatus}
use Rattle.vab_marks.specs.declared.sector.MarkFault.{MarkFault}
use Rattle.vab_marks.specs.Status.{FitsStatus, status_spelling, status_of}
use Rattle.vab_marks.proofs.StatusLaws.{found_status, read_status}
use Rattle.vab_marks.proofs.status.decode_status.Goals as goal

found : (bytes : List ℕ) (r : Result PartStatus MarkFault)
    → length bytes ≡ 512
    → IsBytes bytes
    → r ≡ status_of bytes
    → IfOk r (λ m. FitsStatus m × (bytes ≡ status_spelling m))
found bytes (Ok m) len are h = found_status bytes m len are (sym h)
found bytes (Err e) len are h = tt

pub returns-clause-found : goal.returns-clause-found
returns-clause-found c = found c.args.bytes.now c.status_in.result c.told-bytes c.fits-bytes
    c.status_in.ensures

pub returns-clause-only : goal.returns-clause-only
returns-clause-only c m fits spelled = c.status_in.ensures
    ∙ read_status c.args.bytes.now m c.fits-bytes fits spelled
