use Rattle.std.proofs.Common.{◌≡◌, ℕ, List, length, Result, Ok, Err, sym, ◌∙◌}
use Rattle.std.specs.Prelude.{IfOk}
use Rattle.vab_bytes.specs.Number.{IsBytes}
use Rattle.vab_marks.specs.declared.physical.PhysicalSizes.{PhysicalSizes}
use Rattle.vab_marks.specs.declared.sector.MarkFault.{MarkFault}
use Rattle.vab_marks.specs.Physical.{FitsSizes, physical_spelling, physical_of}
use Rattle.vab_marks.proofs.PhysicalLaws.{found_physical, read_physical}
use Rattle.vab_marks.proofs.physical.decode_physical.Goals as goal

found : (bytes : List ℕ) (r : Result PhysicalSizes MarkFault)
    → length bytes ≡ 512
    → IsBytes bytes
    → r ≡ physical_of bytes
    → IfOk r (λ m. FitsSizes m × (bytes ≡ physical_spelling m))
found bytes (Ok m) len are h = found_physical bytes m len are (sym h)
found bytes (Err e) len are h = tt

pub returns-clause-found : goal.returns-clause-found
returns-clause-found c = found c.args.bytes.now c.physical_in.result c.told-bytes c.fits-bytes
    c.physical_in.ensures

pub returns-clause-only : goal.returns-clause-only
returns-clause-only c m fits spelled = c.physical_in.ensures
    ∙ read_physical c.args.bytes.now m c.fits-bytes fits spelled
