use Rattle.std.proofs.Common.{◌≡◌, ℕ, List, length, Result, Ok, Err, sym, ◌∙◌}
use Rattle.std.specs.Prelude.{IfOk}
use Rattle.vab_bytes.specs.Number.{IsBytes}
use Rattle.vab_bootctl.specs.declared.slots.Control.{Control}
use Rattle.vab_bootctl.specs.declared.sector.ControlFault.{ControlFault}
use Rattle.vab_bootctl.specs.Control.{Fits, Represents, control_of}
use Rattle.vab_bootctl.proofs.ControlLaws.{found_control, only_control}
use Rattle.vab_bootctl.proofs.sector.decode_control.Goals as goal

found : (bytes : List ℕ) (r : Result Control ControlFault)
    → length bytes ≡ 512
    → IsBytes bytes
    → r ≡ control_of bytes
    → IfOk r (λ c. Fits c × Represents bytes c)
found bytes (Ok c) len are h = found_control bytes c len are (sym h)
found bytes (Err e) len are h = tt

pub returns-clause-found : goal.returns-clause-found
returns-clause-found c =
    found c.args.bytes.now c.control_in.result c.told-bytes c.fits-bytes c.control_in.ensures

pub returns-clause-only : goal.returns-clause-only
returns-clause-only c control fits stands =
    c.control_in.ensures ∙ only_control c.args.bytes.now control c.fits-bytes fits stands
