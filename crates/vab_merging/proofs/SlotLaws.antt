-- What is known of a kept device by its phase.
use Rattle.std.proofs.Common.{◌≡◌, ◌∙◌, ℕ, List, refl}
use Rattle.std.proofs.Common.{true}
use Rattle.std.specs.Prelude.{Some}
use Rattle.vab_marks.specs.declared.mark.MarkPhase.{MarkPhase}
use Rattle.vab_device.specs.declared.device.Part.{Part}
use Rattle.vab_device.specs.declared.device.Device.{Device}
use Rattle.vab_device.specs.Kept.{IsDevice, has_both, has_slot}
use Rattle.vab_device.proofs.PhaseCases.{some_of}

-- ---- the phase

-- ---- what is there

both_has : (p : MarkPhase) (own slot : ℕ) → has_both p ≡ true → has_slot p own slot ≡ true
both_has p own slot both = rw both refl

-- where both slots have images
pub both_of : (d : Device) (size : ℕ)
    → IsDevice d size
    → has_both d.mark.phase ≡ true
    → (a : List Part) × (b : List Part) × (d.a ≡ Some a) × (d.b ≡ Some b)
both_of d size is both =
    let a = some_of d.a (is.has_a ∙ both_has d.mark.phase d.mark.slot 0 both) in
    let b = some_of d.b (is.has_b ∙ both_has d.mark.phase d.mark.slot 1 both) in
    (a.0, b.0, a.1, b.1)
