use Rattle.std.proofs.Common.{◌≡◌, ◌∙◌, ℕ, inl, inr, eqb, refl, sym, ap, eqb-true}
use Rattle.std.proofs.lemmas.Bool.{cases_Bool}
use Rattle.vab_disk.specs.Disk.{Image}
use Rattle.vab_device.specs.declared.device.Device.{Device}
use Rattle.vab_device.specs.Mounted.{state_on}
use Rattle.vab_fbvars.specs.Variables.{slot_info}
use Rattle.vab_fbvars.proofs.OnDevice.{info_on}
use Rattle.vab_fbvars.proofs.slots.slot_info.Goals as goal

pub returns-then-slot-eq0 : goal.returns-then-slot-eq0
returns-then-slot-eq0 c = λ image.
    let d = c.args.device.now in
    ap (slot_info (state_on d image)) c.if-slot-eq0.true
    ∙ info_on d image 0 ∙ sym c.slot_info.ensures

-- any other slot is b
as_b : (d : Device) (image : Image) (slot : ℕ)
    → ((slot ≡ 0) → ⊥)
    → slot_info (state_on d image) slot ≡ slot_info (state_on d image) 1
as_b d image slot other = elim (cases_Bool (eqb slot 0)) [
  | inl h ↦ absurd (other (eqb-true slot 0 h))
  | inr h ↦ rw h refl
]

pub returns-else-slot-eq0 : goal.returns-else-slot-eq0
returns-else-slot-eq0 c = λ image.
    let d = c.args.device.now in
    as_b d image c.args.slot c.if-slot-eq0.false
    ∙ info_on d image 1 ∙ sym c.slot_info-else-slot-eq0.ensures
