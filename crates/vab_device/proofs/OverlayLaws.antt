-- Where a partition is overlaid: there is no update, and the slot of the mark alone has partitions.
use Rattle.std.proofs.Common.{◌≡◌, ◌∙◌, ℕ, zero, suc, ◌<◌, refl, sym, ap, arith}
use Rattle.std.specs.Prelude.{Bool, true, false, not, ◌||◌, ◌==◌, IsTrue, is_some, Option, Some}
use Rattle.std.specs.Prelude.{None}
use Rattle.std.proofs.lemmas.Bool.{eqb-true}
use Rattle.vab_marks.specs.declared.mark.MarkPhase.{MarkPhase}
use Rattle.vab_marks.specs.declared.mark.MarkPhase.TheVariants as marks
use Rattle.vab_marks.specs.declared.mark.UpdateMark.{UpdateMark}
use Rattle.vab_marks.specs.Mark.{is_idle, FlagsFit}
use Rattle.vab_device.specs.declared.device.Part.{Part}
use Rattle.vab_device.specs.declared.device.Device.{Device}
use Rattle.vab_device.specs.Kept.{IsDevice, has_slot, parts_at}
use Rattle.vab_device.proofs.MarkLaws.{not_overlaid}

idle_only : (p : MarkPhase) (overlaid : Bool)
    → IsTrue (is_idle p || not overlaid)
    → overlaid ≡ true
    → p ≡ marks.Idle
idle_only marks.Idle overlaid fits is = refl
idle_only marks.Installing true fits is = absurd cc
idle_only marks.Installing false fits is = absurd cc
idle_only marks.Staged true fits is = absurd cc
idle_only marks.Staged false fits is = absurd cc
idle_only marks.Merging true fits is = absurd cc
idle_only marks.Merging false fits is = absurd cc
idle_only marks.Completed true fits is = absurd cc
idle_only marks.Completed false fits is = absurd cc

-- there is no update
pub overlaid_idle : (m : UpdateMark) → FlagsFit m → m.overlaid ≡ true → m.phase ≡ marks.Idle
overlaid_idle m fits is = idle_only m.phase m.overlaid fits.1 is

none_of : (o : Option Part) (b : Bool) → is_some o ≡ b → b ≡ false → o ≡ None
none_of None b some is = refl
none_of (Some p) b some is = absurd (let no : true ≡ false = some ∙ is in cc)

-- no partition is, where the mark doesn't say so
pub plain_none : (d : Device) (size : ℕ)
    → IsDevice d size
    → d.mark.overlaid ≡ false
    → d.overlay ≡ None
plain_none d size is plain = none_of d.overlay d.mark.overlaid is.overlaid plain

-- nor where there is an update
pub update_none : (d : Device) (size : ℕ)
    → IsDevice d size
    → is_idle d.mark.phase ≡ false
    → d.overlay ≡ None
update_none d size is update =
    plain_none d size is (not_overlaid d.mark is.flags update)

-- which slots have partitions
pub has_parts : (d : Device) (size slot : ℕ)
    → IsDevice d size
    → slot < 2
    → is_some (parts_at d slot) ≡ has_slot d.mark.phase d.mark.slot slot
has_parts d size zero is below = is.has_a
has_parts d size (suc zero) is below = is.has_b
has_parts d size (suc (suc n)) is below = absurd (omega (arith, below))

-- so each that has some is the slot of the mark
pub one_slot : (d : Device) (size slot : ℕ)
    → IsDevice d size
    → d.mark.overlaid ≡ true
    → slot < 2
    → is_some (parts_at d slot) ≡ true
    → parts_at d slot ≡ parts_at d d.mark.slot
one_slot d size slot is overlaid below some =
    let idle = overlaid_idle d.mark is.flags overlaid in
    let own : (d.mark.slot == slot) ≡ true =
    sym (ap (λ (p : MarkPhase). has_slot p d.mark.slot slot) idle)
    ∙ sym (has_parts d size slot is below) ∙ some in
    ap (parts_at d) (sym (eqb-true d.mark.slot slot own))
