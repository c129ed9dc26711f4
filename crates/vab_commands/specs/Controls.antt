-- The boot controls that commands leave, one behind the other.
use Rattle.std.specs.Prelude.{ℕ, ◌==◌, if◌then◌else◌, List, [], ◌∷◌, Bool, true}
use Rattle.vab_bootctl.specs.declared.slots.Control.{Control}
use Rattle.vab_bootctl.specs.Boot.{activated_of, booted_of, marked_of}
use Rattle.vab_layout.specs.Slots.{other_slot}
use Rattle.vab_install.specs.Control.{cleared_of}
use Rattle.vab_model.specs.Commands.{Command, SetActive, Boot, Mark, Begin}
use Rattle.vab_model.specs.Commands.{Finish, Factory}
use Rattle.vab_manager.specs.Controls.{IsControl}

-- A slot has images where both have, or where it is the source, the mark's slot.
abbrev pub has_images : (both : Bool) → (source slot : ℕ) → Bool
has_images both source slot = if both then true else source == slot

-- The boot control after a command that is done, where the slots a and b have images or not: that
-- of the boot rules, and with nothing said of the slot that isn't the source where an update begins
-- and where its installation ends.
abbrev pub control_by : (source : ℕ) → (a b : Bool) → Command → Control → Control
control_by source a b (SetActive slot) c =
    if (if slot == 0 then a else b) then activated_of c slot else c
control_by source a b Boot c = booted_of c (a ∷ b ∷ [])
control_by source a b Mark c = marked_of c
control_by source a b Begin c = cleared_of c (other_slot source)
control_by source a b Factory c = cleared_of c (other_slot source)
control_by source a b Finish c = cleared_of c (other_slot source)
control_by source a b _ c = c

-- a command, the slot of the mark before it, and whether both slots have images then
pub record Step : Type 0 where
  pub source : ℕ
  pub both : Bool
  pub command : Command

-- the boot control after one of them, and after some, one behind the other
abbrev pub control_at : Step → Control → Control
control_at s c =
    control_by s.source (has_images s.both s.source 0) (has_images s.both s.source 1) s.command c

abbrev pub controls_by : List Step → Control → Control
controls_by [] c = c
controls_by (s ∷ steps) c = controls_by steps (control_at s c)

-- each of them is of such a slot
abbrev pub AreOf : (ℕ → Type 0) → List Step → Type 0
AreOf Of [] = Unit {0}
AreOf Of (s ∷ steps) = Of s.source × AreOf Of steps

-- What commands may write into boot control's sector, one behind the other: a boot control that
-- some of them make of the old one, of both slots, where the mark's slot is such a one before each.
pub record IsOfControls (Of : ℕ → Type 0) (c : Control) (old : List ℕ) (s : ℕ) (bytes : List ℕ)
    : Type 0 where
  pub steps : List Step
  pub of : AreOf Of steps
  pub writes : IsControl (controls_by steps c) old s bytes
