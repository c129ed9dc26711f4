-- What the commands of an overlay leave: the device, but for what is read over one partition.
use Rattle.std.specs.Prelude.{◌≡◌, ℕ, Bool, true, false, List, [], ◌∷◌, Option, None, All}
use Rattle.vab_model.specs.declared.state.Overlay.{Overlay as OverlayOf}
use Rattle.vab_model.specs.declared.command.Reply.TheVariants as replies
use Rattle.vab_model.specs.Commands.{Command, Overlay, OverlayWrite, OverlayDiscard}
use Rattle.vab_model.specs.Effects.{IsOneOf, steps_of, after_of}
use Rattle.vab_model.specs.Overlay.{with_overlay}
use Rattle.vab_device.specs.Mounted.{Mounted, in_state}
use Rattle.vab_device.specs.Updates.{effect_on}

abbrev pub is_of_overlay : Command → Bool
is_of_overlay (Overlay name size) = true
is_of_overlay (OverlayWrite block) = true
is_of_overlay OverlayDiscard = true
is_of_overlay _ = false

-- the device with this overlay; its images, groups, boot control and phase are as before
abbrev pub overlaid_by : Mounted → Option OverlayOf → Mounted
overlaid_by m o = in_state m (with_overlay m.state o)

-- it is the device with some overlay, or with none
pub record IsOverlaidFrom (m next : Mounted) : Type 0 where
  pub overlay : Option OverlayOf
  pub is : next ≡ overlaid_by m overlay

-- At each step of such a command.
abbrev pub StepsLeaveTheRest : Type 0
StepsLeaveTheRest = (m next : Mounted) (staged : Option (List ℕ)) (c : Command)
    → is_of_overlay c ≡ true
    → IsOneOf (steps_of m (effect_on m staged c)) next
    → IsOverlaidFrom m next

-- a command, and the bytes that are staged for it
pub record Asked : Type 0 where
  pub staged : Option (List ℕ)
  pub command : Command

abbrev pub AreOfOverlay : List Asked → Type 0
AreOfOverlay asked = All (λ a. is_of_overlay a.command ≡ true) asked

-- the device behind commands
abbrev pub after_all : Mounted → List Asked → Mounted
after_all m [] = m
after_all m (a ∷ rest) = after_all (after_of m (effect_on m a.staged a.command)) rest

-- Behind any of them.
abbrev pub OverlaysLeaveTheRest : Type 0
OverlaysLeaveTheRest = (m : Mounted) (asked : List Asked)
    → AreOfOverlay asked
    → IsOverlaidFrom m (after_all m asked)

-- Where there was no overlay before them, a discard that is done behind them gives the device back.
abbrev pub DiscardGivesBack : Type 0
DiscardGivesBack = (m : Mounted) (asked : List Asked) (staged : Option (List ℕ))
    → m.state.overlay ≡ None
    → AreOfOverlay asked
    → (effect_on (after_all m asked) staged OverlayDiscard).reply ≡ replies.Done
    → after_of (after_all m asked) (effect_on (after_all m asked) staged OverlayDiscard) ≡ m
