-- Which images a slot has after a command: those of its plan from the end of an installation on,
-- and the same ones else, but where it is wiped.
use Rattle.std.specs.Prelude.{◌≡◌, ◌⊎◌, ℕ, false, List, map, Some, None}
use Rattle.std.specs.Prelude.{Option, All}
use Rattle.vab_layout.specs.Slots.{other_slot}
use Rattle.vab_model.specs.declared.state.Phase.TheVariants.{Idle, Installing, Staged}
use Rattle.vab_model.specs.declared.state.PlanEntry.{PlanEntry}
use Rattle.vab_model.specs.declared.state.Plan.{Plan}
use Rattle.vab_model.specs.declared.state.PlanImage.{PlanImage}
use Rattle.vab_model.specs.declared.state.PlanImage.TheVariants.{Kept, Declared, Written}
use Rattle.vab_model.specs.declared.command.Reply.TheVariants as replies
use Rattle.vab_model.specs.Commands.{Command, Finish, Cancel}
use Rattle.vab_model.specs.Kinds.{changes_images}
use Rattle.vab_model.specs.Effects.{after_of, IsOneOf}
use Rattle.vab_model.specs.State.{images_at}
use Rattle.vab_model.specs.Machine.{exceptions_in}
use Rattle.vab_device.specs.Mounted.{Mounted}
use Rattle.vab_device.specs.Updates.{effect_on, final_image}

-- ---- the end of an installation

-- it is kept or written
abbrev pub IsReady : PlanImage → Type 0
IsReady Kept = Unit {0}
IsReady Declared = ⊥
IsReady (Written bytes count) = Unit {0}

-- An installation has ended: each partition of the plan is the source's image or what was written,
-- these are the target's images, and the source has its own.
pub record Finishes (m next : Mounted) : Type 0 where
  pub source : ℕ
  pub plan : Plan
  pub was : m.state.phase ≡ Installing source plan
  pub ready : All (λ (e : PlanEntry). IsReady e.image) plan.entries
  pub staged : next.state.phase ≡ Staged source (exceptions_in plan.entries)
  pub target : images_at next.state (other_slot source)
      ≡ Some (map (final_image m.state source) plan.entries)
  pub kept : images_at next.state source ≡ images_at m.state source

abbrev pub FinishedIsPlan : Type 0
FinishedIsPlan = (m : Mounted) (staged : Option (List ℕ))
    → (effect_on m staged Finish).reply ≡ replies.Done
    → Finishes m (after_of m (effect_on m staged Finish))

-- ---- an update that is cancelled

-- There is no update from this source any more: the target has no images, and the source its own.
pub record Cancels (source : ℕ) (m next : Mounted) : Type 0 where
  pub idle : next.state.phase ≡ Idle
  pub target : images_at next.state (other_slot source) ≡ None
  pub kept : images_at next.state source ≡ images_at m.state source

abbrev pub CancelDropsTarget : Type 0
CancelDropsTarget = (m : Mounted) (staged : Option (List ℕ)) (source : ℕ)
    → ((plan : Plan) × (m.state.phase ≡ Installing source plan))
    ⊎ ((left : ℕ) × (m.state.phase ≡ Staged source left))
    → (effect_on m staged Cancel).reply ≡ replies.Done
    → Cancels source m (after_of m (effect_on m staged Cancel))

-- ---- the other commands

-- Each slot has the images that it had.
pub record SameImages (m next : Mounted) : Type 0 where
  pub a : next.state.a ≡ m.state.a
  pub b : next.state.b ≡ m.state.b

-- All commands but four leave the images of both slots, at each step.
abbrev pub OthersKeepImages : Type 0
OthersKeepImages = (m next : Mounted) (staged : Option (List ℕ)) (c : Command)
    → changes_images c ≡ false
    → IsOneOf (effect_on m staged c).later next
    → SameImages m next
