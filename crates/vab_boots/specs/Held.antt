-- What the physical partitions of a slot hold, which is a part of its images.
use Rattle.std.specs.Prelude.{◌≡◌, ◌<◌, ℕ, true, false, List, map, Option, All, is_some}
use Rattle.vab_disk.specs.Disk.{Image}
use Rattle.vab_layout.specs.Slots.{other_slot}
use Rattle.vab_model.specs.declared.state.Phase.TheVariants.{Installing}
use Rattle.vab_model.specs.declared.state.Physical.{Physical}
use Rattle.vab_model.specs.declared.state.Plan.{Plan}
use Rattle.vab_model.specs.declared.state.State.{State}
use Rattle.vab_model.specs.declared.command.Reply.TheVariants as replies
use Rattle.vab_model.specs.Commands.{Command, Finish}
use Rattle.vab_model.specs.Effects.{IsOneOf, after_of}
use Rattle.vab_model.specs.Physical.{held_by}
use Rattle.vab_model.specs.State.{images_at}
use Rattle.vab_device.specs.Mounted.{Mounted}
use Rattle.vab_device.specs.Reading.{IsIn}
use Rattle.vab_device.specs.Updates.{effect_on}
use Rattle.vab_boots.specs.Boots.{is_ready, worked_slot}

-- what each of them holds, where it counts
abbrev pub held_at : State → (slot : ℕ) → List (Option (List ℕ))
held_at s slot = map (held_by slot) s.physical

-- No command writes this slot: where no update is ready, it is the one that has worked.
pub record IsSpared (s : State) (slot : ℕ) : Type 0 where
  pub below : slot < 2
  pub worked : worked_slot s < 2
  pub same : is_ready s.phase ≡ false → slot ≡ worked_slot s

-- Behind each step of each command its physical partitions hold what they held, while it has
-- images.
abbrev pub SparedHolds : Type 0
SparedHolds = (m next : Mounted) (staged : Option (List ℕ)) (c : Command) (slot : ℕ)
    → IsSpared m.state slot
    → IsOneOf (effect_on m staged c).later next
    → is_some (images_at next.state slot) ≡ true
    → held_at next.state slot ≡ held_at m.state slot

-- On a device each slot with images is such a one.
abbrev pub EachIsSpared : Type 0
EachIsSpared = (size : ℕ) (image : Image) (m : Mounted) (slot : ℕ)
    → IsIn size m image
    → slot < 2
    → is_some (images_at m.state slot) ≡ true
    → IsSpared m.state slot

-- Where an installation ends, each physical partition of the target holds something, and that is
-- what it held.
abbrev pub FinishedHolds : Type 0
FinishedHolds = (m : Mounted) (staged : Option (List ℕ)) (source : ℕ) (plan : Plan)
    → m.state.phase ≡ Installing source plan
    → (effect_on m staged Finish).reply ≡ replies.Done
    → All (λ (p : Physical). is_some (held_by (other_slot source) p) ≡ true) m.state.physical
    × ((after_of m (effect_on m staged Finish)).state.physical ≡ m.state.physical)
