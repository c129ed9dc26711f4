-- The images that the end of an installation gave, over many runs.
use Rattle.std.specs.Prelude.{◌≡◌, ◌⊎◌, ◌<◌, ◌≤◌, ◌+◌, ◌++◌, ℕ, List, [], ◌∷◌, map, Option}
use Rattle.std.specs.Prelude.{Some, None}
use Rattle.vab_layout.specs.Slots.{other_slot}
use Rattle.vab_model.specs.declared.state.Image.{Image as ImageOfSlot}
use Rattle.vab_model.specs.declared.state.Plan.{Plan}
use Rattle.vab_model.specs.declared.state.Phase.{Phase}
use Rattle.vab_model.specs.declared.state.Phase.TheVariants.{Idle, Installing, Staged, Merging}
use Rattle.vab_model.specs.declared.command.Reply.TheVariants as replies
use Rattle.vab_model.specs.Commands.{Finish}
use Rattle.vab_model.specs.Effects.{after_of}
use Rattle.vab_model.specs.State.{images_at}
use Rattle.vab_device.specs.Mounted.{Mounted}
use Rattle.vab_device.specs.Updates.{effect_on, final_image}
use Rattle.vab_session.specs.Alone.{IsAlone}
use Rattle.vab_session.specs.Source.{HasKept, AreGone}
use Rattle.vab_rounds.specs.Rounds.{items_in}
use Rattle.vab_rounds.specs.Folds.{Cut, after_items, after_cut, folded}
use Rattle.vab_rounds.specs.Alone.{MeetsBehind}
use Rattle.vab_rounds.specs.Merges.{turns_by_all}
use Rattle.vab_rounds.specs.Ended.{IsMoment, turns_behind, HasEnded}

-- ---- the slot that an update is for

-- an update is ready for this slot
abbrev pub IsStagedFor : (slot : ℕ) → Phase → Type 0
IsStagedFor slot Idle = ⊥
IsStagedFor slot (Installing source plan) = ⊥
IsStagedFor slot (Staged source left) = source ≡ other_slot slot
IsStagedFor slot (Merging target left) = ⊥

-- The same, and the slot has these images.
pub record IsReadyFor (slot : ℕ) (images : List ImageOfSlot) (m : Mounted) : Type 0 where
  pub below : slot < 2
  pub runs : m.state.control.current < 2
  pub has : images_at m.state slot ≡ Some images
  pub ready : IsStagedFor slot m.state.phase

-- An update for the slot is ready, or its merge has begun, or has ended: and it has these images.
abbrev pub HasGiven : (slot : ℕ) → List ImageOfSlot → Mounted → Type 0
HasGiven slot images m = IsReadyFor slot images m ⊎ HasKept slot images m

-- The update was dropped: there is none, and the slot has no images.
pub record IsDropped (slot : ℕ) (m : Mounted) : Type 0 where
  pub idle : m.state.phase ≡ Idle
  pub none : images_at m.state slot ≡ None

-- These images are given up: the update was dropped, or a later one, installed from the slot, is
-- merged, or the slot was wiped.
abbrev pub IsGivenUp : (slot : ℕ) → List ImageOfSlot → Mounted → Type 0
IsGivenUp slot images m = IsDropped slot m ⊎ AreGone slot images m

-- ---- the end of an installation

-- Where this installation was under way on a device, and its source alone had images, its end was
-- done, and this is the device behind it.
pub record IsFinished (source : ℕ) (plan : Plan) (before next : Mounted) : Type 0 where
  pub was : before.state.phase ≡ Installing source plan
  pub images : List ImageOfSlot
  pub alone : IsAlone source images before
  pub staged : Option (List ℕ)
  pub done : (effect_on before staged Finish).reply ≡ replies.Done
  pub is : next ≡ after_of before (effect_on before staged Finish)

-- the images that it gives: what was written, and the source's where a partition is kept
abbrev pub given_by : Mounted → (source : ℕ) → Plan → List ImageOfSlot
given_by before source plan = map (final_image before.state source) plan.entries

-- From the end of an installation on, at any moment of a run: the target has the images that it
-- gave, byte for byte, behind whatever runs and cuts come, or else they were given up on the way.
abbrev pub FinishedImagesLast : Type 0
FinishedImagesLast = (first : Mounted) (c : Cut) (cs : List Cut) (from source : ℕ)
    (plan : Plan) (before : Mounted)
    → from ≤ c.whole
    → IsFinished source plan before (after_items first (items_in first c.run) from)
    → ((images_at (folded first (c ∷ cs)).state (other_slot source)
    ≡ Some (given_by before source plan))
    × HasGiven (other_slot source) (given_by before source plan) (folded first (c ∷ cs)))
    ⊎ MeetsBehind (IsGivenUp (other_slot source) (given_by before source plan)) first from
    (c ∷ cs)

-- ---- and the end of its merge

-- a run up to this moment
abbrev pub until_moment : Cut → ℕ → Cut
until_moment d at = record { run = d.run; whole = at; steps = 0 }

-- Where its merge is under way at some later moment, and behind that moment the acknowledged
-- commands ask for one turn more than blocks are left: the merge has ended at some moment, and then
-- the target had the images that the end of the installation gave. Or else they were given up
-- before the merge was under way.
abbrev pub FinishedImagesAreMerged : Type 0
FinishedImagesAreMerged = (first : Mounted) (c : Cut) (cs : List Cut) (from source : ℕ)
    (plan : Plan) (before : Mounted)
    (earlier : List Cut) (d : Cut) (at : ℕ) (later : List Cut) (left : ℕ)
    → from ≤ c.whole
    → IsFinished source plan before (after_items first (items_in first c.run) from)
    → c ∷ cs ≡ earlier ++ until_moment d at ∷ []
    → IsMoment at d.run
    → at ≤ d.whole
    → (let there : Mounted = folded first earlier in
    (after_items there (items_in there d.run) at).state.phase ≡ Merging (other_slot source) left
    → left < turns_behind there at d.whole d.run + turns_by_all (after_cut there d) later
    → HasEnded (other_slot source) (given_by before source plan) there at (d ∷ later)
    ⊎ MeetsBehind (IsGivenUp (other_slot source) (given_by before source plan)) first from
    (c ∷ cs))
