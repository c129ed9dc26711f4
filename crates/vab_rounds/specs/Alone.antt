-- One slot alone has images, and keeps them, until another update is ready, or it is wiped; and a
-- slot keeps its images until a merge from it is begun, or it is wiped.
use Rattle.std.specs.Prelude.{◌≡◌, ◌⊎◌, ◌≤◌, ◌++◌, ◌-◌, ℕ, List, [], ◌∷◌, take, drop, Some}
use Rattle.std.specs.List.{flat_map}
use Rattle.vab_model.specs.declared.state.Image.{Image as ImageOfSlot}
use Rattle.vab_model.specs.State.{images_at}
use Rattle.vab_device.specs.Mounted.{Mounted}
use Rattle.vab_session.specs.Alone.{IsAlone, BootsTo, Finds, IsWiped, IsEnded}
use Rattle.vab_session.specs.Source.{HasKept, AreGone}
use Rattle.vab_rounds.specs.Rounds.{items_in}
use Rattle.vab_rounds.specs.Folds.{Cut, after_items, further, after_cut, folded}

-- the devices that a run comes to: in the steps of the items that are done, and in those of the one
-- behind them
abbrev pub reached : Mounted → Cut → List Mounted
reached first c =
    flat_map (λ i. i.steps) (take c.whole (items_in first c.run))
    ++ take c.steps (further first c)

-- on one of them it is so
abbrev pub Meets : (Mounted → Type 0) → Mounted → List Cut → Type 0
Meets Is first [] = ⊥
Meets Is first (c ∷ cs) = Finds Is (reached first c) ⊎ Meets Is (after_cut first c) cs

-- on one of them an update is ready, or the slot was wiped
abbrev pub SomeEnd : (slot : ℕ) → List ImageOfSlot → Mounted → List Cut → Type 0
SomeEnd slot images = Meets (IsEnded slot images)

-- on one of them it was wiped
abbrev pub SomeWiped : (slot : ℕ) → List ImageOfSlot → Mounted → List Cut → Type 0
SomeWiped slot images = Meets (IsWiped slot images)

-- Where a slot alone has images and no update is ready, as from the begin of a merge on, it keeps
-- them, byte for byte, and a boot goes to it, whatever is cut: behind all these runs, or else an
-- update was ready on the way, or the slot was wiped. What is refused doesn't count.
abbrev pub RunsStayAlone : Type 0
RunsStayAlone = (slot : ℕ) (images : List ImageOfSlot) (first : Mounted) (cuts : List Cut)
    → IsAlone slot images first
    → (IsAlone slot images (folded first cuts) × BootsTo slot (folded first cuts))
    ⊎ SomeEnd slot images first cuts

-- ---- from a moment of a run on

-- the same devices, of the first run those behind the first so many of its items
abbrev pub reached_behind : Mounted → (from : ℕ) → Cut → List Mounted
reached_behind first from c =
    flat_map (λ i. i.steps) (take (c.whole - from) (drop from (items_in first c.run)))
    ++ take c.steps (further first c)

abbrev pub MeetsBehind : (Mounted → Type 0) → Mounted → (from : ℕ) → List Cut → Type 0
MeetsBehind Is first from [] = ⊥
MeetsBehind Is first from (c ∷ cs) =
    Finds Is (reached_behind first from c) ⊎ Meets Is (after_cut first c) cs

-- From any moment of a run on at which a slot alone has images, or the update that was installed
-- from it is ready, the slot keeps these images, byte for byte, whatever is cut, or else a merge
-- from it was begun on the way, or it was wiped. What is refused doesn't count.
abbrev pub RunsKeepImages : Type 0
RunsKeepImages = (slot : ℕ) (images : List ImageOfSlot) (first : Mounted) (c : Cut)
    (cs : List Cut) (from : ℕ)
    → from ≤ c.whole
    → HasKept slot images (after_items first (items_in first c.run) from)
    → ((images_at (folded first (c ∷ cs)).state slot ≡ Some images)
    × HasKept slot images (folded first (c ∷ cs)))
    ⊎ MeetsBehind (AreGone slot images) first from (c ∷ cs)
