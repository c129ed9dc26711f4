-- A merge that is cut again and again has ended at some moment, whatever comes behind it.
use Rattle.std.specs.Prelude.{◌≡◌, ◌⊎◌, ◌<◌, ◌≤◌, ◌+◌, ℕ, zero, List, [], ◌∷◌, length, take, drop}
use Rattle.vab_model.specs.declared.state.Image.{Image as ImageOfSlot}
use Rattle.vab_model.specs.declared.state.Phase.TheVariants.{Merging}
use Rattle.vab_device.specs.Mounted.{Mounted}
use Rattle.vab_model.specs.Effects.{last_of}
use Rattle.vab_exchanges.specs.Items.{kept_after}
use Rattle.vab_session.specs.Alone.{IsAlone}
use Rattle.vab_session.specs.Responses.{turns_between, machine}
use Rattle.vab_session.specs.Served.{nothing_staged}
use Rattle.vab_rounds.specs.Rounds.{Run, Serves, Carries, items_in}
use Rattle.vab_rounds.specs.Folds.{Cut, after_items, after_cut}
use Rattle.vab_rounds.specs.Merges.{turns_in, turns_done, turns_by_all, IsMerged}

-- A moment of a run: behind some exchanges of a session, before or behind a command, or before
-- anything else.
abbrev pub IsMoment : (n : ℕ) → Run → Type 0
IsMoment n (Serves turns exchanges unfinished waits) = n ≤ length exchanges
IsMoment n (Carries command) = n ≤ 1
IsMoment n _ = n ≡ 0

-- how many turns are asked for by those items of a run that are done, behind the first n of them
abbrev pub turns_behind : Mounted → (n whole : ℕ) → Run → ℕ
turns_behind first n whole (Serves turns exchanges unfinished waits) =
    turns_in turns (kept_after (machine turns) (nothing_staged first) (take n exchanges))
    (drop n (take whole exchanges))
turns_behind first zero whole (Carries command) = turns_done whole command
turns_behind first _ whole _ = 0

-- the devices that a session goes through by itself before it hears a packet; another run has none
abbrev pub front_in : Run → Mounted → List Mounted
front_in (Serves turns exchanges unfinished waits) m = turns_between turns m
front_in _ m = []

-- the device behind the first n items of a run, where the turns before the next packet are made
abbrev pub heard_in : Mounted → Run → (n : ℕ) → Mounted
heard_in first run n =
    last_of (after_items first (items_in first run) n)
    (front_in run (after_items first (items_in first run) n))

-- Behind some of the items that are done, not before so many of them, the merge into this slot had
-- ended, and the slot alone had these images; or so it was behind the turns that were made there
-- before the next packet.
abbrev pub EndsIn : (target : ℕ) → List ImageOfSlot → Mounted → (from : ℕ) → Cut → Type 0
EndsIn target images first from c =
    ((n : ℕ)
    × (from ≤ n)
    × (n ≤ c.whole)
    × IsMerged target images (after_items first (items_in first c.run) n))
    ⊎ ((n : ℕ)
    × (from ≤ n)
    × ((n < c.whole)
    ⊎ ((n ≡ c.whole)
    × (length (front_in c.run (after_items first (items_in first c.run) n)) ≤ c.steps)))
    × IsMerged target images (heard_in first c.run n))

-- This holds of one of these runs; of the first one not before so many items of it.
abbrev pub HasEnded : (target : ℕ)
    → List ImageOfSlot
    → Mounted
    → (from : ℕ)
    → List Cut
    → Type 0
HasEnded target images first from [] = ⊥
HasEnded target images first from (c ∷ cs) =
    EndsIn target images first from c ⊎ HasEnded target images (after_cut first c) 0 cs

-- From any moment of a run on at which a merge is under way: once those that are acknowledged
-- behind it have asked for one turn more than blocks were left, the merge has ended at some moment,
-- and the target had its images then, byte for byte. What else the runs do, and what they do behind
-- that moment, is left open.
abbrev pub MergesHaveEnded : Type 0
MergesHaveEnded = (first : Mounted) (c : Cut) (cs : List Cut) (from : ℕ)
    → IsMoment from c.run
    → from ≤ c.whole
    → (target left : ℕ)
    → (images : List ImageOfSlot)
    → (after_items first (items_in first c.run) from).state.phase ≡ Merging target left
    → IsAlone target images (after_items first (items_in first c.run) from)
    → left < turns_behind first from c.whole c.run + turns_by_all (after_cut first c) cs
    → HasEnded target images first from (c ∷ cs)
