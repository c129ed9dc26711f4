-- What many rounds make of a device: the acknowledged items of each, in their order, and of one
-- item more some first steps.
use Rattle.std.specs.Prelude.{◌≡◌, ◌⊎◌, ℕ, zero, suc, ◌≤◌, List, [], ◌∷◌, length, take, drop}
use Rattle.std.specs.Prelude.{Option, None}
use Rattle.vab_model.specs.Effects.{last_of}
use Rattle.vab_device.specs.Mounted.{Mounted}
use Rattle.vab_exchanges.specs.Session.{Exchange}
use Rattle.vab_exchanges.specs.Items.{Item, later_of, items_of, kept_after}
use Rattle.vab_exchanges.specs.Runs.{acknowledged, steps_at}
use Rattle.vab_session.specs.Responses.{machine}
use Rattle.vab_session.specs.Served.{nothing_staged}
use Rattle.vab_boots.specs.Boots.{Boots}
use Rattle.vab_rounds.specs.Rounds.{Run, items_in, greeting_of, closing_in, Round, AreRounds}

-- the situation after the first n items
abbrev pub after_items : {S : Type 0} → S → List (Item S) → ℕ → S
after_items s [] n = s
after_items s (i ∷ is) zero = s
after_items s (i ∷ is) (suc n) = after_items i.last.now is n

-- A run, how many of its items are done, and how many steps of the one behind them: none, some or
-- all of them.
pub record Cut : Type 0 where
  pub run : Run
  pub whole : ℕ
  pub steps : ℕ

-- the device after the items that are done
abbrev pub done_by : Mounted → Cut → Mounted
done_by first c = after_items first (items_in first c.run) c.whole

-- the steps of the item behind them, or those that close the run
abbrev pub further : Mounted → Cut → List Mounted
further first c = later_of (steps_at (closing_in first c.run) first (items_in first c.run) c.whole)

-- the device after the run
abbrev pub after_cut : Mounted → Cut → Mounted
after_cut first c = last_of (done_by first c) (take c.steps (further first c))

-- the device after these runs, one after another
abbrev pub folded : Mounted → List Cut → Mounted
folded first [] = first
folded first (c ∷ cs) = folded (after_cut first c) cs

-- ---- the rounds

-- how many items of a round are acknowledged: their replies stand whole in what was told
abbrev pub whole_in : Mounted → Round → ℕ
whole_in first round =
    acknowledged (items_in first round.run)
    (drop (length (greeting_of round.run)) (drop (length round.told) round.outcome.told))

-- The items that are done are those that are acknowledged, and the steps are some of one more.
pub record IsCut (first : Mounted) (round : Round) (c : Cut) : Type 0 where
  pub run : c.run ≡ round.run
  pub whole : c.whole ≡ whole_in first round
  pub steps : c.steps ≤ length (further first c)

abbrev pub AreCuts : Mounted → List Round → List Cut → Type 0
AreCuts first [] [] = Unit {0}
AreCuts first [] (c ∷ cs) = ⊥
AreCuts first (round ∷ rounds) [] = ⊥
AreCuts first (round ∷ rounds) (c ∷ cs) =
    IsCut first round c × AreCuts (after_cut first c) rounds cs

-- The device after many rounds is what their acknowledged items make of it, in their order, with
-- some steps of at most one more item a round.
abbrev pub RoundsFold : Type 0
RoundsFold = (size : ℕ) (first last : Mounted) (rounds : List Round)
    → AreRounds size first rounds last
    → (cuts : List Cut) × AreCuts first rounds cuts × (last ≡ folded first cuts)

-- ---- what the items of a session are

-- Those that are done are the first exchanges, each answered in the situation that the ones before
-- it have left; an unfinished download is none of them, and only turns of a merge come with it.
abbrev pub SessionsFold : Type 0
SessionsFold =
    (turns : ℕ) (m : Mounted) (exchanges : List Exchange) (unfinished : Option (List ℕ)) (n : ℕ)
    → (n ≤ length exchanges) ⊎ (unfinished ≡ None) ⊎ (turns ≡ 0)
    → after_items m (items_of (machine turns) (nothing_staged m) exchanges unfinished) n
    ≡ (kept_after (machine turns) (nothing_staged m) (take n exchanges)).now

-- ---- what boots

-- Whatever was cut, a boot of the last device goes to a slot with images.
abbrev pub RoundsBoot : Type 0
RoundsBoot = (size : ℕ) (first last : Mounted) (round : Round) (rounds : List Round)
    → AreRounds size first (round ∷ rounds) last
    → Boots last
