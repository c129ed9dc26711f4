-- A merge that is cut again and again, and goes on.
use Rattle.std.specs.Prelude.{◌≡◌, ◌⊎◌, ◌<◌, ◌+◌, ℕ, zero, suc, Bool, false, List, [], ◌∷◌, take}
use Rattle.std.specs.Prelude.{Result, Ok}
use Rattle.vab_model.specs.declared.state.Image.{Image as ImageOfSlot}
use Rattle.vab_model.specs.declared.state.Phase.{Phase}
use Rattle.vab_model.specs.declared.state.Phase.TheVariants.{Idle, Merging}
use Rattle.vab_model.specs.Commands.{Command}
use Rattle.vab_model.specs.Kinds.{is_of_installation, turns_of}
use Rattle.vab_device.specs.Mounted.{Mounted}
use Rattle.vab_fbproto.specs.Requests.{Asked, Do, MergeAll}
use Rattle.vab_fbproto.specs.Requests.{request_of}
use Rattle.vab_fbproto.specs.declared.request.BadCommand.{BadCommand}
use Rattle.vab_exchanges.specs.Session.{Exchange}
use Rattle.vab_exchanges.specs.Items.{Kept, passed, item_behind}
use Rattle.vab_session.specs.Alone.{IsAlone}
use Rattle.vab_session.specs.Responses.{machine, left_of}
use Rattle.vab_session.specs.Served.{nothing_staged}
use Rattle.vab_rounds.specs.Rounds.{Run, Serves, Carries, Installs, Tells, Lives}
use Rattle.vab_rounds.specs.Alone.{SomeWiped}
use Rattle.vab_rounds.specs.Folds.{Cut, after_cut, folded}

-- ---- no other update is begun

abbrev pub asks_update : Result Asked BadCommand → Bool
asks_update (Ok (Do command)) = is_of_installation command
asks_update _ = false

abbrev pub AskNoUpdate : List Exchange → Type 0
AskNoUpdate [] = Unit {0}
AskNoUpdate (s ∷ ss) = (asks_update (request_of s.command) ≡ false) × AskNoUpdate ss

abbrev pub BeginsNone : Run → Type 0
BeginsNone (Serves turns exchanges unfinished waits) = AskNoUpdate exchanges
BeginsNone (Carries command) = is_of_installation command ≡ false
BeginsNone (Installs set) = ⊥
BeginsNone (Tells text) = Unit {0}
BeginsNone (Lives made next) = ⊥

abbrev pub BeginNone : List Cut → Type 0
BeginNone [] = Unit {0}
BeginNone (c ∷ cs) = BeginsNone c.run × BeginNone cs

-- ---- how many turns are asked for

-- by a packet; to merge all is one turn more than blocks are left
abbrev pub turns_asked : Phase → Result Asked BadCommand → ℕ
turns_asked phase (Ok (Do command)) = turns_of command
turns_asked phase (Ok MergeAll) = left_of phase + 1
turns_asked phase _ = 0

-- by a session itself before it hears a packet: so many, where an update is being merged
abbrev pub turns_before : (turns : ℕ) → Phase → ℕ
turns_before turns (Merging target left) = turns
turns_before turns _ = 0

-- by exchanges, one after another, each with the turns that were made before it was heard
abbrev pub turns_in : (turns : ℕ) → Kept Mounted → List Exchange → ℕ
turns_in turns k [] = 0
turns_in turns k (s ∷ ss) =
    turns_before turns k.now.state.phase
    + (turns_asked (passed (machine turns) k).now.state.phase (request_of s.command)
    + turns_in turns (item_behind (machine turns) k s).last ss)

-- by a verb, where it is done
abbrev pub turns_done : ℕ → Command → ℕ
turns_done zero command = 0
turns_done (suc whole) command = turns_of command

-- by those items of a run that are done, where it begins no update
abbrev pub turns_by : Mounted → (whole : ℕ) → Run → ℕ
turns_by first whole (Serves turns exchanges unfinished waits) =
    turns_in turns (nothing_staged first) (take whole exchanges)
turns_by first whole (Carries command) = turns_done whole command
turns_by first whole _ = 0

abbrev pub turns_by_all : Mounted → List Cut → ℕ
turns_by_all first [] = 0
turns_by_all first (c ∷ cs) = turns_by first c.whole c.run + turns_by_all (after_cut first c) cs

-- ---- the end of a merge

-- No update is left, and this slot alone has images, these ones.
pub record IsMerged (target : ℕ) (images : List ImageOfSlot) (m : Mounted) : Type 0 where
  pub idle : m.state.phase ≡ Idle
  pub alone : IsAlone target images m

-- However often a merge is cut: once those that are acknowledged have asked for one turn more than
-- blocks were left, it has ended, and the target has its images byte for byte, or was wiped on the
-- way.
abbrev pub MergesEnd : Type 0
MergesEnd = (first : Mounted) (cuts : List Cut)
    → BeginNone cuts
    → (target left : ℕ)
    → (images : List ImageOfSlot)
    → first.state.phase ≡ Merging target left
    → IsAlone target images first
    → left < turns_by_all first cuts
    → ((folded first cuts).state.phase ≡ Idle)
    × (IsMerged target images (folded first cuts) ⊎ SomeWiped target images first cuts)
