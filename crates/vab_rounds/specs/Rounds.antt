-- Runs one after another, each begun on what a cut of power left of the one before.
use Rattle.std.specs.Prelude.{◌≡◌, ℕ, Bool, List, [], ◌∷◌, Option, codes}
use Rattle.vab_disk.specs.Disk.{Outcome}
use Rattle.vab_set.specs.declared.set.SetImage.{SetImage}
use Rattle.vab_model.specs.Commands.{Command}
use Rattle.vab_device.specs.Mounted.{Mounted}
use Rattle.vab_device.specs.Reading.{IsIn}
use Rattle.vab_exchanges.specs.Session.{Exchange}
use Rattle.vab_exchanges.specs.Items.{Item, items_of, kept_after, closing_of}
use Rattle.vab_exchanges.specs.Runs.{CrashesWithin}
use Rattle.vab_session.specs.Responses.{machine}
use Rattle.vab_session.specs.Served.{nothing_staged}
use Rattle.vab_cli.specs.Acts.{course}
use Rattle.vab_cli.specs.Demo.{life}
use Rattle.vab_cli.specs.Installing.{install_item, left_behind}
use Rattle.vab_cli.specs.Verbs.{line_item, verb_item}

-- What a run does: it serves these exchanges, and of an unfinished download `DATA`, with so many
-- turns of a merge before each packet that it hears or waits for in the end; it carries out
-- one command; it installs a set; it tells this alone, and changes nothing; or it tells this, and
-- behind it shows an update by a set, as `demo` does.
pub data Run : Type 0 where
  Serves : (turns : ℕ)
      → (exchanges : List Exchange)
      → (unfinished : Option (List ℕ))
      → (waits : Bool)
      → Run
  Carries : (command : Command) → Run
  Installs : (set : List SetImage) → Run
  Tells : (text : List ℕ) → Run
  Lives : (made : List ℕ) → (next : List SetImage) → Run

-- its items, from this device on
abbrev pub items_in : Mounted → Run → List (Item Mounted)
items_in m (Serves turns exchanges unfinished waits) =
    items_of (machine turns) (nothing_staged m) exchanges unfinished
items_in m (Carries command) = verb_item m command ∷ []
items_in m (Installs set) = install_item m set ∷ []
items_in m (Tells text) = line_item m text ∷ []
items_in m (Lives made next) = (course (life made next (left_behind m next)) m).items

-- what is told before them
abbrev pub greeting_of : Run → List ℕ
greeting_of (Serves turns exchanges unfinished waits) = codes "FB01"
greeting_of (Carries command) = []
greeting_of (Installs set) = []
greeting_of (Tells text) = []
greeting_of (Lives made next) = []

-- the devices that it goes through behind its last item
abbrev pub closing_in : Mounted → Run → List Mounted
closing_in m (Serves turns exchanges unfinished waits) =
    closing_of (machine turns) unfinished waits
    (kept_after (machine turns) (nothing_staged m) exchanges)
closing_in m _ = []

-- A run, what was told before it, and what a cut of power left of it.
pub record Round : Type 0 where
  pub run : Run
  pub told : List ℕ
  pub outcome : Outcome

-- The run begins on the first device. The cut leaves a front of what it tells, and a step of the
-- first item that doesn't stand whole. The disk that is left is the next device.
pub record IsRound (size : ℕ) (first : Mounted) (round : Round) (next : Mounted) : Type 0 where
  pub crashes : CrashesWithin (IsIn size)
      (greeting_of round.run) first (items_in first round.run) (closing_in first round.run)
      round.told round.outcome
  pub leaves : IsIn size next round.outcome.image

-- These rounds, each begun on the device that the one before has left.
abbrev pub AreRounds : ℕ → Mounted → List Round → Mounted → Type 0
AreRounds size first [] last = last ≡ first
AreRounds size first (round ∷ rounds) last =
    (next : Mounted) × IsRound size first round next × AreRounds size next rounds last
