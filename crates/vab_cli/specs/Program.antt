-- What the program does where its words ask for a verb: promise by promise, each with a row for
-- each verb.
use Rattle.std.specs.Prelude.{◌≡◌, ◌≢◌, ◌⊎◌, ◌≤◌, ◌<◌, ◌^◌, ◌++◌, ℕ, List, [], length, true, false}
use Rattle.std.specs.Prelude.{Some, None, Ok, Err, Bool, Option, take, drop}
use Rattle.vab_disk.specs.declared.disk.Disk.{Ghosts}
use Rattle.vab_disk.specs.Disk.{Outcome, DiskFailed, SinkFailed, SourceFailed}
use Rattle.vab_disk.specs.Calls.{IsAtRest, Changes, InSectors}
use Rattle.vab_bootctl.specs.declared.slots.Control.{Control}
use Rattle.vab_bootctl.specs.Control.{control_of}
use Rattle.vab_set.specs.Reading.{set_of}
use Rattle.vab_set.specs.declared.set.SetImage.{SetImage}
use Rattle.vab_set.specs.declared.fault.SetFault.{SetFault}
use Rattle.vab_gen.specs.Sets.{fresh_set, next_set}
use Rattle.vab_model.specs.declared.state.Image.{Image as ImageOfSlot}
use Rattle.vab_model.specs.Commands.{Command}
use Rattle.vab_device.specs.declared.fault.StartFault.{StartFault}
use Rattle.vab_device.specs.Mounted.{Mounted}
use Rattle.vab_device.specs.Reading.{device, IsIn}
use Rattle.vab_make.specs.declared.fault.MakeFault.{MakeFault}
use Rattle.vab_make.specs.Made.{refusal_of, made_device_of}
use Rattle.vab_make.specs.Making.{LeavesMaking}
use Rattle.vab_make.specs.Touched.{IsOfMaking}
use Rattle.vab_adopt.specs.Adopting.{IsOfAdopting}
use Rattle.vab_recover.specs.Opening.{IsOfOpening}
use Rattle.vab_words.specs.Verbs.{Meaning, Make, Adopt, Serve, Install, Demo}
use Rattle.vab_words.specs.Verbs as verbs
use Rattle.vab_exchanges.specs.Session.{Exchange, End, IsSession}
use Rattle.vab_exchanges.specs.Items.{joined, output_of}
use Rattle.vab_commands.specs.Touched.{IsOfAll, IsOfCommands}
use Rattle.vab_status.specs.Page.{page}
use Rattle.vab_session.specs.Alone.{IsAlone, StandsAlone}
use Rattle.vab_session.specs.Sparing.{SparesSource}
use Rattle.vab_session.specs.Responses.{machine}
use Rattle.vab_session.specs.Served.{nothing_staged}
use Rattle.vab_session.specs.Source.{HasKept, StandsKept, FindsMergedFrom}
use Rattle.vab_cli.specs.declared.status.Status.{Status}
use Rattle.vab_cli.specs.declared.status.Status.TheVariants.{Done, Usage, Malformed, NotADevice}
use Rattle.vab_cli.specs.declared.status.Status.TheVariants.{Disk, Port, NoMemory}
use Rattle.vab_cli.specs.Adopting.{Adopts}
use Rattle.vab_cli.specs.Codes.{make_status}
use Rattle.vab_cli.specs.Copies.{LeavesCopies}
use Rattle.vab_input.specs.HearsToEnd.{HearsWithin}
use Rattle.vab_cli.specs.Counts.{HearsNothing, HearsUnless, IsSteady}
use Rattle.vab_cli.specs.Demo.{RunsLife, WritesDemo, EndsSmall, life_of}
use Rattle.vab_cli.specs.Installing.{RunsInstall, WritesSet, HearsSet, install_told, install_status}
use Rattle.vab_cli.specs.Paging.{RunsPage}
use Rattle.vab_cli.specs.Runs.{SaysEnd, Held, NoFault, RunsSession, RunsItem, FailsBefore}
use Rattle.vab_cli.specs.Runs.{RunsOpened, RunsRefused, RunsMaking, FailsMaking}
use Rattle.vab_cli.specs.Touched.{IsOfVerb, IsOfServing, IsOfFresh}
use Rattle.vab_cli.specs.Verbs.{command_of, none_line, verb_item, verb_status}
use Rattle.vab_cli.specs.Verbs.{make_line, done_making}
use Rattle.vab_cli.specs.Written.{WritesServed}

module _ {D : Type 0} (g : Ghosts D) (old new : D) (status : Status) where
  -- ---- what is told, the disk behind it, and what each cut of power leaves

  -- One item, done or refused as the table of effects says, with its line or bytes told. Each cut
  -- leaves a front of what is told and one of its steps, and where all is told the last. Or the
  -- disk failed or memory was refused while it was opened.
  abbrev pub RunsCommand : Command → Mounted → Type 0
  RunsCommand c s =
      RunsItem g (g.size old) s (verb_item s c) (verb_status s c) old new status
      ⊎ FailsBefore g (g.size old) s old new status

  -- The session of the input, with its bytes told, and so is each cut. Or the disk failed or memory
  -- was refused while it was opened.
  abbrev pub RunsServe : (turns : ℕ) → Mounted → Type 0
  RunsServe turns s =
      RunsSession g (g.size old) (λ o. ⊥) turns s old new status
      ⊎ FailsBefore g (g.size old) s old new status

  -- On enough sectors the same over the made device of the empty set. Until its last gate is
  -- settled each cut leaves the disk as it was, or no device, or the made one. On too few: status
  -- 5, and nothing is told or written.
  pub record RunsFresh (turns : ℕ) : Type 0 where
    pub enough : 6152 ≤ g.size old
        → RunsSession g (g.size old)
        (LeavesMaking (g.told old) [] 0 65536 (g.size old) (g.seen old)) turns
        (made_device_of [] 0 65536 (g.size old))
        old new status
        ⊎ FailsMaking g (g.size old) [] 0 65536 old new status
    pub small : g.size old < 6152 → RunsRefused g (g.size old) [] NotADevice old new status

  -- Of an input that spells a set: the made device, or the first refusal with its line and nothing
  -- written; of another input status 3, with nothing told or written.
  pub record RunsMake (limit max : ℕ) : Type 0 where
    pub made : (set : List SetImage)
        → length (g.input_left old) ≤ 2 ^ 32
        → set_of (g.input_left old) ≡ Ok set
        → refusal_of set limit max (g.size old) ≡ None
        → RunsMaking g (g.size old) set limit max (done_making set (g.size old)) old new status
    pub refused : (set : List SetImage)
        → length (g.input_left old) ≤ 2 ^ 32
        → set_of (g.input_left old) ≡ Ok set
        → (fault : MakeFault)
        → refusal_of set limit max (g.size old) ≡ Some fault
        → RunsRefused g (g.size old) (make_line fault) (make_status fault) old new status
    pub malformed : (2 ^ 32 < length (g.input_left old))
        ⊎ ((fault : SetFault) × (set_of (g.input_left old) ≡ Err fault))
        → RunsRefused g (g.size old) [] Malformed old new status

  abbrev pub RunsOf : Option Command → Type 0
  RunsOf None = Unit {0}
  RunsOf (Some c) = RunsOpened g (g.size old) none_line (RunsCommand c) old new status

  -- The verbs on a device say `not a device` over a disk that is none, `serve` nothing; with status
  -- 5, and nothing is written.
  abbrev pub Runs : Meaning → Type 0
  Runs (Make limit max) = RunsMake limit max
  Runs (Adopt slot) = Adopts g slot old new status
  Runs (Serve false turns) = RunsOpened g (g.size old) [] (RunsServe turns) old new status
  Runs (Serve true turns) = RunsFresh turns
  Runs Install =
      RunsOpened g (g.size old) none_line (RunsInstall g old new status) old new status
  Runs verbs.Status =
      RunsOpened g (g.size old) none_line (RunsPage g old new status) old new status
  Runs (Demo seed scale) =
      RunsLife g (fresh_set scale seed) (next_set scale seed (fresh_set scale seed)) old new status
  Runs m = RunsOf (command_of m)

  -- ---- what is written, as it reads in the end and in each outcome

  -- What opening may, and what its commands may: boot control by the boot rules, the update mark,
  -- the statuses, tables, and blocks behind them. Where no packet asks for a merge or a wipe, and
  -- no turn is made between packets, those are the target's table, and blocks of no image. And that
  -- is what its packets write in turn, from the device that was opened: one that changes the device
  -- what its command writes there, and a question, a variable, a download or a refusal nothing,
  -- also where the disk fails.
  pub record WritesServe (turns : ℕ) : Type 0 where
    pub touches : Changes g (IsOfServing IsOfAll (g.size old) (g.seen old)) old new
    pub spared : SparesSource (2 ^ 44) turns (g.input_left old)
        → Changes g (IsOfServing IsOfCommands (g.size old) (g.seen old)) old new
    pub in_turn : WritesServed g (IsOfOpening (g.size old) (g.seen old)) turns (g.size old)
        (drop 4 (take (2 ^ 44) (g.input_left old)))
        old new

  -- what making the device of the empty set does, and then in the same way
  pub record WritesFresh (turns : ℕ) : Type 0 where
    pub touches : Changes g (IsOfFresh IsOfAll (g.size old)) old new
    pub spared : SparesSource (2 ^ 44) turns (g.input_left old)
        → Changes g (IsOfFresh IsOfCommands (g.size old)) old new
    pub in_turn : WritesServed g (InSectors (IsOfMaking [] 65536)) turns (g.size old)
        (drop 4 (take (2 ^ 44) (g.input_left old)))
        old new

  -- What opening may, and boot control's sector where the command is one on slots: the boot control
  -- that the boot rules make of the one that is there, of both slots. `cancel` and `begin-merge`
  -- write the mark. `merge` writes blocks of the slot's partitions, entries of its stores, and the
  -- mark at its end.
  abbrev pub WritesOf : Option Command → Type 0
  WritesOf None = Unit {0}
  WritesOf (Some c) =
      (s : Mounted)
      → IsIn (g.size old) s (g.seen old)
      → (boot : Control)
      → control_of (g.seen old 4) ≡ Ok boot
      → Changes g (IsOfVerb (g.size old) (g.seen old) s boot c) old new

  -- `adopt` writes the sectors of the boot control and of the mark, and nothing of `super`.
  abbrev pub Writes : Meaning → Type 0
  Writes (Make limit max) =
      (set : List SetImage)
      → set_of (g.input_left old) ≡ Ok set
      → Changes g (InSectors (IsOfMaking set max)) old new
  Writes (Adopt slot) = Changes g (IsOfAdopting slot (g.seen old)) old new
  Writes (Serve false turns) =
      (s : Mounted) → IsIn (g.size old) s (g.seen old) → WritesServe turns
  Writes (Serve true turns) = WritesFresh turns
  Writes Install = (s : Mounted) → IsIn (g.size old) s (g.seen old) → WritesSet g old new status
  Writes verbs.Status = Changes g (IsOfOpening (g.size old) (g.seen old)) old new
  Writes (Demo seed scale) =
      WritesDemo g (fresh_set scale seed) (next_set scale seed (fresh_set scale seed)) old new
      status
  Writes m = WritesOf (command_of m)

  -- ---- which images stay

  -- Where one slot alone has images and no update is ready, as from the begin of a merge on, it
  -- alone has images in every outcome, the same ones, and a boot goes to it. Where one slot alone
  -- has images, or the update that was installed from it is ready, it has these images in every
  -- outcome, until a merge from it is begun.
  pub record KeepsImages (c : Command) (s : Mounted) : Type 0 where
    pub alone : (slot : ℕ)
        → (images : List ImageOfSlot)
        → IsAlone slot images s
        → (o : Outcome)
        → g.outcomes new (g.moment old) o
        → StandsAlone (g.size old) slot images o.image
    pub kept : (slot : ℕ)
        → (images : List ImageOfSlot)
        → HasKept slot images s
        → (o : Outcome)
        → g.outcomes new (g.moment old) o
        → StandsKept (g.size old) slot images o.image
        ⊎ FindsMergedFrom slot (verb_item s c).steps

  -- of a verb that is a command; of a session `RunsSession` says it
  abbrev pub KeepsOf : Option Command → Type 0
  KeepsOf None = Unit {0}
  KeepsOf (Some c) =
      (s : Mounted) → IsIn (g.size old) s (g.seen old) → IsAtRest g old → KeepsImages c s

  -- ---- what is heard

  -- The input is heard to its end, where it isn't too long, and where it is done surely; and
  -- whatever comes of it not beyond that.
  pub record HearsMake : Type 0 where
    pub heard : HearsUnless (g.input_left old) (g.heard old) (g.heard new) status
    pub within : HearsWithin (g.heard old) (g.heard new)
    pub end : status ≡ Done → g.input_left new ≡ []

  -- A session hears as `RunsSession` says, and nothing where the disk isn't opened. The other verbs
  -- hear nothing.
  abbrev pub Hears : Meaning → Type 0
  Hears (Make limit max) = HearsMake
  Hears (Serve false turns) =
      (fault : StartFault)
      → device (g.size old) (g.seen old) ≡ Err fault
      → HearsNothing g old new
  Hears (Serve true turns) = Unit {0}
  Hears Install = HearsSet g old new status
  Hears _ = HearsNothing g old new

  -- ---- what is done where no call fails

  -- The whole session of the input is told, as it ends.
  pub record AnswersAll (turns : ℕ) (first : Mounted) : Type 0 where
    pub refused : ℕ → Bool
    pub exchanges : List Exchange
    pub unfinished : Option (List ℕ)
    pub end : End
    pub session : IsSession (2 ^ 44) refused (g.input_left old) exchanges unfinished end
    pub status_is : SaysEnd status end
    pub held : Held status
    pub told : g.told new
        ≡ g.told old ++ output_of (machine turns) (nothing_staged first) exchanges unfinished

  -- It ends so, with this told, or memory is refused.
  abbrev pub TellsWhole : Status → List ℕ → Type 0
  TellsWhole ends told =
      ((status ≡ ends) × (g.told new ≡ g.told old ++ told)) ⊎ (status ≡ NoMemory)

  abbrev pub CompletesOf : Option Command → Type 0
  CompletesOf None = Unit {0}
  CompletesOf (Some c) =
      (s : Mounted)
      → IsIn (g.size old) s (g.seen old)
      → TellsWhole (verb_status s c) (verb_item s c).reply

  -- What is asked for is done and told whole, or memory is refused. What `make` and `adopt` do then
  -- is said with what they tell.
  abbrev pub Completes : Meaning → Type 0
  Completes (Make limit max) = Unit {0}
  Completes (Adopt slot) = Unit {0}
  Completes (Serve false turns) =
      (s : Mounted)
      → IsIn (g.size old) s (g.seen old)
      → AnswersAll turns s ⊎ (status ≡ NoMemory)
  Completes (Serve true turns) =
      6152 ≤ g.size old
      → AnswersAll turns (made_device_of [] 0 65536 (g.size old)) ⊎ (status ≡ NoMemory)
  Completes Install =
      (set : List SetImage)
      → length (g.input_left old) ≤ 2 ^ 32
      → set_of (g.input_left old) ≡ Ok set
      → (s : Mounted)
      → IsIn (g.size old) s (g.seen old)
      → TellsWhole (install_status s set) (install_told s set)
  Completes verbs.Status =
      (s : Mounted) → IsIn (g.size old) s (g.seen old) → TellsWhole Done (page s.state)
  Completes (Demo seed scale) =
      refusal_of (fresh_set scale seed) 0 65536 (g.size old) ≡ None
      → (let c = life_of (fresh_set scale seed)
      (next_set scale seed (fresh_set scale seed)) (g.size old) in
      TellsWhole c.ends (joined c.items))
  Completes m = CompletesOf (command_of m)

  -- ---- how it ends on few sectors, over any port

  -- `make` ends with status 5 on fewer than 6152 sectors alone, and the others that make a device
  -- end there so.
  abbrev pub EndsBySize : Meaning → Type 0
  EndsBySize (Make limit max) = status ≡ NotADevice → g.size old < 6152
  EndsBySize (Serve true turns) =
      g.size old < 6152 → (status ≡ NotADevice) ⊎ (status ≡ NoMemory)
  EndsBySize (Demo seed scale) = g.size old < 6152 → EndsSmall status
  EndsBySize _ = Unit {0}

-- What a verb does.
pub record DoesVerb {D : Type 0}
    (g : Ghosts D)
    (m : Meaning)
    (old new : D)
    (status : Status) : Type 0 where
  -- What is told, the disk behind it, and what each cut of power leaves, are those of the verb's
  -- items, done or refused one after the other as the table of effects says.
  pub runs : g.is_modelled → Runs g old new status m
  -- It writes what its commands write, and nothing else.
  pub writes : g.is_modelled → Writes g old new status m
  -- The images that boot stay.
  pub keeps : g.is_modelled → KeepsOf g old new status (command_of m)
  -- It hears its input, and nothing beyond.
  pub hears : g.is_modelled → Hears g old new status m
  -- Both copies of each table agree in the end.
  pub copies : g.is_modelled → LeavesCopies g old new status m
  -- Where no call fails, what is asked for is done and told whole, or memory is refused.
  pub complete : g.is_modelled
      → NoFault (g.faults old) (g.faults new)
      → Completes g old new status m
  -- On few sectors it ends so, over any port.
  pub sizes : EndsBySize g old new status m
  -- Status 6 comes only where one call of the disk failed, and 7 only where a hearing did or a call
  -- that tells; no other call failed. With any other status none did, and 2 doesn't come.
  pub disk : status ≡ Disk → DiskFailed (g.faults old) (g.faults new)
  pub port : status ≡ Port
      → SourceFailed (g.faults old) (g.faults new)
      ⊎ SinkFailed (g.faults old) (g.faults new)
  pub steady : IsSteady g old new status
  pub words : status ≢ Usage
