-- A run of the program that is cut is a round.
use Rattle.std.specs.Prelude.{◌≡◌, ◌⊎◌, ◌≤◌, ◌^◌, ℕ, Bool, true, false, List, [], length}
use Rattle.std.specs.Prelude.{Some, None, Ok}
use Rattle.vab_disk.specs.declared.disk.Disk.{Ghosts}
use Rattle.vab_disk.specs.Disk.{Outcome}
use Rattle.vab_disk.specs.Calls.{IsAtRest}
use Rattle.vab_gen.specs.Sets.{fresh_set, next_set}
use Rattle.vab_set.specs.Reading.{set_of}
use Rattle.vab_set.specs.declared.set.SetImage.{SetImage}
use Rattle.vab_device.specs.Mounted.{Mounted}
use Rattle.vab_device.specs.Reading.{IsIn}
use Rattle.vab_make.specs.Made.{refusal_of, made_device_of}
use Rattle.vab_make.specs.Making.{LeavesMaking}
use Rattle.vab_words.specs.Verbs.{Meaning, Make, Adopt, Serve, Install, Boot, Mark, BeginMerge}
use Rattle.vab_words.specs.Verbs.{Merge, Cancel, Activate, Print, Digest, Demo, Status as Page}
use Rattle.vab_adopt.specs.declared.fault.AdoptFault.TheVariants.{AlreadyDevice}
use Rattle.vab_adopt.specs.Adopted.{adopted, adopt_refusal}
use Rattle.vab_adopt.specs.Adopting.{LeavesAdopting}
use Rattle.vab_exchanges.specs.Session.{End, IsSession, waits_in}
use Rattle.vab_status.specs.Page.{page}
use Rattle.vab_cli.specs.declared.status.Status.{Status}
use Rattle.vab_cli.specs.declared.status.Status.TheVariants.{NoMemory}
use Rattle.vab_cli.specs.Adopting.{adopt_line, done_adopting}
use Rattle.vab_cli.specs.Program.{DoesVerb}
use Rattle.vab_cli.specs.Verbs.{command_of, done_making}
use Rattle.vab_rounds.specs.Rounds.{Run, Serves, Carries, Installs, Tells, Lives, IsRound}

-- A set is made into a device: by `make`, of none by `serve --fresh`, or of a number by `demo`.
abbrev pub IsMaking : Meaning → (size : ℕ) → (input : List ℕ) → List SetImage → (limit max : ℕ)
    → Type 0
IsMaking m size input set limit max =
    ((m ≡ Make limit max)
    × (length input ≤ 2 ^ 32)
    × (set_of input ≡ Ok set)
    × (refusal_of set limit max size ≡ None))
    ⊎ (((turns : ℕ) × (m ≡ Serve true turns)) × (6152 ≤ size) × (set ≡ []) × (limit ≡ 0) × (max
    ≡ 65536))
    ⊎ ((seed : ℕ)
    × (scale : ℕ)
    × (m ≡ Demo seed scale)
    × (refusal_of (fresh_set scale seed) 0 65536 size ≡ None)
    × (set ≡ fresh_set scale seed)
    × (limit ≡ 0)
    × (max ≡ 65536))

-- The words ask for no making. A disk that is a device isn't adopted.
abbrev pub MakesNone : Meaning → Type 0
MakesNone (Make limit max) = ⊥
MakesNone (Adopt slot) = Unit {0}
MakesNone (Serve fresh turns) = fresh ≡ false
MakesNone Install = Unit {0}
MakesNone Boot = Unit {0}
MakesNone Mark = Unit {0}
MakesNone BeginMerge = Unit {0}
MakesNone (Merge blocks) = Unit {0}
MakesNone Cancel = Unit {0}
MakesNone (Activate slot) = Unit {0}
MakesNone (Print name) = Unit {0}
MakesNone (Digest name) = Unit {0}
MakesNone Page = Unit {0}
MakesNone (Demo seed scale) = ⊥

-- What these words ask for, over this input: its session, the command, the set, a line, or the life
-- of a device. Nothing is told and changed where the disk fails or memory is refused before, or
-- where the input is no set.
abbrev pub IsRunOf : Meaning → (size : ℕ) → (input : List ℕ) → Mounted → Run → Type 0
IsRunOf m size input first (Serves turns exchanges unfinished waits) =
    ((fresh : Bool) × (m ≡ Serve fresh turns))
    × ((refused : ℕ → Bool)
    × (end : End)
    × IsSession (2 ^ 44) refused input exchanges unfinished end
    × (waits ≡ waits_in (2 ^ 44) input end))
IsRunOf m size input first (Carries command) = command_of m ≡ Some command
IsRunOf m size input first (Installs set) = (m ≡ Install) × (set_of input ≡ Ok set)
IsRunOf m size input first (Tells text) =
    (text ≡ [])
    ⊎ ((m ≡ Page) × (text ≡ page first.state))
    ⊎ ((slot : ℕ)
    × (m ≡ Adopt slot)
    × ((text ≡ adopt_line AlreadyDevice) ⊎ (text ≡ done_adopting slot first)))
    ⊎ ((set : List SetImage)
    × ((limit : ℕ) × (max : ℕ) × IsMaking m size input set limit max)
    × (text ≡ done_making set size))
IsRunOf m size input first (Lives made next) =
    (seed : ℕ)
    × (scale : ℕ)
    × (m ≡ Demo seed scale)
    × (made ≡ done_making (fresh_set scale seed) size)
    × (next ≡ next_set scale seed (fresh_set scale seed))

-- A cut leaves a round of what they ask for, begun on this device, and so a next one.
pub record LeavesRound
    (m : Meaning)
    (size : ℕ)
    (input : List ℕ)
    (first : Mounted)
    (told : List ℕ)
    (o : Outcome) : Type 0 where
  pub run : Run
  pub is : IsRunOf m size input first run
  pub next : Mounted
  pub round : IsRound size first (record { run = run; told = told; outcome = o }) next

module _ {D : Type 0} (g : Ghosts D) where
  -- what the program promises of a run of these words: all that they ask for, or that nothing is
  -- done for want of memory
  abbrev pub IsRun : Meaning → (old new : D) → Status → Type 0
  IsRun m old new status = (status ≡ NoMemory) × (new ≡ old) ⊎ DoesVerb g m old new status

  -- Each cut of a run on a device is a round.
  abbrev pub RunsAreRounds : Type 0
  RunsAreRounds =
      g.is_modelled
      → (m : Meaning)
      → (old new : D)
      → (status : Status)
      → IsRun m old new status
      → IsAtRest g old
      → MakesNone m
      → (first : Mounted)
      → IsIn (g.size old) first (g.seen old)
      → (o : Outcome)
      → g.outcomes new (g.moment old) o
      → LeavesRound m (g.size old) (g.input_left old) first (g.told old) o

  -- Where a device is made first, each cut is a round of the made device, or one from before it:
  -- the disk as it was, or no device, or the made one, with nothing told.
  abbrev pub MakingIsRound : Type 0
  MakingIsRound =
      g.is_modelled
      → (m : Meaning)
      → (old new : D)
      → (status : Status)
      → IsRun m old new status
      → IsAtRest g old
      → (set : List SetImage)
      → (limit max : ℕ)
      → IsMaking m (g.size old) (g.input_left old) set limit max
      → (o : Outcome)
      → g.outcomes new (g.moment old) o
      → LeavesRound m (g.size old) (g.input_left old)
      (made_device_of set limit max (g.size old)) (g.told old) o
      ⊎ LeavesMaking (g.told old) set limit max (g.size old) (g.seen old) o

  -- Where a disk is adopted, each cut is a round of the adopted device, or one from before it: the
  -- disk as it was, or no device, or the adopted one, with nothing told.
  abbrev pub AdoptingIsRound : Type 0
  AdoptingIsRound =
      g.is_modelled
      → (m : Meaning)
      → (old new : D)
      → (status : Status)
      → IsRun m old new status
      → IsAtRest g old
      → (slot : ℕ)
      → m ≡ Adopt slot
      → (first : Mounted)
      → adopted (g.size old) slot (g.seen old) ≡ Ok first
      → adopt_refusal (g.size old) slot (g.seen old) ≡ None
      → (o : Outcome)
      → g.outcomes new (g.moment old) o
      → LeavesRound m (g.size old) (g.input_left old) first (g.told old) o
      ⊎ LeavesAdopting (g.told old) (g.size old) slot (g.seen old) o
