-- Runs of the program, one after another: each is begun at rest on the disk that a cut of power has
-- left of the one before.
use Rattle.std.specs.Prelude.{◌≡◌, ◌⊎◌, ℕ, List, [], ◌∷◌, Option, Some, None, Ok}
use Rattle.vab_disk.specs.declared.disk.Disk.{Ghosts}
use Rattle.vab_disk.specs.Disk.{Image, Outcome}
use Rattle.vab_disk.specs.Calls.{IsAtRest}
use Rattle.vab_set.specs.declared.set.SetImage.{SetImage}
use Rattle.vab_device.specs.Mounted.{Mounted}
use Rattle.vab_device.specs.Reading.{IsIn}
use Rattle.vab_make.specs.Made.{made_device_of}
use Rattle.vab_make.specs.Making.{LeavesMaking}
use Rattle.vab_adopt.specs.Adopted.{adopted, adopt_refusal}
use Rattle.vab_adopt.specs.Adopting.{LeavesAdopting}
use Rattle.vab_words.specs.Verbs.{Adopt, Meaning}
use Rattle.vab_cli.specs.declared.status.Status.{Status}
use Rattle.vab_rounds.specs.Rounds.{Run, Tells, Round, IsRound, AreRounds}
use Rattle.vab_rounds.specs.Runs.{IsMaking, MakesNone, IsRunOf, IsRun}

-- A run: what its words ask for, nothing where they aren't taken; the port before and after it; the
-- status that it ends with; and what a cut of power left of it at some moment.
pub record CutRun (D : Type 0) : Type 0 where
  pub words : Option Meaning
  pub old : D
  pub new : D
  pub status : Status
  pub outcome : Outcome

-- a device isn't made
abbrev pub MakesNothing : Option Meaning → Type 0
MakesNothing (Some m) = MakesNone m
MakesNothing None = Unit {0}

abbrev pub MakeNothing : {D : Type 0} → List (CutRun D) → Type 0
MakeNothing [] = Unit {0}
MakeNothing (r ∷ rs) = MakesNothing r.words × MakeNothing rs

-- what these words ask for; nothing is told and changed where they aren't taken
abbrev pub IsAskedFor : Option Meaning → (size : ℕ) → (input : List ℕ) → Mounted → Run → Type 0
IsAskedFor (Some m) size input first run = IsRunOf m size input first run
IsAskedFor None size input first run = run ≡ Tells []

module _ {D : Type 0} (g : Ghosts D) where
  -- what the program promises
  abbrev pub IsPromised : Option Meaning → (old new : D) → Status → Type 0
  IsPromised (Some m) old new status = IsRun g m old new status
  IsPromised None old new status = new ≡ old

  -- It is one of the program, on a disk of so many sectors, of which nothing is pending.
  pub record IsCutRun (size : ℕ) (r : CutRun D) : Type 0 where
    pub sized : g.size r.old ≡ size
    pub rest : IsAtRest g r.old
    pub promised : IsPromised r.words r.old r.new r.status
    pub outcome : g.outcomes r.new (g.moment r.old) r.outcome

  -- The first begins on this disk, and each other on what was left of the one before.
  abbrev pub AreCutRuns : (size : ℕ) → Image → List (CutRun D) → Type 0
  AreCutRuns size image [] = Unit {0}
  AreCutRuns size image (r ∷ rs) =
      IsCutRun size r × (g.seen r.old ≡ image) × AreCutRuns size r.outcome.image rs

  -- A round of what the run asks for, on this device, which it leaves as that.
  pub record IsRoundOf (size : ℕ) (first : Mounted) (r : CutRun D) (round : Round) (next : Mounted)
      : Type 0 where
    pub asked : IsAskedFor r.words size (g.input_left r.old) first round.run
    pub told : round.told ≡ g.told r.old
    pub outcome : round.outcome ≡ r.outcome
    pub is : IsRound size first round next

  -- each run has its round, begun on what the one before has left
  abbrev pub AreRoundsOf : (size : ℕ) → Mounted → List (CutRun D) → List Round → Mounted → Type 0
  AreRoundsOf size first [] [] last = last ≡ first
  AreRoundsOf size first [] (round ∷ rounds) last = ⊥
  AreRoundsOf size first (r ∷ rs) [] last = ⊥
  AreRoundsOf size first (r ∷ rs) (round ∷ rounds) last =
      (next : Mounted)
      × IsRoundOf size first r round next
      × AreRoundsOf size next rs rounds last

  -- they are rounds of these runs, from this device to some last one
  pub record HaveRounds (size : ℕ) (first : Mounted) (runs : List (CutRun D)) : Type 0 where
    pub rounds : List Round
    pub last : Mounted
    pub of : AreRoundsOf size first runs rounds last
    pub are : AreRounds size first rounds last

  -- Runs on a device that make none are rounds.
  abbrev pub ChainsAreRounds : Type 0
  ChainsAreRounds =
      g.is_modelled
      → (size : ℕ)
      → (first : Mounted)
      → (image : Image)
      → (runs : List (CutRun D))
      → IsIn size first image
      → AreCutRuns size image runs
      → MakeNothing runs
      → HaveRounds size first runs

  -- Where the first one makes a device, they are rounds of the made device; or it was cut before,
  -- and has left what making leaves.
  abbrev pub MakingBeginsRounds : Type 0
  MakingBeginsRounds =
      g.is_modelled
      → (size : ℕ)
      → (image : Image)
      → (r : CutRun D)
      → (rs : List (CutRun D))
      → AreCutRuns size image (r ∷ rs)
      → MakeNothing rs
      → (m : Meaning)
      → r.words ≡ Some m
      → (set : List SetImage)
      → (limit max : ℕ)
      → IsMaking m size (g.input_left r.old) set limit max
      → HaveRounds size (made_device_of set limit max size) (r ∷ rs)
      ⊎ LeavesMaking (g.told r.old) set limit max size image r.outcome

  -- Where the first one adopts the disk, they are rounds of the adopted device; or it was cut
  -- before, and has left what adopting leaves.
  abbrev pub AdoptingBeginsRounds : Type 0
  AdoptingBeginsRounds =
      g.is_modelled
      → (size : ℕ)
      → (image : Image)
      → (r : CutRun D)
      → (rs : List (CutRun D))
      → AreCutRuns size image (r ∷ rs)
      → MakeNothing rs
      → (slot : ℕ)
      → r.words ≡ Some (Adopt slot)
      → (first : Mounted)
      → adopted size slot image ≡ Ok first
      → adopt_refusal size slot image ≡ None
      → HaveRounds size first (r ∷ rs)
      ⊎ LeavesAdopting (g.told r.old) size slot image r.outcome
