-- What a run of the program promises.
use Rattle.std.specs.Prelude.{◌≡◌, ◌⊎◌, ◌^◌, ◌≤◌, ◌-◌, ℕ, List, [], ◌∷◌, ◌++◌, length, take, drop}
use Rattle.std.specs.Prelude.{codes, Bool, Option, Err}
use Rattle.vab_disk.specs.declared.disk.Disk.{Ghosts}
use Rattle.vab_disk.specs.Disk.{Image, Outcome, Adds, Faults, DiskFailed, SinkFailed, SourceFailed}
use Rattle.vab_disk.specs.Calls.{IsAtRest}
use Rattle.vab_set.specs.declared.set.SetImage.{SetImage}
use Rattle.vab_model.specs.declared.state.Image.{Image as ImageOfSlot}
use Rattle.vab_model.specs.Effects.{IsOneOf}
use Rattle.vab_device.specs.declared.fault.StartFault.{StartFault}
use Rattle.vab_device.specs.Mounted.{Mounted}
use Rattle.vab_device.specs.Reading.{device, IsIn}
use Rattle.vab_make.specs.Made.{made_device_of}
use Rattle.vab_make.specs.Making.{LeavesMaking}
use Rattle.vab_exchanges.specs.Session.{Exchange, End, IsSession, waits_in}
use Rattle.vab_exchanges.specs.Session as session
use Rattle.vab_exchanges.specs.Items.{Item, items_of, joined, kept_after, closing_of, final_of}
use Rattle.vab_exchanges.specs.Runs.{acknowledged, CrashesWithin, IsTold}
use Rattle.vab_exchanges.specs.Hearing.{HearsWhere}
use Rattle.vab_session.specs.Alone.{IsAlone, StandsAlone, FindsEnd, reached_in}
use Rattle.vab_session.specs.Responses.{machine}
use Rattle.vab_session.specs.Source.{HasKept, StandsKept, FindsGone}
use Rattle.vab_cli.specs.declared.status.Status.{Status}
use Rattle.vab_cli.specs.declared.status.Status.TheVariants.{Done, Usage, Malformed, Refused}
use Rattle.vab_cli.specs.declared.status.Status.TheVariants.{NotADevice, Disk, Port, NoMemory}
use Rattle.vab_session.specs.Served.{nothing_staged}
use Rattle.vab_cli.specs.Verbs.{line_item}
use Rattle.vab_cli.specs.MadeDisk.{HoldsMade}

-- ---- how a run ends

-- the session ends so, unless the disk or the port failed
abbrev pub SaysEnd : Status → End → Type 0
SaysEnd Done session.Closed = Unit {0}
SaysEnd Done session.Rebooted = Unit {0}
SaysEnd Malformed session.BadHello = Unit {0}
SaysEnd Malformed (session.TooLong n) = Unit {0}
SaysEnd Malformed (session.Cut at) = Unit {0}
SaysEnd Malformed (session.Overrun due came) = Unit {0}
SaysEnd Malformed session.Spent = Unit {0}
SaysEnd Port end = Unit {0}
SaysEnd Disk end = Unit {0}
SaysEnd Done session.BadHello = ⊥
SaysEnd Done (session.TooLong n) = ⊥
SaysEnd Done (session.Cut at) = ⊥
SaysEnd Done (session.Overrun due came) = ⊥
SaysEnd Done session.Spent = ⊥
SaysEnd Malformed session.Closed = ⊥
SaysEnd Malformed session.Rebooted = ⊥
SaysEnd Usage end = ⊥
SaysEnd Refused end = ⊥
SaysEnd NotADevice end = ⊥
SaysEnd NoMemory end = ⊥

-- the session ends between two packets, or behind a packet that asks for a boot
abbrev pub IsEnd : End → Type 0
IsEnd session.Closed = Unit {0}
IsEnd session.Rebooted = Unit {0}
IsEnd session.BadHello = ⊥
IsEnd (session.TooLong n) = ⊥
IsEnd (session.Cut at) = ⊥
IsEnd (session.Overrun due came) = ⊥
IsEnd session.Spent = ⊥

-- neither the disk nor the port failed
abbrev pub Held : Status → Type 0
Held Port = ⊥
Held Disk = ⊥
Held Done = Unit {0}
Held Malformed = Unit {0}
Held Usage = Unit {0}
Held Refused = Unit {0}
Held NotADevice = Unit {0}
Held NoMemory = Unit {0}

-- a run that ends before it has told anything, since the disk failed or memory was refused
abbrev pub IsEarly : Status → Type 0
IsEarly status = (status ≡ Disk) ⊎ (status ≡ NoMemory)

-- the disk or the port failed
abbrev pub IsFailed : Status → Type 0
IsFailed status = (status ≡ Disk) ⊎ (status ≡ Port)

-- no call has failed: no count of faults is one higher
pub record NoFault (before now : Faults) : Type 0 where
  pub disk : DiskFailed before now → ⊥
  pub source : SourceFailed before now → ⊥
  pub sink : SinkFailed before now → ⊥

-- ---- what a cut of power leaves

-- with nothing more told, this device
pub record LeavesFirst (told : List ℕ) (size : ℕ) (first : Mounted) (o : Outcome) : Type 0 where
  pub told_so_far : o.told ≡ told
  pub stands : IsIn size first o.image

-- some front of a line is told, and the disk is of this kind
pub record LeavesTelling
    (told line : List ℕ)
    (IsKind : Image → Type 0)
    (o : Outcome) : Type 0 where
  pub front : (n : ℕ) × (o.told ≡ told ++ take n line)
  pub kind : IsKind o.image

-- with nothing told, the disk as it was
pub record LeavesAsIs (told : List ℕ) (old : Image) (o : Outcome) : Type 0 where
  pub told_so_far : o.told ≡ told
  pub same : o.image ≡ old

-- every cut of power leaves it so
abbrev pub StaysAsIs : {D : Type 0} → Ghosts D → (old new : D) → Type 0
StaysAsIs g old new =
    IsAtRest g old
    → (o : Outcome)
    → g.outcomes new (g.moment old) o
    → LeavesAsIs (g.told old) (g.seen old) o

-- ---- runs

module _ {D : Type 0} (g : Ghosts D) (size : ℕ) where
  -- Items one behind another, from this device to that one. What was told is a front of the
  -- greeting and of what is told of them, and all of it where the run is `Whole`; then the disk is
  -- the last device. However power is cut, a front is told, and the disk is in a step of the first
  -- item that doesn't stand whole, after all the acknowledged ones. `Else` are the outcomes from
  -- before them.
  pub record RunsItems
      (Else : Outcome → Type 0)
      (greeting : List ℕ)
      (first : Mounted)
      (items : List (Item Mounted))
      (closing : List Mounted)
      (last : Mounted)
      (Whole : Type 0)
      (old new : D) : Type 0 where
    pub front : (n : ℕ) × (g.told new ≡ g.told old ++ take n (greeting ++ joined items))
    pub whole : Whole → g.told new ≡ g.told old ++ (greeting ++ joined items)
    pub stands : Whole → IsIn size last (g.seen new)
    pub settled : IsAtRest g old → Whole → IsAtRest g new
    pub every_cut : IsAtRest g old
        → (o : Outcome)
        → g.outcomes new (g.moment old) o
        → CrashesWithin (IsIn size) greeting first items closing (g.told old) o ⊎ Else o

  -- The input is a session of at most 2^44 bytes, with so many turns of a merge behind the hello
  -- and
  -- behind each reply, for some choice of the commands to which memory is refused. Its items run
  -- one behind another, all of them unless the disk or the port failed.
  -- It hears only where all that had come is answered. `Else` are the outcomes from before the
  -- session.
  pub record RunsSession
      (Else : Outcome → Type 0)
      (turns : ℕ)
      (first : Mounted)
      (old new : D)
      (status : Status) : Type 0 where
    pub refused : ℕ → Bool
    pub exchanges : List Exchange
    pub unfinished : Option (List ℕ)
    pub end : End
    pub session : IsSession (2 ^ 44) refused (g.input_left old) exchanges unfinished end
    -- no other is the input's for this choice
    pub only : (others : List Exchange) (v : Option (List ℕ)) (other : End)
        → IsSession (2 ^ 44) refused (g.input_left old) others v other
        → (others ≡ exchanges) × (v ≡ unfinished) × (other ≡ end)
    pub status_is : SaysEnd status end
    pub items : RunsItems Else (codes "FB01") first
        (items_of (machine turns) (nothing_staged first) exchanges unfinished)
        (closing_of (machine turns) unfinished (waits_in (2 ^ 44) (g.input_left old) end)
        (kept_after (machine turns) (nothing_staged first) exchanges))
        (final_of (machine turns) unfinished (waits_in (2 ^ 44) (g.input_left old) end)
        (kept_after (machine turns) (nothing_staged first) exchanges))
        (Held status) old new
    pub heard : HearsWhere
        (IsTold (machine turns) (nothing_staged first) exchanges (g.input_left old) (g.told old))
        (g.heard old)
        (g.heard new)
    -- From where one slot alone has images and no update is ready, as from the reply of the begin
    -- of a merge on: in every outcome it alone has images, the same ones, and a boot goes to it;
    -- or by then an update was ready, or the slot was wiped. An installation that isn't ended, or a
    -- wipe that isn't done, since that is refused, is none.
    pub alone : IsAtRest g old
        → (done later : List Exchange)
        → exchanges ≡ done ++ later
        → (slot : ℕ)
        → (images : List ImageOfSlot)
        → IsAlone slot images (kept_after (machine turns) (nothing_staged first) done).now
        → (o : Outcome)
        → g.outcomes new (g.moment old) o
        → (since : List ℕ)
        → o.told ≡ g.told old ++ since
        → length done
        ≤ acknowledged (items_of (machine turns) (nothing_staged first) exchanges unfinished)
        (drop 4 since)
        → (StandsAlone size slot images o.image
        ⊎ FindsEnd slot images
        (reached_in turns (kept_after (machine turns) (nothing_staged first) done) later unfinished
        (waits_in (2 ^ 44) (g.input_left old) end)
        (acknowledged (items_of (machine turns) (nothing_staged first) exchanges unfinished)
        (drop 4 since)
        - length done)))
        ⊎ Else o
    -- From where one slot alone has images, or the update that was installed from it is ready: in
    -- every outcome the slot has these images; or by then a merge from it was begun, or it was
    -- wiped. What isn't begun or done, since it is refused, is none.
    pub kept : IsAtRest g old
        → (done later : List Exchange)
        → exchanges ≡ done ++ later
        → (slot : ℕ)
        → (images : List ImageOfSlot)
        → HasKept slot images (kept_after (machine turns) (nothing_staged first) done).now
        → (o : Outcome)
        → g.outcomes new (g.moment old) o
        → (since : List ℕ)
        → o.told ≡ g.told old ++ since
        → length done
        ≤ acknowledged (items_of (machine turns) (nothing_staged first) exchanges unfinished)
        (drop 4 since)
        → (StandsKept size slot images o.image
        ⊎ FindsGone slot images
        (reached_in turns (kept_after (machine turns) (nothing_staged first) done) later unfinished
        (waits_in (2 ^ 44) (g.input_left old) end)
        (acknowledged (items_of (machine turns) (nothing_staged first) exchanges unfinished)
        (drop 4 since)
        - length done)))
        ⊎ Else o

  -- One item alone, all of it where the run ends as the item does.
  pub record RunsItem
      (first : Mounted)
      (item : Item Mounted)
      (ends : Status)
      (old new : D)
      (status : Status) : Type 0 where
    pub status_is : (status ≡ ends) ⊎ IsFailed status
    pub items : RunsItems (λ o. ⊥) [] first (item ∷ []) [] item.last.now (status ≡ ends) old new

  -- Memory was refused behind the opening: nothing is told, and the disk is in one of the item's
  -- steps, however power is cut.
  pub record RunsShort
      (first : Mounted)
      (item : Item Mounted)
      (old new : D)
      (status : Status) : Type 0 where
    pub memory : status ≡ NoMemory
    pub told : g.told new ≡ g.told old
    pub step : (s : Mounted) × IsOneOf item.steps s × IsIn size s (g.seen new)
    pub settled : IsAtRest g old → IsAtRest g new
    pub every_cut : IsAtRest g old
        → (o : Outcome)
        → g.outcomes new (g.moment old) o
        → CrashesWithin (IsIn size) [] first (item ∷ []) [] (g.told old) o

  -- The disk failed, or memory was refused, while the device was opened: nothing is told, and every
  -- cut of power leaves the device that it was. Where memory was refused nothing was written.
  pub record FailsBefore (first : Mounted) (old new : D) (status : Status) : Type 0 where
    pub early : IsEarly status
    pub told : g.told new ≡ g.told old
    pub same : status ≡ NoMemory → g.seen new ≡ g.seen old
    pub memory : status ≡ NoMemory → StaysAsIs g old new
    pub every_cut : IsAtRest g old
        → (o : Outcome)
        → g.outcomes new (g.moment old) o
        → LeavesFirst (g.told old) size first o

  -- A run that writes nothing, whatever fails: a front of this is told, and all of it where the run
  -- ends so. Where memory is refused nothing is told. Every cut of power leaves the disk as it was.
  -- So it ends, or with a failure of these, or want of memory.
  pub record RunsUnwritten
      (Fails : Status → Type 0)
      (line : List ℕ)
      (ends : Status)
      (old new : D)
      (status : Status) : Type 0 where
    pub status_is : (status ≡ ends) ⊎ (Fails status ⊎ (status ≡ NoMemory))
    pub front : (n : ℕ) × (g.told new ≡ g.told old ++ take n line)
    pub whole : status ≡ ends → g.told new ≡ g.told old ++ line
    pub untold : status ≡ NoMemory → g.told new ≡ g.told old
    pub same : g.seen new ≡ g.seen old
    pub time : IsAtRest g old
        → Adds g.moment g.outcomes old new
        (LeavesTelling (g.told old) line (λ image. image ≡ g.seen old))
    pub every_cut : IsAtRest g old
        → (o : Outcome)
        → g.outcomes new (g.moment old) o
        → LeavesTelling (g.told old) line (λ image. image ≡ g.seen old) o

  -- The disk is no device, and this line is told.
  abbrev pub RunsNone : (line : List ℕ) → (old new : D) → Status → Type 0
  RunsNone line old new status = RunsUnwritten IsFailed line NotADevice old new status

  -- Over a disk that is a device the run does this; over one that is none this line is told, and
  -- nothing is written.
  pub record RunsOpened
      (line : List ℕ)
      (Does : Mounted → Type 0)
      (old new : D)
      (status : Status) : Type 0 where
    pub opened : (s : Mounted) → IsIn size s (g.seen old) → Does s
    pub none : (fault : StartFault)
        → device size (g.seen old) ≡ Err fault
        → RunsNone line old new status

  -- What is asked for is refused, without a call of the disk.
  abbrev pub RunsRefused : (line : List ℕ) → (ends : Status) → (old new : D) → Status → Type 0
  RunsRefused line ends old new status = RunsUnwritten (λ s. s ≡ Port) line ends old new status

  -- this device, with a front of the line told; or an outcome from before it
  abbrev pub GivesWithin : (Outcome → Type 0) → Mounted → List ℕ → List ℕ → Outcome → Type 0
  GivesWithin Before first line told o =
      CrashesWithin (IsIn size) [] first (line_item first line ∷ []) [] told o ⊎ Before o

  -- The disk becomes this device, and this line is told. Until its last gate is settled, every cut
  -- of power leaves an outcome from before it; from then on the device, and the disk also holds
  -- what its images don't tell. Where memory is refused nothing is told or written.
  pub record RunsGiving
      (Before : Outcome → Type 0)
      (Holds : Image → Type 0)
      (first : Mounted)
      (line : List ℕ)
      (old new : D)
      (status : Status) : Type 0 where
    pub status_is : (status ≡ Done) ⊎ (IsFailed status ⊎ (status ≡ NoMemory))
    pub front : (n : ℕ) × (g.told new ≡ g.told old ++ take n line)
    pub whole : status ≡ Done → g.told new ≡ g.told old ++ line
    pub untold : status ≡ NoMemory → (g.told new ≡ g.told old) × (g.seen new ≡ g.seen old)
    pub memory : status ≡ NoMemory → StaysAsIs g old new
    pub stands : status ≡ Done → IsIn size first (g.seen new)
    pub holds : status ≡ Done → Holds (g.seen new)
    pub settled : status ≡ Done → IsAtRest g new
    pub time : IsAtRest g old
        → Adds g.moment g.outcomes old new (GivesWithin Before first line (g.told old))
    pub every_cut : IsAtRest g old
        → (o : Outcome)
        → g.outcomes new (g.moment old) o
        → GivesWithin Before first line (g.told old) o

  -- A device is made of a set: until then every cut of power leaves the disk as it was, or no
  -- device, or the made one, and from then on both copies of all there are two of are there.
  abbrev pub RunsMaking : List SetImage
      → (limit max : ℕ)
      → (line : List ℕ)
      → (old new : D)
      → Status
      → Type 0
  RunsMaking set limit max line old new status =
      RunsGiving (LeavesMaking (g.told old) set limit max size (g.seen old))
      (HoldsMade max (g.seen old))
      (made_device_of set limit max size)
      line old new status

  -- The disk failed, or memory was refused, while a device was made or the made one was opened:
  -- nothing is told, and every cut of power leaves the disk as it was, or no device, or the made
  -- one. Where memory was refused nothing was written, or the disk reads as the made device.
  pub record FailsMaking
      (set : List SetImage)
      (limit max : ℕ)
      (old new : D)
      (status : Status) : Type 0 where
    pub early : IsEarly status
    pub told : g.told new ≡ g.told old
    pub memory : status ≡ NoMemory
        → ((g.seen new ≡ g.seen old) × StaysAsIs g old new)
        ⊎ IsIn size (made_device_of set limit max size) (g.seen new)
    pub every_cut : IsAtRest g old
        → (o : Outcome)
        → g.outcomes new (g.moment old) o
        → LeavesMaking (g.told old) set limit max size (g.seen old) o
