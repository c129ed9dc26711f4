-- What is done on a device that is open, one behind another, each closed by its line, until one is
-- refused.
use Rattle.std.specs.Prelude.{◌≡◌, ◌⊎◌, ℕ, Bool, true, false, if◌then◌else◌}
use Rattle.std.specs.Prelude.{List, [], ◌∷◌, ◌++◌, take, Result, Ok, Err, IfOk, IfErr, OnOk}
use Rattle.std.specs.Prelude.{IsErrOf}
use Rattle.vab_disk.specs.declared.disk.Disk.{Ghosts}
use Rattle.vab_disk.specs.Disk.{Outcome, Adds, DiskFailed, SinkFailed}
use Rattle.vab_disk.specs.Calls.{IsAtRest}
use Rattle.vab_set.specs.declared.set.SetImage.{SetImage}
use Rattle.vab_model.specs.Commands.{Command}
use Rattle.vab_model.specs.declared.command.Reply.{Reply}
use Rattle.vab_model.specs.declared.command.Reply.TheVariants as replies
use Rattle.vab_model.specs.Effects.{IsOneOf}
use Rattle.vab_device.specs.declared.device.Device.{Device}
use Rattle.vab_device.specs.Kept.{IsDevice}
use Rattle.vab_device.specs.Mounted.{Mounted, mounted_on}
use Rattle.vab_device.specs.Reading.{IsIn, Represents}
use Rattle.vab_commands.specs.Copies.{HasBothCopies}
use Rattle.vab_commands.specs.Touched.{ChangesAll}
use Rattle.vab_exchanges.specs.Items.{Item, joined}
use Rattle.vab_exchanges.specs.Runs.{LeavesItem}
use Rattle.vab_cli.specs.declared.status.Status.{Status}
use Rattle.vab_cli.specs.declared.status.Status.TheVariants.{Done, Usage, Malformed, Refused}
use Rattle.vab_cli.specs.declared.status.Status.TheVariants.{NotADevice, Disk, Port, NoMemory}
use Rattle.vab_cli.specs.Counts.{HearsNothing, IsSteady}
use Rattle.vab_cli.specs.Installing.{install_item, install_status}
use Rattle.vab_cli.specs.Runs.{Held, IsFailed, RunsItems}
use Rattle.vab_cli.specs.Verbs.{command_item, line_behind, line_item, verb_status}
use Rattle.vab_cli.specs.Written.{WritesActs}
use Rattle.vab_update.specs.Orders.{Order}

-- ---- what is done

-- What closes with one line: its item on a device, and the status that a run ends with where it
-- ends there.
pub record Act : Type 0 where
  pub item : Mounted → Item Mounted
  pub ends : Mounted → Status

-- a line is told
abbrev pub line_act : List ℕ → Act
line_act line = record { item = λ m. line_item m line; ends = λ m. Done }

-- a set is installed
abbrev pub install_act : List SetImage → Act
install_act set = record { item = λ m. install_item m set; ends = λ m. install_status m set }

-- a command is carried out, and its line told behind this
abbrev pub command_act : (front : List ℕ) → Command → Act
command_act front c = record {
  item = λ m. command_item m c (line_behind front m c);
  ends = λ m. verb_status m c;
}

-- ---- and what comes of it

-- the items, the device after them, and how they end
pub record Course : Type 0 where
  pub items : List (Item Mounted)
  pub last : Mounted
  pub ends : Status

abbrev pub is_done : Status → Bool
is_done Done = true
is_done Usage = false
is_done Malformed = false
is_done Refused = false
is_done NotADevice = false
is_done Disk = false
is_done Port = false
is_done NoMemory = false

-- an item, and the others unless it isn't done
abbrev pub followed : Item Mounted → Status → Course → Course
followed i ends rest =
    if is_done ends then record { items = i ∷ rest.items; last = rest.last; ends = rest.ends }
    else record { items = i ∷ []; last = i.last.now; ends = ends }

-- what comes of all of them on a device
unfoldable pub course : List Act → Mounted → Course
course [] m = record { items = []; last = m; ends = Done }
course (a ∷ xs) m = followed (a.item m) (a.ends m) (course xs (a.item m).last.now)

-- ---- where they are done

-- the device where a command of this reply is done, or the status
abbrev pub closed_by : Device → Reply → Result Device Status
closed_by d replies.Done = Ok d
closed_by d (replies.Booted slot) = Ok d
closed_by d (replies.Bytes name) = Ok d
closed_by d (replies.Digest sum) = Ok d
closed_by d (replies.Left blocks) = Ok d
closed_by d replies.Merged = Ok d
closed_by d (replies.Refused refusal) = Err Refused

-- the status that a run ends with
abbrev pub status_in : Result Device Status → Status
status_in (Ok d) = Done
status_in (Err status) = status

-- the same, where the last line is told: all are done, or one is refused
abbrev pub told_by : Result Device Status → Result Status Status
told_by (Ok d) = Ok Done
told_by (Err Refused) = Ok Refused
told_by (Err Done) = Err Done
told_by (Err Usage) = Err Usage
told_by (Err Malformed) = Err Malformed
told_by (Err NotADevice) = Err NotADevice
told_by (Err Disk) = Err Disk
told_by (Err Port) = Err Port
told_by (Err NoMemory) = Err NoMemory

-- one was refused, the disk or the port failed, or memory was refused
abbrev pub IsStop : Status → Type 0
IsStop status = (status ≡ Refused) ⊎ (IsFailed status ⊎ (status ≡ NoMemory))

-- An outcome while one of these items is done: those before it are told.
pub record LeavesAmong
    (size : ℕ)
    (items : List (Item Mounted))
    (told : List ℕ)
    (o : Outcome) : Type 0 where
  pub done : List (Item Mounted)
  pub item : Item Mounted
  pub later : List (Item Mounted)
  pub are : items ≡ done ++ item ∷ later
  pub leaves : LeavesItem (IsIn size) (told ++ joined done) item o

module _ {D : Type 0} (g : Ghosts D) where
  -- The items before one of these are told and no more, and the disk is in a step of it.
  pub record StopsAmong (size : ℕ) (items : List (Item Mounted)) (old new : D) : Type 0 where
    pub done : List (Item Mounted)
    pub item : Item Mounted
    pub later : List (Item Mounted)
    pub are : items ≡ done ++ item ∷ later
    pub told : g.told new ≡ g.told old ++ joined done
    pub step : (s : Mounted) × IsOneOf item.steps s × IsIn size s (g.seen new)
    pub settled : IsAtRest g old → IsAtRest g new

  -- What comes of a device is told, as it ends; unless the disk or the port failed or memory was
  -- refused.
  pub record RunsActs
      (size : ℕ)
      (Else : Outcome → Type 0)
      (first : Mounted)
      (c : Course)
      (old new : D)
      (status : Status) : Type 0 where
    pub status_is : (status ≡ c.ends) ⊎ (IsFailed status ⊎ (status ≡ NoMemory))
    pub items : RunsItems g size Else [] first c.items [] c.last (status ≡ c.ends) old new
    pub short : status ≡ NoMemory → StopsAmong size c.items old new

  -- This comes of a device. Where all is done, a device is kept, and it is the disk's. Unless the
  -- disk or the port failed, both copies of each table agree in the end. It hears nothing, and
  -- writes what commands may.
  pub record Performs
      (d : Device)
      (c : Course)
      (old new : D)
      (result : Result Device Status) : Type 0 where
    pub size : g.size new ≡ g.size old
    pub kept : IfOk result (λ next. IsDevice next (g.size old))
    pub geometry : IfOk result (λ next. next.geometry ≡ d.geometry)
    pub represents : g.is_modelled
        → IfOk result (λ next. Represents next (g.size old) (g.seen new))
    pub ends : g.is_modelled → OnOk (told_by result) (status_in result ≡ c.ends)
    pub told : g.is_modelled → OnOk (told_by result) (g.told new ≡ g.told old ++ joined c.items)
    pub stands : g.is_modelled → OnOk (told_by result) (IsIn (g.size old) c.last (g.seen new))
    pub copies : g.is_modelled
        → Held (status_in result)
        → HasBothCopies (g.size old) (g.seen new)
    pub rest : g.is_modelled → IsAtRest g old → OnOk (told_by result) (IsAtRest g new)
    pub front : g.is_modelled → (n : ℕ) × (g.told new ≡ g.told old ++ take n (joined c.items))
    pub short : g.is_modelled
        → IsErrOf result NoMemory
        → StopsAmong (g.size old) c.items old new
    pub time : g.is_modelled
        → IsAtRest g old
        → Adds g.moment g.outcomes old new (LeavesAmong (g.size old) c.items (g.told old))
    pub changes : g.is_modelled → ChangesAll g d old new
    pub quiet : g.is_modelled → HearsNothing g old new
    pub stop : IfErr result IsStop
    pub steady : IsSteady g old new (status_in result)
    pub disk : IsErrOf result Disk → DiskFailed (g.faults old) (g.faults new)
    pub port : IsErrOf result Port → SinkFailed (g.faults old) (g.faults new)

-- these acts, on the device that is kept
abbrev pub PerformsActs : {D : Type 0}
    → Ghosts D
    → Device
    → List Act
    → (old new : D)
    → Result Device Status
    → Type 0
PerformsActs g d acts old new result =
    Performs g d (course acts (mounted_on d (g.seen old))) old new result

-- the same, and what they write is what these commands write in turn
pub record DoesActs {D : Type 0}
    (g : Ghosts D)
    (d : Device)
    (acts : List Act)
    (orders : List Order)
    (old new : D)
    (result : Result Device Status) : Type 0 where
  pub performs : PerformsActs g d acts old new result
  pub writes : g.is_modelled → WritesActs g d orders old new result
