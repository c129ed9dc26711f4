-- The verb `adopt`.
use Rattle.std.specs.Prelude.{◌≡◌, ℕ, Bool, true, false, List, [], length, codes, Some, None, Ok}
use Rattle.vab_disk.specs.declared.disk.Disk.{Ghosts}
use Rattle.vab_device.specs.declared.fault.StartFault.{StartFault}
use Rattle.vab_device.specs.declared.fault.StartFault.TheVariants as start
use Rattle.vab_device.specs.Mounted.{Mounted}
use Rattle.vab_adopt.specs.declared.fault.AdoptFault.{AdoptFault}
use Rattle.vab_adopt.specs.declared.fault.AdoptFault.TheVariants.{AlreadyDevice, NoDevice}
use Rattle.vab_adopt.specs.Adopted.{adopted, adopt_refusal, blocks_in, images_of}
use Rattle.vab_adopt.specs.Adopting.{LeavesAdopting}
use Rattle.vab_lines.specs.Lines.{adopted_line}
use Rattle.vab_cli.specs.declared.status.Status.{Status}
use Rattle.vab_cli.specs.Codes.{adopt_status}
use Rattle.vab_cli.specs.Runs.{IsFailed, RunsGiving, RunsUnwritten}
use Rattle.vab_cli.specs.Verbs.{line, none_line}

-- ---- what is told

-- the disk is adopted as this device
abbrev pub done_adopting : (slot : ℕ) → Mounted → List ℕ
done_adopting slot m =
    adopted_line (length (images_of slot m)) (blocks_in (images_of slot m)) m.state.cap

-- nothing is told where memory was refused or the disk failed
abbrev pub is_silent_start : StartFault → Bool
is_silent_start (start.TooSmall need have) = false
is_silent_start (start.BadMark sector) = false
is_silent_start (start.BadControl fault) = false
is_silent_start start.BadPhysical = false
is_silent_start start.BadGeometry = false
is_silent_start (start.BadTable slot) = false
is_silent_start (start.BadPartition name) = false
is_silent_start (start.BadStore name) = false
is_silent_start (start.BadState rule) = false
is_silent_start start.NoMemory = true
is_silent_start (start.Disk fault) = true

abbrev pub is_silent : AdoptFault → Bool
is_silent AlreadyDevice = false
is_silent (NoDevice fault) = is_silent_start fault

abbrev pub start_line : StartFault → List ℕ
start_line (start.TooSmall need have) = none_line
start_line (start.BadMark sector) = none_line
start_line (start.BadControl fault) = none_line
start_line start.BadPhysical = none_line
start_line start.BadGeometry = none_line
start_line (start.BadTable slot) = none_line
start_line (start.BadPartition name) = none_line
start_line (start.BadStore name) = none_line
start_line (start.BadState rule) = none_line
start_line start.NoMemory = []
start_line (start.Disk fault) = []

-- why it isn't adopted
abbrev pub adopt_line : AdoptFault → List ℕ
adopt_line AlreadyDevice = line (codes "refused: already a device")
adopt_line (NoDevice fault) = start_line fault

-- ---- what a run promises

module _ {D : Type 0} (g : Ghosts D) where
  -- It is adopted: until then every cut of power leaves the disk as it was, or no device, or the
  -- adopted one.
  abbrev pub RunsAdopting : (size slot : ℕ) → Mounted → (old new : D) → Status → Type 0
  RunsAdopting size slot first old new status =
      RunsGiving g size (LeavesAdopting (g.told old) size slot (g.seen old)) (λ image. Unit {0})
      first (done_adopting slot first) old new status

  -- The disk is adopted, and that is told. Or it isn't, and that is told: nothing is written,
  -- whatever fails.
  pub record Adopts (slot : ℕ) (old new : D) (status : Status) : Type 0 where
    pub adopts : (first : Mounted)
        → adopted (g.size old) slot (g.seen old) ≡ Ok first
        → adopt_refusal (g.size old) slot (g.seen old) ≡ None
        → RunsAdopting (g.size old) slot first old new status
    pub refused : (fault : AdoptFault)
        → adopt_refusal (g.size old) slot (g.seen old) ≡ Some fault
        → RunsUnwritten g (g.size old) IsFailed (adopt_line fault) (adopt_status fault) old new
        status
