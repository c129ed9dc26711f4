-- What is promised of a command on a device.
use Rattle.std.specs.Prelude.{◌≡◌, ℕ, Bool, false, List, [], Option, Result, Ok, IfOk, OnOk}
use Rattle.vab_disk.specs.declared.disk.Disk.{Ghosts}
use Rattle.vab_disk.specs.Disk.{Outcome, Adds}
use Rattle.vab_disk.specs.Calls.{FailsWithDisk, IsAtRest, IsQuiet, OnlyReads, Touches}
use Rattle.vab_gate.specs.declared.gate.DiskFault.{DiskFault}
use Rattle.vab_model.specs.declared.command.Reply.{Reply}
use Rattle.vab_model.specs.Commands.{Command}
use Rattle.vab_model.specs.Effects.{Effect, steps_of, after_of, IsOneOf, unless_refused}
use Rattle.vab_model.specs.Kinds.{changes_source}
use Rattle.vab_device.specs.declared.device.Device.{Device}
use Rattle.vab_device.specs.Kept.{IsDevice, parts_at}
use Rattle.vab_device.specs.Mounted.{Mounted, mounted_on}
use Rattle.vab_device.specs.Reading.{device, Represents}
use Rattle.vab_device.specs.Updates.{effect_on}

-- with nothing more told, the disk is one of these devices
pub record LeavesStep (told : List ℕ) (size : ℕ) (steps : List Mounted) (o : Outcome) : Type 0 where
  pub told_so_far : o.told ≡ told
  pub mounted : Mounted
  pub step : IsOneOf steps mounted
  pub means : device size o.image ≡ Ok mounted

-- What a command makes of the device on a disk, where these bytes are staged, and memory is refused
-- to it or not.
abbrev pub effect_of : {D : Type 0}
    → Ghosts D
    → Device
    → Option (List ℕ)
    → Command
    → Bool
    → D
    → Effect Mounted
effect_of g d staged command refused old =
    unless_refused refused (effect_on (mounted_on d (g.seen old)) staged command)

-- What no command but a merge takes from a device: where the tables stand, the slot of the update
-- mark, and the partitions of that slot.
pub record KeepsSource (d next : Device) : Type 0 where
  pub geometry : next.geometry ≡ d.geometry
  pub slot : next.mark.slot ≡ d.mark.slot
  pub parts : parts_at next d.mark.slot ≡ parts_at d d.mark.slot

-- What a command keeps of a device: where the tables stand, and unless it is one of a merge the
-- rest of the source.
pub record Follows (d : Device) (command : Command) (next : Device) : Type 0 where
  pub geometry : next.geometry ≡ d.geometry
  pub source : changes_source command ≡ false → KeepsSource d next

-- The reply and the device after it are those of the table of effects, and where nothing was
-- pending each outcome since is one of its steps. It touches such sectors alone, and a refusal or
-- an answer to a question, which no device follows, writes nothing, also where the disk fails.
-- Memory may be refused to it. An error comes where the disk has failed.
pub record Does {D : Type 0}
    (g : Ghosts D)
    (d : Device)
    (staged : Option (List ℕ))
    (command : Command)
    (W : ℕ → List ℕ → Type 0)
    (old new : D)
    (result : Result (Device × Reply) DiskFault) : Type 0 where
  pub refused : Bool
  pub kept : IfOk result (λ r. IsDevice r.0 (g.size old))
  pub follows : IfOk result (λ r. Follows d command r.0)
  pub represents : g.is_modelled → IfOk result (λ r. Represents r.0 (g.size old) (g.seen new))
  pub after : g.is_modelled → IfOk result
      (λ r. mounted_on r.0 (g.seen new)
      ≡ after_of (mounted_on d (g.seen old)) (effect_of g d staged command refused old))
  pub reply : g.is_modelled → IfOk result
      (λ r. r.1 ≡ (effect_of g d staged command refused old).reply)
  pub rest : g.is_modelled → IsAtRest g old → OnOk result (IsAtRest g new)
  pub quiet : IsQuiet g old new
  pub still : g.is_modelled
      → (effect_of g d staged command refused old).later ≡ []
      → OnlyReads g old new
  pub touches : g.is_modelled → Touches g W old new
  pub time : g.is_modelled
      → IsAtRest g old
      → Adds g.moment g.outcomes old new
      (LeavesStep (g.told old) (g.size old)
      (steps_of (mounted_on d (g.seen old)) (effect_of g d staged command refused old)))
  pub faults : FailsWithDisk g old new result
