-- What is promised of commands that are carried out one after another.
use Rattle.std.specs.Prelude.{◌≡◌, ℕ, List, Result, Ok, Err, IfOk, IfErr, OnOk}
use Rattle.vab_disk.specs.declared.disk.Disk.{Ghosts}
use Rattle.vab_disk.specs.Disk.{Image, Adds, DiskFailed}
use Rattle.vab_disk.specs.Calls.{IsAtRest, IsQuiet}
use Rattle.vab_model.specs.declared.command.Refusal.{Refusal}
use Rattle.vab_model.specs.declared.command.Refusal.TheVariants.{NoMemory}
use Rattle.vab_model.specs.declared.command.Reply.TheVariants as replies
use Rattle.vab_model.specs.Effects.{Effect, steps_of, after_of, IsOneOf}
use Rattle.vab_device.specs.declared.device.Device.{Device}
use Rattle.vab_device.specs.Does.{LeavesStep, KeepsSource}
use Rattle.vab_device.specs.Kept.{IsDevice}
use Rattle.vab_device.specs.Mounted.{Mounted, mounted_on}
use Rattle.vab_device.specs.Reading.{device, Represents}
use Rattle.vab_commands.specs.Copies.{HasBothCopies}
use Rattle.vab_commands.specs.Touched.{ChangesDevice}
use Rattle.vab_update.specs.declared.stop.Stop.{Stop}
use Rattle.vab_update.specs.declared.stop.Stop.TheVariants as stops
use Rattle.vab_update.specs.Orders.{Order, effect_all}

-- the disk has not failed
abbrev pub UnlessFailed : {A : Type 0} → Result A Stop → Type 0 → Type 0
UnlessFailed (Ok x) P = P
UnlessFailed (Err (stops.Refused refusal)) P = P
UnlessFailed (Err (stops.Disk fault)) P = Unit {0}

-- it has
abbrev pub IfFailed : {A : Type 0} → Result A Stop → Type 0 → Type 0
IfFailed (Ok x) P = Unit {0}
IfFailed (Err (stops.Refused refusal)) P = Unit {0}
IfFailed (Err (stops.Disk fault)) P = P

-- the disk is one of these devices
pub record IsAmong (steps : List Mounted) (size : ℕ) (image : Image) : Type 0 where
  pub mounted : Mounted
  pub step : IsOneOf steps mounted
  pub means : device size image ≡ Ok mounted

-- A refusal other than want of memory is the one of the effect, and the disk the device after it.
pub record IsRefusedBy
    (m : Mounted)
    (e : Effect Mounted)
    (size : ℕ)
    (image : Image)
    (refusal : Refusal) : Type 0 where
  pub reply : e.reply ≡ replies.Refused refusal
  pub means : device size image ≡ Ok (after_of m e)

abbrev pub UnlessWant : Refusal → Type 0 → Type 0
UnlessWant refusal P = (refusal ≡ NoMemory → ⊥) → P

-- why they end before all are done
abbrev pub IsStop : Mounted → Effect Mounted → ℕ → Image → Stop → Type 0
IsStop m e size image (stops.Refused refusal) =
    UnlessWant refusal (IsRefusedBy m e size image refusal)
IsStop m e size image (stops.Disk fault) = Unit {0}

-- The commands are carried out one after another, until one is refused or the disk fails, and make
-- this of the device. Where all are done, the device that is kept is the one after them. Where
-- nothing was pending each outcome since is one of their steps. What they may write is what
-- commands that merge nothing may. Where memory is refused to one of them, the disk is in one of
-- the steps. Unless the disk fails, both copies of each table agree in the end.
pub record Carries {D : Type 0}
    (g : Ghosts D)
    (d : Device)
    (m : Mounted)
    (e : Effect Mounted)
    (old new : D)
    (result : Result Device Stop) : Type 0 where
  pub kept : IfOk result (λ next. IsDevice next (g.size old))
  pub source : IfOk result (KeepsSource d)
  pub represents : g.is_modelled
      → IfOk result (λ next. Represents next (g.size old) (g.seen new))
  pub after : g.is_modelled → IfOk result (λ next. mounted_on next (g.seen new) ≡ after_of m e)
  pub whole : g.is_modelled → OnOk result (e.reply ≡ replies.Done)
  pub stop : g.is_modelled → IfErr result (IsStop m e (g.size old) (g.seen new))
  pub among : g.is_modelled
      → UnlessFailed result (IsAmong (steps_of m e) (g.size old) (g.seen new))
  pub copies : g.is_modelled → UnlessFailed result (HasBothCopies (g.size old) (g.seen new))
  pub rest : g.is_modelled → IsAtRest g old → UnlessFailed result (IsAtRest g new)
  pub quiet : IsQuiet g old new
  pub changes : g.is_modelled → ChangesDevice g d old new
  pub time : g.is_modelled
      → IsAtRest g old
      → Adds g.moment g.outcomes old new (LeavesStep (g.told old) (g.size old) (steps_of m e))
  pub steady : UnlessFailed result (g.faults new ≡ g.faults old)
  pub cause : IfFailed result (DiskFailed (g.faults old) (g.faults new))

-- these commands, on the device that is kept
abbrev pub CarriesOut : {D : Type 0}
    → Ghosts D
    → Device
    → List Order
    → (old new : D)
    → Result Device Stop
    → Type 0
CarriesOut g d orders old new result =
    Carries g d (mounted_on d (g.seen old)) (effect_all orders (mounted_on d (g.seen old)))
    old new result
