-- How a session over a device ends, and what it leaves.
use Rattle.std.specs.Prelude.{◌≡◌, ◌⊎◌, ℕ, List, Option, Some, None, Result, Ok, Err, MatchResult}
use Rattle.std.specs.Prelude.{option_map}
use Rattle.vab_disk.specs.Disk.{Image, NoFewer, DiskFailed, SinkFailed, SourceFailed}
use Rattle.vab_disk.specs.declared.disk.Disk.{Ghosts}
use Rattle.vab_device.specs.declared.device.Device.{Device}
use Rattle.vab_device.specs.Mounted.{Mounted, mounted_on}
use Rattle.vab_device.specs.Reading.{IsIn}
use Rattle.vab_exchanges.specs.Session.{End}
use Rattle.vab_exchanges.specs.Session as session
use Rattle.vab_exchanges.specs.Items.{Kept}
use Rattle.vab_exchanges.specs.Runs.{Answers, FailsWhole, FailsOpen, BreaksOff, Serves}
use Rattle.vab_session.specs.Responses.{response, machine}
use Rattle.vab_session.specs.declared.fault.Ended.{Ended}
use Rattle.vab_session.specs.declared.fault.Ended.TheVariants.{Closed, Rebooted}
use Rattle.vab_session.specs.declared.fault.SessionFault.{SessionFault}
use Rattle.vab_session.specs.declared.fault.SessionFault.TheVariants.{BadHello, TooLong, Overrun}
use Rattle.vab_session.specs.declared.fault.SessionFault.TheVariants.{Cut, Spent, Disk, Source}
use Rattle.vab_session.specs.declared.fault.SessionFault.TheVariants.{Sink}
use Rattle.vab_session.specs.declared.kept.KeptDevice.{KeptDevice}

-- the device on a disk, and the staged bytes
abbrev pub kept_on : KeptDevice → Image → Kept Mounted
kept_on k image = record {
  now = mounted_on k.device image;
  staged = option_map (λ v. v.items) k.staged;
}

-- a device, with nothing staged
abbrev pub nothing_staged : Mounted → Kept Mounted
nothing_staged m = record { now = m; staged = None }

-- what a session answers
abbrev pub Answer : Type 0
Answer = Result (Ended × Device) SessionFault

abbrev pub ended : Ended → End
ended Closed = session.Closed
ended (Rebooted slot) = session.Rebooted

-- what was answered ends so, unless the disk or the port failed
abbrev pub Says : Answer → End → Type 0
Says (Ok r) end = ended r.0 ≡ end
Says (Err BadHello) end = session.BadHello ≡ end
Says (Err (TooLong n)) end = session.TooLong n ≡ end
Says (Err (Overrun due came)) end = session.Overrun due came ≡ end
Says (Err (Cut at)) end = session.Cut at ≡ end
Says (Err Spent) end = session.Spent ≡ end
Says (Err Disk) end = Unit {0}
Says (Err Source) end = Unit {0}
Says (Err Sink) end = Unit {0}

-- neither the disk nor the port failed
abbrev pub HeldBy : SessionFault → Type 0
HeldBy BadHello = Unit {0}
HeldBy (TooLong n) = Unit {0}
HeldBy (Overrun due came) = Unit {0}
HeldBy (Cut at) = Unit {0}
HeldBy Spent = Unit {0}
HeldBy Disk = ⊥
HeldBy Source = ⊥
HeldBy Sink = ⊥

abbrev pub Held : {A : Type 0} → Result A SessionFault → Type 0
Held (Ok r) = Unit {0}
Held (Err fault) = HeldBy fault

-- the device that is known in the end
abbrev pub reached : Answer → Image → Option Mounted
reached (Ok r) image = Some (mounted_on r.1 image)
reached (Err fault) image = None

-- a reboot says the slot that the device is in
abbrev pub SaysSlot : Ended → Device → Type 0
SaysSlot Closed d = Unit {0}
SaysSlot (Rebooted slot) d = slot ≡ d.control.current

module _ {D : Type 0} (size : ℕ) (g : Ghosts D) where
  -- what answering a command leaves where it fails
  abbrev pub Fails :
      Kept Mounted
      → (command before beyond : List ℕ)
      → (count total most : ℕ)
      → (old new : D)
      → SessionFault
      → Type 0
  Fails k command before beyond count total most old new Disk =
      FailsWhole response (IsIn size) g k command before beyond old new
  Fails k command before beyond count total most old new Sink =
      FailsWhole response (IsIn size) g k command before beyond old new
      ⊎ FailsOpen response (IsIn size) g k command before beyond old new
  Fails k command before beyond count total most old new Source =
      FailsOpen response (IsIn size) g k command before beyond old new
  Fails k command before beyond count total most old new BadHello =
      BreaksOff response (IsIn size) g k command before beyond count total most
      session.BadHello old new
  Fails k command before beyond count total most old new (TooLong n) =
      BreaksOff response (IsIn size) g k command before beyond count total most
      (session.TooLong n) old new
  Fails k command before beyond count total most old new (Overrun due came) =
      BreaksOff response (IsIn size) g k command before beyond count total most
      (session.Overrun due came) old new
  Fails k command before beyond count total most old new (Cut at) =
      BreaksOff response (IsIn size) g k command before beyond count total most
      (session.Cut at) old new
  Fails k command before beyond count total most old new Spent =
      BreaksOff response (IsIn size) g k command before beyond count total most
      session.Spent old new

  -- A packet is answered: these bytes stood behind it, and those stand behind its data.
  abbrev pub AnswersOrFails :
      Kept Mounted
      → (command before after beyond : List ℕ)
      → (count total most : ℕ)
      → (old new : D)
      → Result KeptDevice SessionFault
      → Type 0
  AnswersOrFails k command before after beyond count total most old new result =
      MatchResult result
      (λ k'. Answers response (IsIn size) g k (kept_on k' (g.seen new))
      command before after beyond old new)
      (Fails k command before beyond count total most old new)

  -- The session of the input, from this device on, with so many turns of a merge behind the hello
  -- and behind each reply.
  abbrev pub ServesDevice : Device → (most turns : ℕ) → (old new : D) → Answer → Type 0
  ServesDevice d most turns old new result =
      Serves (machine turns) (IsIn size) g
      (Held result) (Says result) (reached result (g.seen new))
      most (nothing_staged (mounted_on d (g.seen old))) old new

-- A fault of the disk, the source or the sink comes only where one call of it failed, and no other
-- call did. With any other answer the counts are as they were.
pub record HasCause {D A : Type 0}
    (g : Ghosts D)
    (old new : D)
    (result : Result A SessionFault) : Type 0 where
  pub counts : NoFewer (g.faults old) (g.faults new)
  pub steady : Held result → g.faults new ≡ g.faults old
  pub disk : result ≡ Err Disk → DiskFailed (g.faults old) (g.faults new)
  pub source : result ≡ Err Source → SourceFailed (g.faults old) (g.faults new)
  pub sink : result ≡ Err Sink → SinkFailed (g.faults old) (g.faults new)
