-- The statuses and their numbers.
use Rattle.std.specs.Prelude.{ℕ, Ok, Err}
use Rattle.vab_session.specs.Served.{Answer}
use Rattle.vab_session.specs.declared.fault.SessionFault.{SessionFault}
use Rattle.vab_session.specs.declared.fault.SessionFault.TheVariants as session
use Rattle.vab_device.specs.declared.fault.StartFault.{StartFault}
use Rattle.vab_device.specs.declared.fault.StartFault.TheVariants as start
use Rattle.vab_adopt.specs.declared.fault.AdoptFault.{AdoptFault}
use Rattle.vab_adopt.specs.declared.fault.AdoptFault.TheVariants.{AlreadyDevice, NoDevice}
use Rattle.vab_make.specs.declared.fault.MakeFault.{MakeFault}
use Rattle.vab_make.specs.declared.fault.MakeFault.TheVariants as make
use Rattle.vab_input.specs.declared.input.InputFault.{InputFault}
use Rattle.vab_input.specs.declared.input.InputFault.TheVariants as input
use Rattle.vab_set.specs.declared.fault.SetFault.{SetFault}
use Rattle.vab_set.specs.declared.fault.SetFault.TheVariants as set
use Rattle.vab_model.specs.declared.command.Reply.{Reply}
use Rattle.vab_model.specs.declared.command.Reply.TheVariants as replies
use Rattle.vab_cli.specs.declared.status.Status.{Status}
use Rattle.vab_cli.specs.declared.status.Status.TheVariants.{Done, Usage, Malformed, Refused}
use Rattle.vab_cli.specs.declared.status.Status.TheVariants.{NotADevice, Disk, Port, NoMemory}

abbrev pub code_of : Status → ℕ
code_of Done = 0
code_of Usage = 2
code_of Malformed = 3
code_of Refused = 4
code_of NotADevice = 5
code_of Disk = 6
code_of Port = 7
code_of NoMemory = 8

-- the status of a session that stops by a fault
abbrev pub status_of : SessionFault → Status
status_of session.Disk = Disk
status_of session.Source = Port
status_of session.Sink = Port
status_of session.BadHello = Malformed
status_of (session.TooLong n) = Malformed
status_of (session.Cut at) = Malformed
status_of (session.Overrun due came) = Malformed
status_of session.Spent = Malformed

-- the status of what a session answers
abbrev pub session_status : Answer → Status
session_status (Ok r) = Done
session_status (Err fault) = status_of fault

-- the status where a device isn't opened
abbrev pub start_status : StartFault → Status
start_status (start.TooSmall need have) = NotADevice
start_status (start.BadMark sector) = NotADevice
start_status (start.BadControl fault) = NotADevice
start_status start.BadPhysical = NotADevice
start_status start.BadGeometry = NotADevice
start_status (start.BadTable slot) = NotADevice
start_status (start.BadPartition name) = NotADevice
start_status (start.BadStore name) = NotADevice
start_status (start.BadState rule) = NotADevice
start_status start.NoMemory = NoMemory
start_status (start.Disk fault) = Disk

-- the status where a disk isn't adopted
abbrev pub adopt_status : AdoptFault → Status
adopt_status AlreadyDevice = Refused
adopt_status (NoDevice fault) = start_status fault

-- the status where a device isn't made
abbrev pub make_status : MakeFault → Status
make_status (make.TooSmall need have) = NotADevice
make_status (make.GroupLimit used limit) = Refused
make_status (make.NoRoom used cap) = Refused
make_status (make.TableFull size max) = Refused
make_status make.NoMemory = NoMemory
make_status (make.Disk fault) = Disk

-- the status where the input isn't had, or is no set of images
abbrev pub input_status : InputFault → Status
input_status input.TooLong = Malformed
input_status input.Source = Port
input_status input.NoMemory = NoMemory

abbrev pub set_status : SetFault → Status
set_status set.BadMagic = Malformed
set_status (set.TooMany count) = Malformed
set_status (set.BadName image) = Malformed
set_status (set.Repeated first image) = Malformed
set_status (set.TooBig image) = Malformed
set_status (set.Cut image) = Malformed
set_status set.Trailing = Malformed
set_status set.NoMemory = NoMemory

-- the status of a command that was replied to
abbrev pub reply_status : Reply → Status
reply_status (replies.Refused refusal) = Refused
reply_status replies.Done = Done
reply_status (replies.Booted slot) = Done
reply_status (replies.Bytes name) = Done
reply_status (replies.Digest sum) = Done
reply_status (replies.Left blocks) = Done
reply_status replies.Merged = Done
