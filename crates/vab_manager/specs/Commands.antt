-- What is promised of a command on slots.
use Rattle.std.specs.Prelude.{ℕ, List, Option, Result}
use Rattle.vab_disk.specs.declared.disk.Disk.{Ghosts}
use Rattle.vab_gate.specs.declared.gate.DiskFault.{DiskFault}
use Rattle.vab_model.specs.declared.command.Reply.{Reply}
use Rattle.vab_model.specs.Commands.{Command}
use Rattle.vab_device.specs.declared.device.Device.{Device}
use Rattle.vab_device.specs.Does.{Does}
use Rattle.vab_manager.specs.Controls.{IsOfCommand}

-- What is promised of each command, where it writes boot control's sector alone, by the boot rules.
abbrev pub DoesCommand : {D : Type 0}
    → Ghosts D
    → Device
    → Option (List ℕ)
    → Command
    → (old new : D)
    → Result (Device × Reply) DiskFault
    → Type 0
DoesCommand g d staged command old new result =
    Does g d staged command (IsOfCommand d (g.seen old 4) command) old new result
