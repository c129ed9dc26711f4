-- The step of a begin and of a cancel: the disk with another mark is the next device.
use Rattle.std.proofs.Common.{◌≡◌, ℕ, List}
use Rattle.std.specs.Prelude.{Bool, Option}
use Rattle.vab_disk.specs.Disk.{Image, set_sector}
use Rattle.vab_model.specs.declared.command.Reply.{Reply}
use Rattle.vab_model.specs.Commands.{Command}
use Rattle.vab_model.specs.Effects.{does, wanting}
use Rattle.vab_device.specs.declared.device.Device.{Device}
use Rattle.vab_device.specs.Mounted.{mounted_on}
use Rattle.vab_device.specs.Reading.{Represents}
use Rattle.vab_device.specs.Updates.{effect_on}

-- these bytes in the sector of the mark
abbrev pub marked : Image → List ℕ → Image
marked image spelling = set_sector image 2048 spelling

-- A disk is the next device, and that is the one step of the command.
pub record IsStep
    (d next : Device)
    (staged : Option (List ℕ))
    (command : Command)
    (reply : Reply)
    (wants : Bool)
    (size : ℕ)
    (old new : Image) : Type 0 where
  pub represents : Represents next size new
  pub effect : effect_on (mounted_on d old) staged command
      ≡ wanting wants (does reply (mounted_on next new))
