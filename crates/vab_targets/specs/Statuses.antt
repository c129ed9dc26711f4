-- A flash finds a sector for its status.
use Rattle.std.specs.Prelude.{◌≡◌, ℕ, List, Option, Some}
use Rattle.vab_disk.specs.Disk.{Image}
use Rattle.vab_space.specs.declared.Chunk.{Chunk}
use Rattle.vab_statuses.specs.Statuses.{IsFirstFree}
use Rattle.vab_model.specs.declared.command.Reply.TheVariants as replies
use Rattle.vab_model.specs.Commands.{Flash}
use Rattle.vab_device.specs.Mounted.{Mounted}
use Rattle.vab_device.specs.Reading.{IsIn}
use Rattle.vab_device.specs.Updates.{effect_on}

-- On a disk that is a device, where a flash is done, one of the sectors of statuses is all zeros.
abbrev pub FlashFindsFree : Type 0
FlashFindsFree =
    (size : ℕ) (image : Image) (m : Mounted) (staged : Option (List ℕ)) (name : List ℕ)
    (chunk : Chunk)
    → IsIn size m image
    → (effect_on m staged (Flash name chunk)).reply ≡ replies.Done
    → (at : ℕ) × IsFirstFree image (Some at)
