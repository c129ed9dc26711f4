-- A command whose table may be full, or whose image may be that of another device, beside what the
-- machine makes of the device's state.
use Rattle.std.specs.Prelude.{◌≡◌, ◌<◌, ◌⊎◌, ℕ, List, Option, true}
use Rattle.vab_disk.specs.Disk.{Image}
use Rattle.vab_model.specs.declared.state.State.{State}
use Rattle.vab_model.specs.declared.command.Refusal.{Refusal}
use Rattle.vab_model.specs.declared.command.Refusal.TheVariants as refusals
use Rattle.vab_model.specs.declared.command.Reply.{Reply}
use Rattle.vab_model.specs.declared.command.Reply.TheVariants as replies
use Rattle.vab_model.specs.Commands.{Command, UpdateSuper}
use Rattle.vab_model.specs.Effects.{Effect, refuses, wanting}
use Rattle.vab_model.specs.Machine.{machine_effect}
use Rattle.vab_device.specs.Mounted.{Mounted}
use Rattle.vab_device.specs.Reading.{IsIn}
use Rattle.vab_device.specs.Updates.{effect_on}
use Rattle.vab_targets.specs.Sectors.{HasWholeSectors}
use Rattle.vab_machine_laws.specs.Rows.{on_states}

-- The text of the table would be longer than it may be; the machine would have been done.
pub record IsFull (most : ℕ) (e : Effect Mounted) (f : Effect State) : Type 0 where
  pub size : ℕ
  pub longer : most < size
  pub full : e ≡ wanting true (refuses (refusals.TableFull size most))
  pub done : f.reply ≡ replies.Done

-- One or the other.
abbrev pub IsMachinesOrFull : (most : ℕ) → Effect Mounted → Effect State → Type 0
IsMachinesOrFull most e f = (on_states e ≡ f) ⊎ IsFull most e f

-- on each disk of whole sectors that is a device
abbrev pub IsTheMachinesOrFull : Command → Type 0
IsTheMachinesOrFull c = (size : ℕ) (image : Image) (m : Mounted) (staged : Option (List ℕ))
    → HasWholeSectors size image
    → IsIn size m image
    → IsMachinesOrFull m.places.geometry.max (effect_on m staged c)
    (machine_effect m.state staged c)

-- ---- an image of another device

-- it was done, or a partition of the image has extents
abbrev pub IsDoneOrNotEmpty : Reply → Type 0
IsDoneOrNotEmpty reply =
    (reply ≡ replies.Done)
    ⊎ ((name : List ℕ) × (reply ≡ replies.Refused (refusals.NotEmpty name)))

-- The geometry of a wipe's image, or its block device, isn't the device's; the machine, which knows
-- neither, would have been done or have refused it for a partition.
pub record IsOther (e : Effect Mounted) (f : Effect State) : Type 0 where
  pub refusal : Refusal
  pub which : (refusal ≡ refusals.OtherGeometry) ⊎ (refusal ≡ refusals.OtherDevice)
  pub other : e ≡ wanting true (refuses refusal)
  pub told : IsDoneOrNotEmpty f.reply

-- so it may be of a wipe alone
abbrev pub MayBeOther : Command → Effect Mounted → Effect State → Type 0
MayBeOther UpdateSuper e f = IsOther e f
MayBeOther _ e f = ⊥

-- One of the three.
abbrev pub IsMachinesFullOrOther : Command
    → (most : ℕ)
    → Effect Mounted
    → Effect State
    → Type 0
IsMachinesFullOrOther c most e f = IsMachinesOrFull most e f ⊎ MayBeOther c e f

-- on each disk of whole sectors that is a device
abbrev pub IsTheMachinesFullOrOther : Command → Type 0
IsTheMachinesFullOrOther c = (size : ℕ) (image : Image) (m : Mounted) (staged : Option (List ℕ))
    → HasWholeSectors size image
    → IsIn size m image
    → IsMachinesFullOrOther c m.places.geometry.max (effect_on m staged c)
    (machine_effect m.state staged c)
