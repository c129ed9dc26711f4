-- Boot control written into its sector.
use Rattle.std.specs.Prelude.{◌≡◌, ◌⊎◌, ℕ, ◌==◌, if◌then◌else◌, true, List, Ok, [], ◌∷◌, Bool}
use Rattle.std.specs.Prelude.{Option, is_some}
use Rattle.vab_disk.specs.Disk.{Image, Outcome, set_sector}
use Rattle.vab_bootctl.specs.declared.slots.Control.{Control}
use Rattle.vab_bootctl.specs.Control.{control_of, KeepsRest}
use Rattle.vab_bootctl.specs.Boot.{activated_of, booted_of, marked_of}
use Rattle.vab_model.specs.declared.command.Reply.{Reply}
use Rattle.vab_model.specs.Commands.{Command, SetActive, Boot, Mark}
use Rattle.vab_model.specs.Effects.{does}
use Rattle.vab_model.specs.State.{control_seen, with_control}
use Rattle.vab_device.specs.declared.device.Device.{Device}
use Rattle.vab_device.specs.Mounted.{Mounted, state_on, mounted_on, in_state}
use Rattle.vab_device.specs.Updates.{effect_on}

-- The new image is the old one with a sector of this boot control in its place; the bits of the
-- sector that no field has stay.
abbrev pub HasControl : Control → Image → Image → Type 0
HasControl control old new =
    (sector : List ℕ)
    × (control_of sector ≡ Ok control)
    × KeepsRest (old 4) sector
    × (new ≡ set_sector old 4 sector)

-- with nothing more told, the image is the old one, or has this boot control
pub record LeavesControl (told : List ℕ) (control : Control) (old : Image) (o : Outcome) : Type 0
  where
    pub told_so_far : o.told ≡ told
    pub either : (o.image ≡ old) ⊎ HasControl control old o.image

-- The boot control's sector with this boot control, and its other bits as these bytes have them.
pub record IsControl (c : Control) (old : List ℕ) (s : ℕ) (b : List ℕ) : Type 0 where
  pub at : s ≡ 4
  pub control : control_of b ≡ Ok c
  pub rest : KeepsRest old b

-- which slots of a device have images
abbrev pub slots_with_images : Device → List Bool
slots_with_images d = is_some d.a ∷ is_some d.b ∷ []

-- What a command on slots may write, where the slots a and b have images or not: the boot control
-- that the boot rules make of the old one, of both slots. A slot without images isn't set active,
-- and a question writes nothing.
abbrev pub IsOfSlots : Control → (a b : Bool) → List ℕ → Command → ℕ → List ℕ → Type 0
IsOfSlots c a b old (SetActive slot) s bytes =
    ((if slot == 0 then a else b) ≡ true) × IsControl (activated_of c slot) old s bytes
IsOfSlots c a b old Boot s bytes = IsControl (booted_of c (a ∷ b ∷ [])) old s bytes
IsOfSlots c a b old Mark s bytes = IsControl (marked_of c) old s bytes
IsOfSlots c a b old _ s bytes = ⊥

-- the same on a device
abbrev pub IsOfCommand : Device → List ℕ → Command → ℕ → List ℕ → Type 0
IsOfCommand d old command s bytes =
    IsOfSlots d.control (is_some d.a) (is_some d.b) old command s bytes

-- A command may write this boot control.
abbrev pub WritesControl : Device → List ℕ → Command → Control → Type 0
WritesControl d old command c =
    (s : ℕ) (b : List ℕ) → IsControl c old s b → IsOfCommand d old command s b

-- the device with this boot control, as far as slots have images
abbrev pub with_kept : Device → Control → Image → Mounted
with_kept d c image =
    in_state (mounted_on d image)
    (with_control (control_seen (is_some d.a) (is_some d.b) c) (state_on d image))

-- A command gives this reply, and leaves the device with this boot control.
abbrev pub GivesControl : Device
    → Image
    → Option (List ℕ)
    → Command
    → Reply
    → Control
    → Type 0
GivesControl d image staged command reply c =
    effect_on (mounted_on d image) staged command ≡ does reply (with_kept d c image)
