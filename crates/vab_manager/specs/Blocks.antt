-- A block of the image under a base name in a slot.
use Rattle.std.specs.Prelude.{◌≡◌, ℕ, ◌*◌, ◌<◌, if◌then◌else◌, List, length, take, drop}
use Rattle.std.specs.Prelude.{Option, Some}
use Rattle.std.specs.Option.{option_and_then, option_map}
use Rattle.vab_names.specs.Names.{is_full}
use Rattle.vab_model.specs.declared.state.Image.{Image as ImageOfSlot}
use Rattle.vab_model.specs.declared.state.State.{State}
use Rattle.vab_model.specs.Over.{read_over}
use Rattle.vab_model.specs.State.{images_at, image_named}
use Rattle.vab_device.specs.declared.device.Part.{Part}
use Rattle.vab_device.specs.declared.device.Device.{Device}
use Rattle.vab_device.specs.Kept.{parts_at}
use Rattle.vab_manager.specs.Found.{part_named, as_read}

-- the slot whose suffix a name has, where it has one
abbrev pub slot_named : List ℕ → ℕ
slot_named name = if is_full 0 name then 0 else 1

-- the partition under a base name of the slot, as it is read
abbrev pub part_read : Device → ℕ → List ℕ → Option Part
part_read d slot name =
    option_map (as_read d.overlay) (option_and_then (part_named name) (parts_at d slot))

-- the device keeps this partition there
abbrev pub KeepsPart : Device → ℕ → List ℕ → Part → Type 0
KeepsPart d slot name p = part_read d slot name ≡ Some p

-- the image under a base name in the slot has this block
abbrev pub HasBlock : Device → ℕ → List ℕ → ℕ → Type 0
HasBlock d slot name block = (p : Part) × KeepsPart d slot name p × (block < length p.map)

-- the image that a state has under a base name in a slot
abbrev pub image_at : State → ℕ → List ℕ → Option ImageOfSlot
image_at s slot name = option_and_then (image_named name) (images_at s slot)

-- as it is read
abbrev pub image_read : State → ℕ → List ℕ → Option ImageOfSlot
image_read s slot name = option_map (read_over s.overlay) (image_at s slot name)

-- these bytes are a block of that image
abbrev pub IsBlockOf : State → ℕ → List ℕ → ℕ → List ℕ → Type 0
IsBlockOf s slot name block bytes =
    (image : ImageOfSlot)
    × (image_read s slot name ≡ Some image)
    × (bytes ≡ take 4096 (drop (4096 * block) image.bytes))
