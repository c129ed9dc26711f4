-- The commands that install a set of images.
use Rattle.std.specs.Prelude.{ℕ, if◌then◌else◌, List, [], ◌∷◌, ◌++◌, Some, None}
use Rattle.std.specs.List.{flat_map}
use Rattle.vab_names.specs.Names.{suffix_of}
use Rattle.vab_layout.specs.Slots.{other_slot}
use Rattle.vab_set.specs.declared.set.SetImage.{SetImage}
use Rattle.vab_space.specs.declared.Chunk.TheVariants.{One}
use Rattle.vab_model.specs.Commands.{Command, SetActive, Begin, Create, Resize, Snapshot, Flash}
use Rattle.vab_model.specs.Commands.{Finish}
use Rattle.vab_model.specs.Effects.{Effect}
use Rattle.vab_device.specs.Mounted.{Mounted}
use Rattle.vab_fbvars.specs.Variables.{has_image}
use Rattle.vab_update.specs.Orders.{Order, effect_all}

-- one that is the same on every device, with nothing staged
abbrev pub order : Command → Order
order command = record { command = λ m. command; staged = None }

-- the whole name of an image's partition in the slot that isn't the source
abbrev pub target_name : (source : ℕ) → SetImage → List ℕ
target_name source image = image.name ++ suffix_of (other_slot source)

-- The partition gets its size: where the source has an image of that name it is there already.
abbrev pub size_command : (source : ℕ) → SetImage → Mounted → Command
size_command source image m =
    if has_image m.state source image.name
    then Resize (target_name source image) image.size
    else Create (target_name source image) image.size

-- the image's bytes become those of the partition, in a store with chunks of 4096 bytes
abbrev pub flash_order : (source : ℕ) → SetImage → Order
flash_order source image = record {
  command = λ m. Flash (target_name source image) One;
  staged = Some image.bytes;
}

-- an image is installed: its partition gets its size and a store, and is written
abbrev pub image_orders : (source : ℕ) → SetImage → List Order
image_orders source image =
    record { command = size_command source image; staged = None }
    ∷ order (Snapshot (target_name source image) image.store)
    ∷ flash_order source image
    ∷ []

-- The images of a set, in their order, between the begin of the update and its end; then their
-- slot is the next one to boot.
abbrev pub install_orders : (source : ℕ) → List SetImage → List Order
install_orders source set =
    (order Begin ∷ flat_map (image_orders source) set)
    ++ order Finish
    ∷ order (SetActive (other_slot source))
    ∷ []

-- what they make of a device, from its current slot, one after another until one is refused
abbrev pub install_effect : Mounted → List SetImage → Effect Mounted
install_effect m set = effect_all (install_orders m.state.control.current set) m
