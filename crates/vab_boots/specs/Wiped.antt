-- What a wipe of `super` leaves: all that was there, or the empty partitions of the staged image.
use Rattle.std.specs.Prelude.{◌≡◌, ◌≢◌, ◌⊎◌, ℕ, List, [], Option, Some, None, All}
use Rattle.vab_disk.specs.Disk.{Image}
use Rattle.vab_layout.specs.Slots.{other_slot}
use Rattle.vab_super_image.specs.declared.image.SuperImage.{SuperImage}
use Rattle.vab_super_image.specs.SuperImage.{super_image_of, first_filled}
use Rattle.vab_model.specs.declared.state.Image.{Image as ImageOfSlot}
use Rattle.vab_model.specs.declared.state.Phase.TheVariants.{Idle}
use Rattle.vab_model.specs.declared.command.Reply.TheVariants as replies
use Rattle.vab_model.specs.Commands.{UpdateSuper}
use Rattle.vab_model.specs.Effects.{IsOneOf, steps_of, after_of}
use Rattle.vab_model.specs.Groups.{limits_of}
use Rattle.vab_model.specs.State.{images_at}
use Rattle.vab_model.specs.Wipe.{empty_images}
use Rattle.vab_device.specs.Mounted.{Mounted}
use Rattle.vab_device.specs.Reading.{IsIn}
use Rattle.vab_device.specs.Updates.{effect_on}

-- A slot has exactly the partitions of this image of a `super`, each empty, and its groups. The
-- images of the other slot, boot control, the cap and the phase are as before.
pub record HasEmpty (slot : ℕ) (i : SuperImage) (m next : Mounted) : Type 0 where
  pub images : images_at next.state slot ≡ Some (empty_images slot i.table)
  pub empty : All (λ (image : ImageOfSlot). image.bytes ≡ []) (empty_images slot i.table)
  pub groups : next.state.groups ≡ limits_of slot i.table.groups
  pub other : images_at next.state (other_slot slot) ≡ images_at m.state (other_slot slot)
  pub control : next.state.control ≡ m.state.control
  pub cap : next.state.cap ≡ m.state.cap
  pub phase : next.state.phase ≡ m.state.phase

-- The current slot was wiped: there was no update, and the staged bytes are an image of a `super`
-- in which no partition has extents.
pub record IsWipedBy (m : Mounted) (staged : Option (List ℕ)) (next : Mounted) : Type 0 where
  pub idle : m.state.phase ≡ Idle
  pub bytes : List ℕ
  pub is_staged : staged ≡ Some bytes
  pub image : SuperImage
  pub is : super_image_of m.state.control.current bytes ≡ Some image
  pub none_filled : first_filled image.table.partitions ≡ None
  pub has : HasEmpty m.state.control.current image m next

-- On each disk that is a device, where a wipe is done.
abbrev pub WipedIsEmpty : Type 0
WipedIsEmpty = (size : ℕ) (image : Image) (m : Mounted) (staged : Option (List ℕ))
    → IsIn size m image
    → (effect_on m staged UpdateSuper).reply ≡ replies.Done
    → IsWipedBy m staged (after_of m (effect_on m staged UpdateSuper))

-- Whatever is replied, and at each step: the device is as it was, or it is wiped.
abbrev pub WipeIsWhole : Type 0
WipeIsWhole = (size : ℕ) (image : Image) (m next : Mounted) (staged : Option (List ℕ))
    → IsIn size m image
    → IsOneOf (steps_of m (effect_on m staged UpdateSuper)) next
    → (next ≡ m) ⊎ IsWipedBy m staged next

-- One that isn't done changes nothing.
abbrev pub RefusedWipeKeeps : Type 0
RefusedWipeKeeps = (m : Mounted) (staged : Option (List ℕ))
    → (effect_on m staged UpdateSuper).reply ≢ replies.Done
    → (effect_on m staged UpdateSuper).later ≡ []
