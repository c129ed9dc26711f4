-- Once a merge has begun, the new images alone boot.
use Rattle.std.specs.Prelude.{◌≡◌, ℕ, List, Some, Option, false}
use Rattle.vab_disk.specs.Disk.{Image}
use Rattle.vab_layout.specs.Slots.{other_slot}
use Rattle.vab_model.specs.declared.state.Image.{Image as ImageOfSlot}
use Rattle.vab_model.specs.declared.state.Phase.TheVariants.{Staged, Merging}
use Rattle.vab_model.specs.declared.command.Reply.TheVariants as replies
use Rattle.vab_model.specs.Commands.{Command, BeginMerge}
use Rattle.vab_model.specs.Effects.{after_of, IsOneOf}
use Rattle.vab_model.specs.State.{images_at}
use Rattle.vab_device.specs.Mounted.{Mounted}
use Rattle.vab_device.specs.Reading.{IsIn}
use Rattle.vab_device.specs.Updates.{effect_on}
use Rattle.vab_model.specs.Kinds.{ends_alone}
use Rattle.vab_session.specs.Alone.{IsAlone, BootsTo}

-- The merge of an update that was ready has begun: its target alone has images, those that it had,
-- and a boot goes to it.
pub record BeginsAlone (m next : Mounted) : Type 0 where
  pub source : ℕ
  pub left : ℕ
  pub was : m.state.phase ≡ Staged source left
  pub merging : next.state.phase ≡ Merging (other_slot source) left
  pub images : List ImageOfSlot
  pub had : images_at m.state (other_slot source) ≡ Some images
  pub alone : IsAlone (other_slot source) images next
  pub boots : BootsTo (other_slot source) next

-- On a device, where its begin is done.
abbrev pub BegunIsAlone : Type 0
BegunIsAlone = (size : ℕ) (image : Image) (m : Mounted) (staged : Option (List ℕ))
    → IsIn size m image
    → (effect_on m staged BeginMerge).reply ≡ replies.Done
    → BeginsAlone m (after_of m (effect_on m staged BeginMerge))

-- Each command but the end of an installation and a wipe leaves a slot alone that is, with the same
-- images: so each turn of the merge does.
abbrev pub StaysAlone : Type 0
StaysAlone = (m next : Mounted) (staged : Option (List ℕ)) (c : Command)
    → ends_alone c ≡ false
    → (slot : ℕ)
    → (images : List ImageOfSlot)
    → IsAlone slot images m
    → IsOneOf (effect_on m staged c).later next
    → IsAlone slot images next
