-- There is always a slot that boots.
use Rattle.std.specs.Prelude.{◌≡◌, ◌<◌, ℕ, Bool, true, false, List}
use Rattle.std.specs.Prelude.{Some}
use Rattle.vab_disk.specs.Disk.{Image}
use Rattle.vab_bootctl.specs.Boot.{info_at, IsChosen}
use Rattle.vab_model.specs.declared.state.Image.{Image as ImageOfSlot}
use Rattle.vab_model.specs.declared.state.State.{State}
use Rattle.vab_model.specs.declared.state.Phase.{Phase}
use Rattle.vab_model.specs.declared.state.Phase.TheVariants.{Idle, Installing, Staged, Merging}
use Rattle.vab_model.specs.State.{images_at, has_images}
use Rattle.vab_device.specs.Mounted.{Mounted}
use Rattle.vab_device.specs.Reading.{IsIn}
use Rattle.vab_session.specs.Alone.{IsAlone, BootsTo}

-- The slot that has worked: the current one, or the source of an update, or once its merge has
-- begun its target.
abbrev pub worked_of : Phase → (current : ℕ) → ℕ
worked_of Idle current = current
worked_of (Installing source plan) current = source
worked_of (Staged source left) current = source
worked_of (Merging target left) current = target

abbrev pub worked_slot : State → ℕ
worked_slot s = worked_of s.phase s.control.current

-- This slot has images, and boot control says that it may be booted and that it has worked.
pub record Works (s : State) (slot : ℕ) : Type 0 where
  pub below : slot < 2
  pub images : List ImageOfSlot
  pub has : images_at s slot ≡ Some images
  pub priority : 0 < (info_at s.control slot).priority
  pub successful : (info_at s.control slot).successful ≡ true

-- The boot rules choose a slot, it has images, and a boot goes to it.
pub record Boots (m : Mounted) : Type 0 where
  pub slot : ℕ
  pub chosen : IsChosen m.state.control (has_images m.state) slot
  pub images : List ImageOfSlot
  pub has : images_at m.state slot ≡ Some images
  pub boots : BootsTo slot m

-- On each disk that is a device a slot works, and one boots.
abbrev pub EachWorks : Type 0
EachWorks = (size : ℕ) (image : Image) (m : Mounted)
    → IsIn size m image
    → Works m.state (worked_slot m.state)

abbrev pub EachBoots : Type 0
EachBoots = (size : ℕ) (image : Image) (m : Mounted) → IsIn size m image → Boots m

-- ---- where no update is ready

abbrev pub is_ready : Phase → Bool
is_ready Idle = false
is_ready (Installing source plan) = false
is_ready (Staged source left) = true
is_ready (Merging target left) = false

-- Then the slot that works alone has images, so a boot goes to it.
abbrev pub EachIsAlone : Type 0
EachIsAlone = (size : ℕ) (image : Image) (m : Mounted)
    → IsIn size m image
    → is_ready m.state.phase ≡ false
    → (images : List ImageOfSlot)
    × IsAlone (worked_slot m.state) images m
    × BootsTo (worked_slot m.state) m
