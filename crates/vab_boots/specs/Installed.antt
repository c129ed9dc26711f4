-- While a set is installed, the running slot keeps its images, and is booted until the target is
-- set active.
use Rattle.std.specs.Prelude.{◌≡◌, ◌≢◌, ◌⊎◌, ℕ, List, []}
use Rattle.vab_disk.specs.Disk.{Image}
use Rattle.vab_set.specs.declared.set.SetImage.{SetImage}
use Rattle.vab_model.specs.declared.state.Phase.TheVariants.{Idle}
use Rattle.vab_model.specs.declared.command.Reply.TheVariants as replies
use Rattle.vab_model.specs.Effects.{IsOneOf, steps_of, after_of}
use Rattle.vab_model.specs.State.{images_at}
use Rattle.vab_device.specs.Mounted.{Mounted}
use Rattle.vab_device.specs.Reading.{IsIn}
use Rattle.vab_update.specs.Install.{install_effect}
use Rattle.vab_session.specs.Alone.{BootsTo}

-- all of them are done, and this is the device behind the last
abbrev pub IsActivated : Mounted → List SetImage → Mounted → Type 0
IsActivated m set next =
    ((install_effect m set).reply ≡ replies.Done) × (next ≡ after_of m (install_effect m set))

-- The slot that was current is, and has its images. A boot goes to it, but behind the last command.
pub record StaysRunning (m : Mounted) (set : List SetImage) (next : Mounted) : Type 0 where
  pub current : next.state.control.current ≡ m.state.control.current
  pub images : images_at next.state m.state.control.current
      ≡ images_at m.state m.state.control.current
  pub boots : BootsTo m.state.control.current next ⊎ IsActivated m set next

-- On a device without an update, at each step.
abbrev pub InstallKeepsRunning : Type 0
InstallKeepsRunning =
    (size : ℕ) (image : Image) (m next : Mounted) (set : List SetImage)
    → IsIn size m image
    → m.state.phase ≡ Idle
    → IsOneOf (steps_of m (install_effect m set)) next
    → StaysRunning m set next

-- On a device with one nothing is done.
abbrev pub InstallNeedsNoUpdate : Type 0
InstallNeedsNoUpdate =
    (m : Mounted) (set : List SetImage)
    → m.state.phase ≢ Idle
    → (install_effect m set).later ≡ []
