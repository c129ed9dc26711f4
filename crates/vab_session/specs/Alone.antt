-- One slot alone has images, and no update is ready: from the begin of a merge on, until an
-- installation is finished. It keeps its images until then, or until it is wiped.
use Rattle.std.specs.Prelude.{◌≡◌, ◌⊎◌, ◌++◌, ℕ, ◌<◌, Bool, false, ◌&&◌, List, [], take, Option}
use Rattle.std.specs.Prelude.{Some, None, All}
use Rattle.std.specs.List.{flat_map}
use Rattle.std.specs.Str.{bytes_eq}
use Rattle.std.specs.Cmp.Lexicographic.{pointwise}
use Rattle.vab_disk.specs.Disk.{Image}
use Rattle.vab_layout.specs.Slots.{other_slot}
use Rattle.vab_model.specs.declared.state.Image.{Image as ImageOfSlot}
use Rattle.vab_model.specs.declared.state.Phase.{Phase}
use Rattle.vab_model.specs.declared.state.Phase.TheVariants.{Idle, Installing, Staged, Merging}
use Rattle.vab_model.specs.declared.command.Reply.TheVariants as replies
use Rattle.vab_model.specs.Commands.{Boot}
use Rattle.vab_model.specs.Effects.{IsOneOf}
use Rattle.vab_model.specs.Plans.{same_group}
use Rattle.vab_model.specs.State.{images_at}
use Rattle.vab_device.specs.Mounted.{Mounted}
use Rattle.vab_device.specs.Reading.{IsIn}
use Rattle.vab_device.specs.Updates.{effect_on}
use Rattle.vab_exchanges.specs.Session.{Exchange}
use Rattle.vab_exchanges.specs.Items.{Kept, items_of, kept_after, closing_of}
use Rattle.vab_exchanges.specs.Runs.{steps_at}
use Rattle.vab_session.specs.Responses.{machine}

-- An update is none, or is installed from this slot, or is merged into it.
abbrev pub IsUnready : (slot : ℕ) → Phase → Type 0
IsUnready slot Idle = Unit {0}
IsUnready slot (Installing source plan) = source ≡ slot
IsUnready slot (Staged source left) = ⊥
IsUnready slot (Merging target left) = target ≡ slot

-- This slot alone has images, these ones, and no update is ready.
pub record IsAlone (slot : ℕ) (images : List ImageOfSlot) (m : Mounted) : Type 0 where
  pub below : slot < 2
  pub current : m.state.control.current ≡ slot
  pub has : images_at m.state slot ≡ Some images
  pub other : images_at m.state (other_slot slot) ≡ None
  pub unready : IsUnready slot m.state.phase

-- a boot goes to this slot
abbrev pub BootsTo : ℕ → Mounted → Type 0
BootsTo slot m = (effect_on m None Boot).reply ≡ replies.Booted slot

-- On the disk this slot alone has images, these ones, and a boot goes to it.
pub record StandsAlone
    (size slot : ℕ)
    (images : List ImageOfSlot)
    (image : Image) : Type 0 where
  pub mounted : Mounted
  pub is : IsIn size mounted image
  pub alone : IsAlone slot images mounted
  pub boots : BootsTo slot mounted

-- ---- the end of an installation

-- an update is ready: an installation is finished
abbrev pub IsReady : Phase → Type 0
IsReady (Staged source left) = Unit {0}
IsReady _ = ⊥

-- ---- a wipe

-- the same name, group and bytes
abbrev pub is_image : ImageOfSlot → ImageOfSlot → Bool
is_image a b =
    bytes_eq a.name b.name && (same_group a.group b.group && bytes_eq a.bytes b.bytes)

-- the same images
unfoldable pub same_images : List ImageOfSlot → List ImageOfSlot → Bool
same_images a b = pointwise is_image a b

-- The slot has other images than these, and each of them is empty: `super` was wiped.
pub record IsWiped (slot : ℕ) (images : List ImageOfSlot) (m : Mounted) : Type 0 where
  pub others : List ImageOfSlot
  pub has : images_at m.state slot ≡ Some others
  pub empty : All (λ (i : ImageOfSlot). i.bytes ≡ []) others
  pub differ : same_images others images ≡ false

-- ---- what a slot that stands alone keeps its images until

-- an update is ready, or the slot was wiped
abbrev pub IsEnded : (slot : ℕ) → List ImageOfSlot → Mounted → Type 0
IsEnded slot images m = IsReady m.state.phase ⊎ IsWiped slot images m

-- One of these devices is such a one.
pub record Finds (Is : Mounted → Type 0) (ms : List Mounted) : Type 0 where
  pub mounted : Mounted
  pub reached : IsOneOf ms mounted
  pub is : Is mounted

-- On one of these devices it has ended.
abbrev pub FindsEnd : (slot : ℕ) → List ImageOfSlot → List Mounted → Type 0
FindsEnd slot images = Finds (IsEnded slot images)

-- The devices that these exchanges come to, with so many turns of a merge behind each: in the steps
-- of the first n of them, and in those of the one behind them, or behind the last one, where
-- another packet is waited for.
abbrev pub reached_in : (turns : ℕ)
    → Kept Mounted
    → List Exchange
    → (unfinished : Option (List ℕ))
    → (waits : Bool)
    → (n : ℕ)
    → List Mounted
reached_in turns k exchanges unfinished waits n =
    flat_map (λ i. i.steps) (take n (items_of (machine turns) k exchanges unfinished))
    ++ steps_at
    (closing_of (machine turns) unfinished waits (kept_after (machine turns) k exchanges))
    k.now (items_of (machine turns) k exchanges unfinished) n
