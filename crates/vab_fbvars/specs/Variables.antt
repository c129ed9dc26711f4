-- The variables of a device, and what is told of them.
use Rattle.std.specs.Prelude.{◌≡◌, ℕ, ◌*◌, ◌<◌, Bool, true, false, not, ◌||◌, List, []}
use Rattle.std.specs.Prelude.{◌++◌, length, codes}
use Rattle.std.specs.Prelude.{decimal, if◌then◌else◌, Option, Some, None, is_some}
use Rattle.std.specs.Option.{option_map, option_and_then}
use Rattle.vab_disk.specs.Disk.{Image}
use Rattle.vab_bootctl.specs.declared.slots.Info.{Info}
use Rattle.vab_bootctl.specs.Boot.{info_at, is_bootable}
use Rattle.vab_model.specs.declared.state.State.{State}
use Rattle.vab_model.specs.declared.state.Phase.{Phase}
use Rattle.vab_model.specs.declared.state.Phase.TheVariants.{Idle, Installing, Staged, Merging}
use Rattle.vab_names.specs.Names.{is_full, base_of}
use Rattle.vab_layout.specs.Slots.{other_slot}
use Rattle.vab_model.specs.declared.state.PlanEntry.{PlanEntry}
use Rattle.vab_model.specs.State.{images_at, image_named}
use Rattle.vab_model.specs.Effects.{Found, Image_is, Refused_by, found_of}
use Rattle.vab_model.specs.Plans.{entry_named}
use Rattle.vab_device.specs.declared.device.PhaseKind.{PhaseKind}
use Rattle.vab_device.specs.declared.device.PhaseKind.TheVariants as kinds
use Rattle.vab_fbproto.specs.Texts.{slot_letter}
use Rattle.vab_fbproto.specs.Requests.{Variable, Version, CurrentSlot, SlotCount, MaxDownloadSize}
use Rattle.vab_fbproto.specs.Requests.{HasSlot, SlotSuccessful, SlotUnbootable, SlotRetryCount}
use Rattle.vab_fbproto.specs.Requests.{PartitionSize, IsLogical, SnapshotUpdateStatus}
use Rattle.vab_fbproto.specs.Requests.{UnknownVariable}
use Rattle.vab_fbvars.specs.Hexadecimal.{hexadecimal}

-- each sector of a disk of so many has its 512 bytes
abbrev pub AreSectors : ℕ → Image → Type 0
AreSectors size image = (s : ℕ) → s < size → length (image s) ≡ 512

-- ---- slots

-- what boot control says of a slot with images
abbrev pub slot_info : State → ℕ → Option Info
slot_info s slot = option_map (λ _. info_at s.control slot) (images_at s slot)

-- it is marked as one that works
abbrev pub is_successful : Option Info → Bool
is_successful (Some info) = info.successful
is_successful None = false

-- it can't be booted: it has no images, or priority 0, or neither the mark nor a try left
abbrev pub is_unbootable : Option Info → Bool
is_unbootable (Some info) = not (is_bootable true info)
is_unbootable None = true

abbrev pub tries_left : Option Info → ℕ
tries_left (Some info) = info.tries
tries_left None = 0

-- ---- images

-- the partitions that are planned, while an update is installed
abbrev pub planned_in : Phase → List PlanEntry
planned_in (Installing source plan) = plan.entries
planned_in _ = []

-- a slot has an image of this base name
abbrev pub has_image : State → ℕ → List ℕ → Bool
has_image s slot base = is_some (option_and_then (image_named base) (images_at s slot))

-- a slot has one, or such a partition is planned
abbrev pub has_base : State → List ℕ → Bool
has_base s base =
    has_image s 0 base
    || (has_image s 1 base || is_some (entry_named base (planned_in s.phase)))

-- the bytes of an image that was found
abbrev pub size_found : Found → Option ℕ
size_found (Image_is image) = Some (length image.bytes)
size_found (Refused_by refusal) = None

abbrev pub entry_size : Option PlanEntry → Option ℕ
entry_size None = None
entry_size (Some e) = Some (4096 * e.blocks)

-- the size of the planned partition of this name, while an update is installed
abbrev pub size_planned : Phase → List ℕ → Option ℕ
size_planned Idle name = None
size_planned (Installing source plan) name =
    if is_full (other_slot source) name
    then entry_size (entry_named (base_of name) plan.entries)
    else None
size_planned (Staged source left) name = None
size_planned (Merging target left) name = None

abbrev pub or_else : Option ℕ → Option ℕ → Option ℕ
or_else (Some size) other = Some size
or_else None other = other

-- the size of the image of this name, or of such a partition that is planned, where there is one
abbrev pub size_of : State → List ℕ → Option ℕ
size_of s name = or_else (size_found (found_of s name)) (size_planned s.phase name)

-- ---- texts

abbrev pub yes_or_no : Bool → List ℕ
yes_or_no b = codes "OKAY" ++ (if b then codes "yes" else codes "no")

abbrev pub size_text : Option ℕ → List ℕ
size_text (Some size) = codes "OKAY0x" ++ hexadecimal size
size_text None = codes "FAILunknown partition"

abbrev pub status_text : Phase → List ℕ
status_text Idle = codes "OKAYnone"
status_text (Installing source plan) = codes "OKAYnone"
status_text (Staged source left) = codes "OKAYsnapshotted"
status_text (Merging target left) = codes "OKAYmerging"

-- the same by what is kept of it
abbrev pub status_of : PhaseKind → List ℕ
status_of kinds.Idle = codes "OKAYnone"
status_of (kinds.Installing source) = codes "OKAYnone"
status_of (kinds.Staged source) = codes "OKAYsnapshotted"
status_of (kinds.Merging target) = codes "OKAYmerging"

-- what is told of a variable
unfoldable pub variable_text : State → Variable → List ℕ
variable_text s Version = codes "OKAY0.4"
variable_text s CurrentSlot = codes "OKAY" ++ slot_letter s.control.current
variable_text s SlotCount = codes "OKAY2"
variable_text s MaxDownloadSize = codes "OKAY0x10000000"
variable_text s (HasSlot base) = yes_or_no (has_base s base)
variable_text s (SlotSuccessful slot) = yes_or_no (is_successful (slot_info s slot))
variable_text s (SlotUnbootable slot) = yes_or_no (is_unbootable (slot_info s slot))
variable_text s (SlotRetryCount slot) = codes "OKAY" ++ decimal (tries_left (slot_info s slot))
variable_text s (PartitionSize name) = size_text (size_of s name)
variable_text s (IsLogical name) = yes_or_no (is_some (size_of s name))
variable_text s SnapshotUpdateStatus = status_text s.phase
variable_text s UnknownVariable = codes "FAILunknown variable"
