-- The page of a device: a line for each thing that it says, in this order.
use Rattle.std.specs.Prelude.{ℕ, ◌*◌, Bool, if◌then◌else◌, List, [], ◌∷◌, ◌++◌}
use Rattle.std.specs.Prelude.{length, codes, decimal, Option, Some, None}
use Rattle.std.specs.List.{flat_map}
use Rattle.std.specs.Ordering.{is_lt, nat_cmp}
use Rattle.std.specs.Cmp.Lexicographic.{slice_cmp}
use Rattle.vab_bootctl.specs.declared.slots.Info.{Info}
use Rattle.vab_bootctl.specs.Boot.{info_at}
use Rattle.vab_model.specs.declared.state.Image.{Image as ImageOfSlot}
use Rattle.vab_model.specs.declared.state.PlanEntry.{PlanEntry}
use Rattle.vab_model.specs.declared.state.PlanImage.{PlanImage}
use Rattle.vab_model.specs.declared.state.PlanImage.TheVariants.{Kept, Declared, Written}
use Rattle.vab_model.specs.declared.state.Overlay.{Overlay}
use Rattle.vab_model.specs.declared.state.State.{State}
use Rattle.vab_model.specs.declared.state.Phase.{Phase}
use Rattle.vab_model.specs.declared.state.Phase.TheVariants.{Idle, Installing, Staged, Merging}
use Rattle.vab_model.specs.State.{images_at}
use Rattle.vab_fbproto.specs.Texts.{slot_letter}

-- a text and a newline
abbrev pub line : List ℕ → List ℕ
line text = text ++ 10 ∷ []

-- ---- in the order of their names

-- the first name stands before the other, byte by byte
abbrev pub is_before : List ℕ → List ℕ → Bool
is_before name other = is_lt (slice_cmp nat_cmp name other)

-- Put into a list before the first whose name doesn't stand before its own.
abbrev pub put_by : {A : Type 0} → (A → List ℕ) → A → List A → List A
put_by name_of x [] = x ∷ []
put_by name_of x (y ∷ ys) =
    if is_before (name_of y) (name_of x) then y ∷ put_by name_of x ys else x ∷ y ∷ ys

-- These by their names.
abbrev pub by_name : {A : Type 0} → (A → List ℕ) → List A → List A
by_name name_of [] = []
by_name name_of (x ∷ xs) = put_by name_of x (by_name name_of xs)

-- ---- the device

-- the blocks of 4096 bytes that partitions may have
abbrev pub cap_line : ℕ → List ℕ
cap_line cap = line (codes "cap " ++ decimal cap)

-- the slot that was booted last
abbrev pub current_line : ℕ → List ℕ
current_line slot = line (codes "current " ++ slot_letter slot)

-- where an update stands, and how many blocks are left to merge
abbrev pub phase_line : Phase → List ℕ
phase_line Idle = line (codes "phase idle")
phase_line (Installing source plan) = line (codes "phase installing")
phase_line (Staged source left) = line (codes "phase staged " ++ decimal left)
phase_line (Merging target left) = line (codes "phase merging " ++ decimal left)

-- ---- a slot

abbrev pub yes_or_no : Bool → List ℕ
yes_or_no b = if b then codes "yes" else codes "no"

-- a slot with so many images, of which boot control says this
abbrev pub slot_line : ℕ → ℕ → Info → List ℕ
slot_line slot images info =
    line
    (codes "slot " ++ slot_letter slot
    ++ codes " images " ++ decimal images
    ++ codes " priority " ++ decimal info.priority
    ++ codes " tries " ++ decimal info.tries
    ++ codes " successful " ++ yes_or_no info.successful)

-- an image of a slot, with its size in bytes
abbrev pub image_line : ℕ → ImageOfSlot → List ℕ
image_line slot image =
    line
    (codes "image " ++ slot_letter slot
    ++ codes " " ++ image.name
    ++ codes " " ++ decimal (length image.bytes))

-- a slot without images
abbrev pub none_line : ℕ → List ℕ
none_line slot = line (codes "slot " ++ slot_letter slot ++ codes " none")

-- what is told of a slot with these images
abbrev pub slot_page : ℕ → Info → Option (List ImageOfSlot) → List ℕ
slot_page slot info None = none_line slot
slot_page slot info (Some images) =
    slot_line slot (length images) info
    ++ flat_map (image_line slot) (by_name (λ (i : ImageOfSlot). i.name) images)

-- ---- the partitions that are planned

-- what is known of the image of one
abbrev pub plan_word : PlanImage → List ℕ
plan_word Kept = codes "kept"
plan_word Declared = codes "declared"
plan_word (Written bytes count) = codes "written"

-- one, with its size in bytes
abbrev pub plan_line : PlanEntry → List ℕ
plan_line e =
    line
    (codes "plan " ++ e.name
    ++ codes " " ++ decimal (4096 * e.blocks)
    ++ codes " " ++ plan_word e.image)

-- those of an update that is installed
abbrev pub plan_page : Phase → List ℕ
plan_page Idle = []
plan_page (Installing source plan) =
    flat_map plan_line (by_name (λ (e : PlanEntry). e.name) plan.entries)
plan_page (Staged source left) = []
plan_page (Merging target left) = []

-- ---- an overlay

-- the partition that is written over, with its size in bytes, the blocks of its store, and those of
-- its own that were written
abbrev pub overlay_line : Overlay → List ℕ
overlay_line o =
    line
    (codes "overlay " ++ o.name
    ++ codes " " ++ decimal (length o.bytes)
    ++ codes " store " ++ decimal o.store
    ++ codes " written " ++ decimal (length o.blocks))

-- what is told of it, where there is one
abbrev pub overlay_page : Option Overlay → List ℕ
overlay_page None = []
overlay_page (Some o) = overlay_line o

-- ---- all of it

unfoldable pub page : State → List ℕ
page s =
    cap_line s.cap
    ++ current_line s.control.current
    ++ phase_line s.phase
    ++ slot_page 0 (info_at s.control 0) (images_at s 0)
    ++ slot_page 1 (info_at s.control 1) (images_at s 1)
    ++ plan_page s.phase
    ++ overlay_page s.overlay
