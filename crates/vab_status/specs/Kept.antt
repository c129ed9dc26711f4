-- The lines of the page by what is kept of a device.
use Rattle.std.specs.Prelude.{ℕ, ◌*◌, ◌^◌, ◌≤◌, List, [], ◌++◌, length, codes, decimal, All}
use Rattle.std.specs.Prelude.{Option, Some, None}
use Rattle.std.specs.List.{flat_map}
use Rattle.vab_bootctl.specs.declared.slots.Info.{Info}
use Rattle.vab_device.specs.declared.device.Part.{Part}
use Rattle.vab_device.specs.declared.device.PartImage.{PartImage}
use Rattle.vab_device.specs.declared.device.PartImage.TheVariants.{Kept, Declared, Written}
use Rattle.vab_device.specs.declared.device.PhaseKind.{PhaseKind}
use Rattle.vab_device.specs.declared.device.PhaseKind.TheVariants.{Idle, Installing, Staged}
use Rattle.vab_device.specs.declared.device.PhaseKind.TheVariants.{Merging}
use Rattle.vab_device.specs.Mounted.{blocks_there, count_of}
use Rattle.vab_fbproto.specs.Texts.{slot_letter}
use Rattle.vab_status.specs.Page.{line, by_name, slot_line, none_line}

-- so many blocks are left to merge
abbrev pub left_line : List ℕ → ℕ → List ℕ
left_line head left = line (head ++ decimal left)

-- where an update stands, with so many blocks left to merge
abbrev pub phase_line : PhaseKind → ℕ → List ℕ
phase_line Idle left = line (codes "phase idle")
phase_line (Installing source) left = line (codes "phase installing")
phase_line (Staged source) left = left_line (codes "phase staged ") left
phase_line (Merging target) left = left_line (codes "phase merging ") left

-- each of these has at most 2^28 blocks
abbrev pub AreSmall : List Part → Type 0
AreSmall parts = All (λ (p : Part). length p.map ≤ 2 ^ 28) parts

-- a partition of a slot, with its size in bytes
abbrev pub image_line : ℕ → Part → List ℕ
image_line slot p =
    line
    (codes "image " ++ slot_letter slot
    ++ codes " " ++ p.name
    ++ codes " " ++ decimal (4096 * length p.map))

-- what is told of a slot with these partitions
abbrev pub slot_page : ℕ → Info → Option (List Part) → List ℕ
slot_page slot info None = none_line slot
slot_page slot info (Some parts) =
    slot_line slot (length parts) info
    ++ flat_map (image_line slot) (by_name (λ (p : Part). p.name) parts)

-- what is known of the image of a planned partition
abbrev pub plan_word : PartImage → List ℕ
plan_word Kept = codes "kept"
plan_word Declared = codes "declared"
plan_word (Written k es) = codes "written"

-- a planned partition, with its size in bytes
abbrev pub plan_line : Part → List ℕ
plan_line p =
    line
    (codes "plan " ++ p.name
    ++ codes " " ++ decimal (4096 * length p.map)
    ++ codes " " ++ plan_word p.image)

-- those that are planned
abbrev pub plan_page : Option (List Part) → List ℕ
plan_page None = []
plan_page (Some plan) = flat_map plan_line (by_name (λ (p : Part). p.name) plan)

-- the partition that is written over, with its size in bytes, the blocks of its store, and those of
-- its own that were written
abbrev pub overlay_line : Part → List ℕ
overlay_line p =
    line
    (codes "overlay " ++ p.name
    ++ codes " " ++ decimal (4096 * length p.map)
    ++ codes " store " ++ decimal (length (blocks_there p.store))
    ++ codes " written " ++ decimal (count_of p.image))

-- what is told of it, where there is one
abbrev pub overlay_page : Option Part → List ℕ
overlay_page None = []
overlay_page (Some p) = overlay_line p

-- it has at most 2^28 blocks
abbrev pub IsSmall : Option Part → Type 0
IsSmall None = Unit {0}
IsSmall (Some p) = length p.map ≤ 2 ^ 28
