-- The groups of an update's target beside the source's, and the block devices of two tables.
use Rattle.std.specs.Prelude.{ℕ, Bool, ◌&&◌, ◌==◌, List}
use Rattle.std.specs.Str.{bytes_eq}
use Rattle.std.specs.Cmp.Lexicographic.{pointwise}
use Rattle.vab_tables.specs.declared.entries.Group.{Group}
use Rattle.vab_tables.specs.declared.entries.BlockDevice.{BlockDevice}
use Rattle.vab_layout.specs.Slots.{other_slot, groups_of_slot}

-- the same base name and the same limit
abbrev pub is_twin : List ℕ × ℕ → List ℕ × ℕ → Bool
is_twin a b = bytes_eq a.0 b.0 && a.1 == b.1

-- the groups of the target's slot are those of the source's, without the suffix and in this order
unfoldable pub are_twins : (slot : ℕ) → (source target : List Group) → Bool
are_twins slot source target =
    pointwise is_twin (groups_of_slot (other_slot slot) source) (groups_of_slot slot target)

-- the same block device
abbrev pub is_device : BlockDevice → BlockDevice → Bool
is_device a b =
    a.first_logical_sector == b.first_logical_sector
    && (a.alignment == b.alignment
    && (a.alignment_offset == b.alignment_offset
    && (a.size == b.size
    && (bytes_eq a.partition_name b.partition_name && a.flags == b.flags))))

-- the same block devices
unfoldable pub are_devices : List BlockDevice → List BlockDevice → Bool
are_devices a b = pointwise is_device a b
