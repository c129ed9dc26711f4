use Rattle.std.proofs.Common.{◌≡◌, ◌≤◌, length, take}
use Rattle.std.specs.List.{flat_map}
use Rattle.vab_blocks.specs.Blocks.{blocks_of_extent}
use Rattle.vab_partitions.proofs.extents.is_small.Given as goal

abbrev pub invariant-loop-extent : goal.invariant-loop-extent
invariant-loop-extent l =
    (l.blocks
    ≡ length (flat_map (blocks_of_extent l.first_sector) (take l.extent-index l.extents)))
    × (l.blocks ≤ 268435456)
