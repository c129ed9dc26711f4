use Rattle.std.proofs.Common.{◌≡◌, ◌++◌, take}
use Rattle.std.specs.List.{flat_map}
use Rattle.vab_blocks.specs.Blocks.{blocks_of_extent}
use Rattle.vab_blocks.proofs.blocks.Blocks.push_extents.Given as goal

abbrev pub invariant-loop-extent : goal.invariant-loop-extent
invariant-loop-extent l =
    l.self
    ≡ l.initial.self ++ flat_map (blocks_of_extent l.first_sector) (take l.extent-index l.extents)
