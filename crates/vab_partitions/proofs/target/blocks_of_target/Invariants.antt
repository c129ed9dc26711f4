use Rattle.std.proofs.Common.{◌≡◌, take}
use Rattle.vab_layout.specs.Layout.{blocks_of_parts}
use Rattle.vab_partitions.specs.Target.{target_parts}
use Rattle.vab_partitions.proofs.target.blocks_of_target.Given as goal

abbrev pub invariant-loop-part : goal.invariant-loop-part
invariant-loop-part l =
    l.blocks ≡ blocks_of_parts (target_parts l.slot (take l.part-index l.parts))
