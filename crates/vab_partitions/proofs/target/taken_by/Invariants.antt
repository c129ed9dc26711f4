use Rattle.std.proofs.Common.{◌≡◌, take}
use Rattle.vab_layout.specs.Layout.{blocks_of_parts}
use Rattle.vab_layout.specs.Slots.{own_parts}
use Rattle.vab_partitions.proofs.target.taken_by.Given as goal

abbrev pub invariant-loop-part : goal.invariant-loop-part
invariant-loop-part l =
    l.blocks ≡ blocks_of_parts (own_parts l.slot (take l.part-index l.parts))
