use Rattle.std.proofs.Common.{◌≡◌, drop}
use Rattle.vab_layout.specs.Slots.{blocks_named}
use Rattle.vab_partitions.proofs.beside.blocks_named.Given as goal

abbrev pub invariant-loop-part : goal.invariant-loop-part
invariant-loop-part l =
    blocks_named l.name l.parts ≡ blocks_named l.name (drop l.part-index l.parts)
