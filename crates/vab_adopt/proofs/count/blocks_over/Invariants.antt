use Rattle.std.proofs.Common.{◌≡◌, take}
use Rattle.vab_adopt.specs.Counting.{blocks_over}
use Rattle.vab_adopt.proofs.count.blocks_over.Given as goal

abbrev pub invariant-loop-part : goal.invariant-loop-part
invariant-loop-part l = l.sum ≡ blocks_over (take l.part-index l.parts)
