use Rattle.std.proofs.Common.{◌≡◌, take}
use Rattle.vab_model.proofs.copy.copy_physical.Given as goal

abbrev pub invariant-loop-partition : goal.invariant-loop-partition
invariant-loop-partition l = l.copies.items ≡ take l.partition-index l.partition-items
