use Rattle.std.proofs.Common.{◌≡◌, take}
use Rattle.vab_model.specs.Physical.{all_blank}
use Rattle.vab_machine.proofs.physical.all_blank.Given as goal

abbrev pub invariant-loop-partition : goal.invariant-loop-partition
invariant-loop-partition l = l.copies.items ≡ all_blank l.slot (take l.partition-index l.physical)
