use Rattle.std.proofs.Common.{◌≡◌, take, Some}
use Rattle.vab_model.specs.Physical.{at_physical, holding}
use Rattle.vab_machine.proofs.physical.at_physical.Given as goal

abbrev pub invariant-loop-partition : goal.invariant-loop-partition
invariant-loop-partition l =
    l.copies.items
    ≡ at_physical l.name (holding l.slot (Some l.bytes)) (take l.partition-index l.physical)
