use Rattle.std.proofs.Common.{◌≡◌, drop, None}
use Rattle.vab_model.specs.Machine.{least_blank}
use Rattle.vab_machine.proofs.ready.least_blank.Given as goal

abbrev pub invariant-loop-partition : goal.invariant-loop-partition
invariant-loop-partition l =
    least_blank l.slot l.least (drop l.partition-index l.physical)
    ≡ least_blank l.slot None l.physical
