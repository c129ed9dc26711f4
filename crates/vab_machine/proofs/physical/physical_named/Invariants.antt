use Rattle.std.proofs.Common.{◌≡◌, drop}
use Rattle.vab_model.specs.Physical.{physical_named}
use Rattle.vab_machine.proofs.physical.physical_named.Given as goal

abbrev pub invariant-loop-partition : goal.invariant-loop-partition
invariant-loop-partition l =
    physical_named l.name (drop l.partition-index l.physical) ≡ physical_named l.name l.physical
