use Rattle.std.proofs.Common.{◌≡◌}
use Rattle.std.specs.Prelude.{map}
use Rattle.vab_partitions.specs.Own.{own_before}
use Rattle.vab_model.specs.Wipe.{empty_image}
use Rattle.vab_machine.proofs.wipe.empty_images.Given as goal

abbrev pub invariant-loop-partition : goal.invariant-loop-partition
invariant-loop-partition l =
    l.images.items ≡ map empty_image (own_before l.slot l.table l.partition-index)
