use Rattle.std.proofs.Common.{◌≡◌}
use Rattle.std.specs.Prelude.{map}
use Rattle.vab_blocks.specs.Blocks.{first_sector_of}
use Rattle.vab_partitions.specs.Own.{own_before}
use Rattle.vab_device.specs.Kept.{part_on}
use Rattle.vab_plan.proofs.partitions.parts.Given as goal

abbrev pub invariant-loop-partition : goal.invariant-loop-partition
invariant-loop-partition l = l.parts.items ≡ map (part_on (first_sector_of l.table))
    (own_before l.slot l.table l.partition-index)
