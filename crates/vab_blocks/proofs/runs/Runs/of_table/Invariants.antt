use Rattle.std.proofs.Common.{◌≡◌, take}
use Rattle.std.specs.List.{flat_map}
use Rattle.vab_blocks.specs.Blocks.{blocks_of_named}
use Rattle.vab_blocks.proofs.runs.Runs.of_table.Given as goal

abbrev pub invariant-loop-partition : goal.invariant-loop-partition
invariant-loop-partition l =
    l.blocks
    ≡ flat_map (blocks_of_named l.table l.names) (take l.partition-index l.table.partitions)
