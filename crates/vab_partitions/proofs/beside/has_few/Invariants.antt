use Rattle.std.proofs.Common.{◌≡◌, ◌≤◌, ◌^◌, length, take}
use Rattle.vab_blocks.specs.Runs.{blocks_of_runs}
use Rattle.vab_partitions.proofs.beside.has_few.Given as goal

abbrev pub invariant-loop-run : goal.invariant-loop-run
invariant-loop-run l =
    (l.count ≡ length (blocks_of_runs (take l.run-index l.run-items))) × (l.count ≤ 2 ^ 28)
