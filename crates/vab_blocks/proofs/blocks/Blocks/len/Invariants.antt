use Rattle.std.proofs.Common.{◌≡◌, length, take}
use Rattle.vab_blocks.specs.Runs.{runs_of, blocks_of_runs}
use Rattle.vab_blocks.proofs.blocks.Blocks.len.Given as goal

abbrev pub invariant-loop-run : goal.invariant-loop-run
invariant-loop-run l = l.count ≡ length (blocks_of_runs (take l.run-index (runs_of l.self)))
