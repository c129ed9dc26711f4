use Rattle.std.proofs.Common.{take}
use Rattle.vab_blocks.specs.Runs.{blocks_of_runs}
use Rattle.vab_blocks.proofs.Merging.{Merged}
use Rattle.vab_blocks.proofs.blocks.are_apart.Given as goal

abbrev pub invariant-loop-run : goal.invariant-loop-run
invariant-loop-run l = Merged l.runs l.run-index (blocks_of_runs (take l.run-index l.runs)) l.end
