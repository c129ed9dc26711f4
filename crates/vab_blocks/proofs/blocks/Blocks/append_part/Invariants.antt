use Rattle.std.proofs.Common.{◌≡◌, ◌++◌, take, drop}
use Rattle.vab_blocks.specs.Runs.{runs_of, blocks_of_runs}
use Rattle.vab_blocks.proofs.blocks.Blocks.append_part.Given as goal

abbrev pub invariant-loop-run : goal.invariant-loop-run
invariant-loop-run l =
    l.self ++ take l.left (drop l.skip (blocks_of_runs (drop l.run-index (runs_of l.other))))
    ≡ l.initial.self ++ take l.count (drop l.fn.skip l.other)
