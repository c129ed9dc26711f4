use Rattle.std.proofs.Common.{◌≤◌, ◌-◌}
use Rattle.vab_space.specs.Chunks.{entries_in}
use Rattle.vab_merge.specs.Run.{IsRun}
use Rattle.vab_merge.proofs.run.run_length.Given as goal

abbrev pub invariant-loop-n : goal.invariant-loop-n
invariant-loop-n l = record {
  run : IsRun (entries_in l.chunk) l.view l.n;
  most : l.n ≤ l.most;
  some : 1 ≤ l.n;
}

abbrev pub decreases-loop-n : goal.decreases-loop-n
decreases-loop-n l = l.most - l.n
