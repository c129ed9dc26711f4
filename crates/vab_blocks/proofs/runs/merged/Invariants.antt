use Rattle.vab_blocks.proofs.Merging.{Merged}
use Rattle.vab_blocks.proofs.runs.merged.Given as goal

abbrev pub invariant-loop-run : goal.invariant-loop-run
invariant-loop-run l = Merged l.runs l.run-index l.all l.end
