use Rattle.vab_blocks.proofs.Gaps.{Gaps}
use Rattle.vab_blocks.proofs.runs.Runs.free.Given as goal

abbrev pub invariant-loop-run : goal.invariant-loop-run
invariant-loop-run l = Gaps l.cap l.taken l.run-index l.blocks l.at
