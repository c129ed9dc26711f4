use Rattle.vab_merge.specs.Cleared.{IsCleared}
use Rattle.vab_merge.proofs.clear.clear_sector.Given as goal

abbrev pub invariant-loop-i : goal.invariant-loop-i
invariant-loop-i l = IsCleared l.from l.i l.fn.sector l.sector
