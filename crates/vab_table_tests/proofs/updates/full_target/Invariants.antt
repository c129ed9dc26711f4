use Rattle.vab_table_tests.specs.Updates.{IsUpdated}
use Rattle.vab_table_tests.proofs.updates.full_target.Given as goal

abbrev pub invariant-loop-number : goal.invariant-loop-number
invariant-loop-number l =
    IsUpdated l.fn.update.to l.fn.update.apart l.fn.source l.target
