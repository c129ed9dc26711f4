use Rattle.vab_targets.proofs.WrittenLaws.{keeps_nothing, finish_gives}
use Rattle.vab_targets.proofs.written.finishes_with_what_was_written.Goals as goal

pub returns-clause-kept : goal.returns-clause-kept
returns-clause-kept c = keeps_nothing

pub returns-clause-finished : goal.returns-clause-finished
returns-clause-finished c = finish_gives
