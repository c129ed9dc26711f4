use Rattle.vab_rounds.proofs.Given.{finished_last, finished_merged}
use Rattle.vab_rounds.proofs.rounds.keeps_what_finish_gave.Goals as goal

pub returns-clause-last : goal.returns-clause-last
returns-clause-last c = finished_last

pub returns-clause-merged : goal.returns-clause-merged
returns-clause-merged c = finished_merged
