use Rattle.vab_rounds.proofs.Ended.{merges_have_ended}
use Rattle.vab_rounds.proofs.Merging.{merges_end}
use Rattle.vab_rounds.proofs.rounds.ends_a_merge.Goals as goal

pub returns-clause-ended : goal.returns-clause-ended
returns-clause-ended c = merges_have_ended

pub returns-clause-last : goal.returns-clause-last
returns-clause-last c = merges_end
