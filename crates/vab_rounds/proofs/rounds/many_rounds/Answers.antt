use Rattle.vab_rounds.proofs.Folding.{rounds_fold, sessions_fold, rounds_boot}
use Rattle.vab_rounds.proofs.rounds.many_rounds.Goals as goal

pub returns-clause-fold : goal.returns-clause-fold
returns-clause-fold c = rounds_fold

pub returns-clause-sessions : goal.returns-clause-sessions
returns-clause-sessions c = sessions_fold

pub returns-clause-boots : goal.returns-clause-boots
returns-clause-boots c = rounds_boot
