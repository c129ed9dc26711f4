use Rattle.vab_boots.proofs.Booting as booting
use Rattle.vab_boots.proofs.boots.always_boots.Goals as goal

pub returns-clause-works : goal.returns-clause-works
returns-clause-works c = booting.works

pub returns-clause-boots : goal.returns-clause-boots
returns-clause-boots c = booting.boots

pub returns-clause-alone : goal.returns-clause-alone
returns-clause-alone c = booting.alone
