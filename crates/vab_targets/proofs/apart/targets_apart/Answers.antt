use Rattle.vab_targets.proofs.ApartLaws.{created_lowest, resized_itself, uses_all, apart_updated}
use Rattle.vab_targets.proofs.apart.targets_apart.Goals as goal

pub returns-clause-created : goal.returns-clause-created
returns-clause-created c = created_lowest

pub returns-clause-resized : goal.returns-clause-resized
returns-clause-resized c = resized_itself

pub returns-clause-used : goal.returns-clause-used
returns-clause-used c = uses_all

pub returns-clause-fresh : goal.returns-clause-fresh
returns-clause-fresh c = apart_updated
