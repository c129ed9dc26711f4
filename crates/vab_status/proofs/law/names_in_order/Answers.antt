use Rattle.vab_status.proofs.NameLaws.{ordered}
use Rattle.vab_status.proofs.law.names_in_order.Goals as goal

pub returns-clause-images : goal.returns-clause-images
returns-clause-images c = ordered (λ i. i.name)

pub returns-clause-plan : goal.returns-clause-plan
returns-clause-plan c = ordered (λ e. e.name)
