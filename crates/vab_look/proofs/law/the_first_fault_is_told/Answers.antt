use Rattle.vab_look.proofs.CheckLaws.{has_fault, has_fine}
use Rattle.vab_look.proofs.law.the_first_fault_is_told.Goals as goal

pub returns-clause-wrong : goal.returns-clause-wrong
returns-clause-wrong c = has_fault

pub returns-clause-fine : goal.returns-clause-fine
returns-clause-fine c = has_fine
