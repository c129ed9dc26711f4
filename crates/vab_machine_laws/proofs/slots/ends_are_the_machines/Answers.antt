use Rattle.vab_machine_laws.proofs.SlotRows.{finish_is, cancel_is, begin_merge_is, merge_is}
use Rattle.vab_machine_laws.proofs.slots.ends_are_the_machines.Goals as goal

pub returns-clause-finish : goal.returns-clause-finish
returns-clause-finish c = finish_is

pub returns-clause-cancel : goal.returns-clause-cancel
returns-clause-cancel c = cancel_is

pub returns-clause-begin_merge : goal.returns-clause-begin_merge
returns-clause-begin_merge c = begin_merge_is

pub returns-clause-merge : goal.returns-clause-merge
returns-clause-merge c = merge_is
