use Rattle.vab_machine_laws.proofs.SlotRows.{flash_is, keep_is}
use Rattle.vab_machine_laws.proofs.slots.flashes_are_the_machines.Goals as goal

pub returns-clause-flash : goal.returns-clause-flash
returns-clause-flash c = flash_is

pub returns-clause-keep : goal.returns-clause-keep
returns-clause-keep c = keep_is
