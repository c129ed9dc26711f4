use Rattle.vab_machine_laws.proofs.SlotRows.{set_active_row, boot_row, mark_row, print_row}
use Rattle.vab_machine_laws.proofs.SlotRows.{digest_row}
use Rattle.vab_machine_laws.proofs.slots.slots_are_the_machines.Goals as goal

pub returns-clause-set_active : goal.returns-clause-set_active
returns-clause-set_active c = set_active_row

pub returns-clause-boot : goal.returns-clause-boot
returns-clause-boot c = boot_row

pub returns-clause-mark : goal.returns-clause-mark
returns-clause-mark c = mark_row

pub returns-clause-print : goal.returns-clause-print
returns-clause-print c = print_row

pub returns-clause-digest : goal.returns-clause-digest
returns-clause-digest c = digest_row
