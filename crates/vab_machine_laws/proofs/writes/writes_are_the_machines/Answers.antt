use Rattle.vab_machine_laws.proofs.SlotRows.{overlay_write_row, overlay_discard_row}
use Rattle.vab_machine_laws.proofs.writes.writes_are_the_machines.Goals as goal

pub returns-clause-write : goal.returns-clause-write
returns-clause-write c = overlay_write_row

pub returns-clause-discard : goal.returns-clause-discard
returns-clause-discard c = overlay_discard_row
