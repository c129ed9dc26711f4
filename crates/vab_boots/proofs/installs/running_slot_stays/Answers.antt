use Rattle.vab_boots.proofs.Installing.{stays_running, needs_no_update}
use Rattle.vab_boots.proofs.installs.running_slot_stays.Goals as goal

pub returns-clause-running : goal.returns-clause-running
returns-clause-running c = stays_running

pub returns-clause-unready : goal.returns-clause-unready
returns-clause-unready c = needs_no_update
