use Rattle.vab_boots.proofs.HeldStays.{each_is_spared, finished_holds, spared_holds}
use Rattle.vab_boots.proofs.held.physical_images_stay.Goals as goal

pub returns-clause-holds : goal.returns-clause-holds
returns-clause-holds c = spared_holds

pub returns-clause-each : goal.returns-clause-each
returns-clause-each c = each_is_spared

pub returns-clause-finished : goal.returns-clause-finished
returns-clause-finished c = finished_holds
