use Rattle.vab_targets.proofs.Begun.{begin_keeps}
use Rattle.vab_targets.proofs.Updates.{edits_follow}
use Rattle.vab_machine_laws.proofs.Begins.{update_is, factory_is}
use Rattle.vab_machine_laws.proofs.Creates.{create_is}
use Rattle.vab_machine_laws.proofs.Deletes.{delete_is}
use Rattle.vab_machine_laws.proofs.Snapshots.{snapshot_is}
use Rattle.vab_machine_laws.proofs.Resizes.{resize_is}
use Rattle.vab_machine_laws.proofs.Overlays.{overlay_is}
use Rattle.vab_machine_laws.proofs.edits.edits_are_the_machines.Goals as goal

pub returns-clause-begin : goal.returns-clause-begin
returns-clause-begin c = update_is begin_keeps

pub returns-clause-factory : goal.returns-clause-factory
returns-clause-factory c = factory_is begin_keeps

pub returns-clause-delete : goal.returns-clause-delete
returns-clause-delete c = delete_is edits_follow

pub returns-clause-snapshot : goal.returns-clause-snapshot
returns-clause-snapshot c = snapshot_is edits_follow

pub returns-clause-resize : goal.returns-clause-resize
returns-clause-resize c = resize_is edits_follow

pub returns-clause-create : goal.returns-clause-create
returns-clause-create c = create_is edits_follow

pub returns-clause-overlay : goal.returns-clause-overlay
returns-clause-overlay c = overlay_is
