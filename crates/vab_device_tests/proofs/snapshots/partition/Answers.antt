use Rattle.std.proofs.Common.{◌∙◌}
use Rattle.vab_store.proofs.PartLaws.{one_run}
use Rattle.vab_device_tests.proofs.snapshots.partition.Goals as goal

pub returns-in-Ok : goal.returns-in-Ok
returns-in-Ok c = c.in-Ok.ensures ∙ one_run c.args.first c.args.blocks
