use Rattle.vab_targets.proofs.Begun.{begin_keeps}
use Rattle.vab_targets.proofs.Updates.{edits_follow}
use Rattle.vab_machine_laws.proofs.All.{each_is}
use Rattle.vab_machine_laws.proofs.edits.each_command_is_the_machines.Goals as goal

pub returns : goal.returns
returns c = each_is begin_keeps edits_follow
