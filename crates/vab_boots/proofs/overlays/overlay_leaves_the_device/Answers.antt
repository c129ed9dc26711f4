use Rattle.vab_boots.proofs.Overlaying.{steps_leave, lists_leave, gives_back}
use Rattle.vab_boots.proofs.overlays.overlay_leaves_the_device.Goals as goal

pub returns-clause-steps : goal.returns-clause-steps
returns-clause-steps c = steps_leave

pub returns-clause-lists : goal.returns-clause-lists
returns-clause-lists c = lists_leave

pub returns-clause-discard : goal.returns-clause-discard
returns-clause-discard c = gives_back
