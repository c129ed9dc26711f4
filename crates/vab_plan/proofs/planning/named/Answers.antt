use Rattle.std.proofs.Common.{refl}
use Rattle.vab_layout.specs.Layout.{layout_of}
use Rattle.vab_plan.proofs.planning.named.Goals as goal

pub loop-partition-init : goal.loop-partition-init
unfolding layout_of
loop-partition-init c = refl
