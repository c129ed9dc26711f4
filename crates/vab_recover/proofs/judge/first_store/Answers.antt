use Rattle.std.proofs.Common.{refl}
use Rattle.vab_layout.specs.Layout.{layout_of}
use Rattle.vab_recover.proofs.judge.first_store.Goals as goal

pub loop-partition-init : goal.loop-partition-init
unfolding layout_of
loop-partition-init c = refl
