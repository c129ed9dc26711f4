use Rattle.std.proofs.Common.{◌≡◌, ◌++◌, drop}
use Rattle.vab_gen.specs.Sets.{next_set}
use Rattle.vab_gen.proofs.set.next_scaled.Given as goal

abbrev pub invariant-loop-old : goal.invariant-loop-old
invariant-loop-old l =
    l.images.items ++ next_set l.scale l.draws.last (drop l.old-index l.old-items)
    ≡ next_set l.scale l.seed l.set
