use Rattle.std.proofs.Common.{◌≡◌, ◌++◌, drop}
use Rattle.vab_gen.specs.Sets.{fresh_images}
use Rattle.vab_gen.proofs.set.set_scaled.Given as goal

abbrev pub invariant-loop-name : goal.invariant-loop-name
invariant-loop-name l =
    l.images.items ++ fresh_images l.scale l.draws.last (drop l.name-index l.name-items)
    ≡ fresh_images l.scale l.seed l.name-items
