use Rattle.std.proofs.Common.{◌∙◌, sym, subst}
use Rattle.vab_set.specs.Spelling.{IsSet}
use Rattle.vab_gen.proofs.SetLaws.{next_is_set}
use Rattle.vab_gen.proofs.SetLoop.{next_more, next_done}
use Rattle.vab_gen.proofs.set.next_scaled.Goals as goal

pub loop-old-preserved : goal.loop-old-preserved
loop-old-preserved c =
    rw (c.in_ok-push.ensures.items, c.in_ok-image.ensures.image, c.in_ok-image.ensures.draws)
    (next_more c.args.scale c.loop-old.draws.last c.loop-old.old-index
    c.as_slice-old-items.result.now c.old-item.result c.loop-old.images.items _
    c.loop-old-test.true c.old-item.is c.loop-old.invariant)

pub returns-clause-exact : goal.returns-clause-exact
returns-clause-exact c =
    c.from_vec.ensures
    ∙ next_done c.args.scale c.loop-old.draws.last c.loop-old.old-index
    c.as_slice-old-items.result.now c.loop-old.images.items _ c.loop-old-test.false
    c.loop-old.invariant

pub returns-clause-set : goal.returns-clause-set
returns-clause-set c = λ is.
    subst IsSet (sym (returns-clause-exact c))
    (next_is_set c.args.scale c.args.seed c.args.set.now c.requires.scale c.requires.room is)
