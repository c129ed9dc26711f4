use Rattle.std.proofs.Common.{length, ap, sym, subst, arith}
use Rattle.vab_set.specs.Spelling.{IsSet}
use Rattle.vab_gen.specs.Sets.{HasRoom}
use Rattle.vab_gen.proofs.SetLaws.{fresh_is_set, fresh_has_room}
use Rattle.vab_gen.proofs.SetLoop.{fresh_more, fresh_all}
use Rattle.vab_gen.proofs.set.set_scaled.Goals as goal

pub loop-name-preserved : goal.loop-name-preserved
loop-name-preserved c =
    let long = ap length c.base_names.ensures in
    rw (
      c.in_ok-push.ensures.items,
      c.in_ok-image.ensures.image,
      c.in_ok-image.ensures.draws,
      ← c.name-item.is,
    )
    (fresh_more c.args.scale c.loop-name.draws.last c.loop-name.name-index c.base_names.result
    c.name-item.result c.loop-name.images.items _ (omega (arith, long)) c.name-item.is
    c.loop-name.invariant)

pub returns-clause-exact : goal.returns-clause-exact
returns-clause-exact c =
    let long = ap length c.base_names.ensures in
    fresh_all c.args.scale c.args.seed c.loop-name.draws.last c.loop-name.name-index
    c.base_names.result c.from_vec.result c.loop-name.images.items c.from_vec.ensures
    c.base_names.ensures (omega (arith, long)) c.loop-name.invariant

pub returns-clause-set : goal.returns-clause-set
returns-clause-set c =
    subst IsSet (sym (returns-clause-exact c)) (fresh_is_set c.args.scale c.args.seed c.requires)

pub returns-clause-room : goal.returns-clause-room
returns-clause-room c =
    subst HasRoom (sym (returns-clause-exact c))
    (fresh_has_room c.args.scale c.args.seed c.requires)
