use Rattle.vab_merge.proofs.PairLaws.{may_merge, can_merge}
use Rattle.vab_store_tests.proofs.cuts.turned.Goals as goal

pub turn-requires-clause-may : goal.turn-requires-clause-may
turn-requires-clause-may c =
    let pair = c.args.pair.now in
    may_merge pair.chunk pair.base pair.store c.in_ok-view.view _ pair.blocks pair.room pair.base_is
    pair.store_is (c.lies_on.ensures c.if-not-lies_on.false) c.in_ok-view.ensures

pub turn-requires-clause-can : goal.turn-requires-clause-can
turn-requires-clause-can c = λ _.
    let pair = c.args.pair.now in
    can_merge pair.chunk pair.base pair.store c.in_ok-view.view _ pair.blocks pair.room pair.base_is
    pair.store_is (c.lies_on.ensures c.if-not-lies_on.false) c.in_ok-view.ensures
