use Rattle.vab_merge.proofs.PairLaws.{may_merge, can_merge}
use Rattle.vab_store_tests.proofs.pair.Pair.merge.Goals as goal

pub run_turn-requires-clause-may : goal.run_turn-requires-clause-may
run_turn-requires-clause-may c =
    let pair = c.args.self.now in
    may_merge pair.chunk pair.base pair.store c.in_ok-view.view _ pair.blocks pair.room pair.base_is
    pair.store_is (c.lies_on.ensures c.if-not-lies_on.false) c.in_ok-view.ensures

pub run_turn-requires-clause-can : goal.run_turn-requires-clause-can
run_turn-requires-clause-can c = λ _.
    let pair = c.args.self.now in
    can_merge pair.chunk pair.base pair.store c.in_ok-view.view _ pair.blocks pair.room pair.base_is
    pair.store_is (c.lies_on.ensures c.if-not-lies_on.false) c.in_ok-view.ensures
