use Rattle.vab_merge.proofs.PairLaws.{may_merge, can_merge}
use Rattle.store_bench.proofs.pair.Pair.merge.Goals as goal

pub run_turn-requires-clause-may : goal.run_turn-requires-clause-may
run_turn-requires-clause-may g c =
    let pair = c.args.self.now in
    let i = c.loop-runs.invariant in
    may_merge pair.chunk pair.base pair.store c.loop-runs.view _ pair.blocks pair.room pair.base_is
    pair.store_is i.on_disk i.fits

pub run_turn-requires-clause-can : goal.run_turn-requires-clause-can
run_turn-requires-clause-can g c = λ _.
    let pair = c.args.self.now in
    let i = c.loop-runs.invariant in
    can_merge pair.chunk pair.base pair.store c.loop-runs.view _ pair.blocks pair.room pair.base_is
    pair.store_is i.on_disk i.fits
