use Rattle.std.proofs.Common.{arith}
use Rattle.vab_store.proofs.SortLaws.{tie_ends}
use Rattle.vab_store.proofs.index.first_tie.Goals as goal

pub returns : goal.returns
returns c =
    tie_ends c.args.places.now c.loop-i.i c.loop-i.first (omega (arith, c.loop-i-test.false))
    c.loop-i.invariant.few (λ some. omega (arith, c.loop-i.auto.i-end, some))
    c.loop-i.invariant.tells
