use Rattle.std.proofs.Common.{◌∙◌, sym}
use Rattle.vab_status.proofs.OrderLaws.{placed_there, further_there}
use Rattle.vab_status.proofs.order.place_of.Goals as goal

pub returns-then-not-is_before-clause-place : goal.returns-then-not-is_before-clause-place
returns-then-not-is_before-clause-place c =
    placed_there (λ p. p.name) c.args.part.now c.args.sorted.now c.loop-i.i
    c.index-sorted-i.result c.index-sorted-i.is c.loop-i-test.true c.loop-i.invariant
    (sym c.is_before.ensures ∙ c.if-not-is_before.true)

pub loop-i-preserved : goal.loop-i-preserved
loop-i-preserved c =
    further_there (λ p. p.name) c.args.part.now c.args.sorted.now c.loop-i.i
    c.index-sorted-i.result c.index-sorted-i.is c.loop-i-test.true c.loop-i.invariant
    (sym c.is_before.ensures ∙ c.if-not-is_before.false)
