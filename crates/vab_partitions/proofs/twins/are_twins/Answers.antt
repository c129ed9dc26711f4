use Rattle.std.proofs.Common.{refl, sym, ◌∙◌, arith}
use Rattle.vab_partitions.specs.Twins.{are_twins}
use Rattle.vab_partitions.proofs.TwinLaws.{twins_end}
use Rattle.vab_partitions.proofs.twins.are_twins.Goals as goal

pub loop-group-init : goal.loop-group-init
unfolding are_twins
loop-group-init c = (omega arith, refl)

pub returns : goal.returns
returns c =
    twins_end c.args.slot c.args.source.now c.args.target.now c.loop-group.from
    c.loop-group.group-index c.next_own.result c.is_none.result c.loop-group-test.false
    c.is_none.ensures c.next_own.ensures.none c.next_own.ensures.next
    ∙ sym c.loop-group.invariant.1
