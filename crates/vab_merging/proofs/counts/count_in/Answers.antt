use Rattle.std.proofs.Common.{◌+◌, arith}
use Rattle.vab_merging.proofs.CountLaws.{few_all, count_step, count_within}
use Rattle.vab_merging.proofs.counts.count_in.Goals as goal

pub overflow_add-count : goal.overflow_add-count
overflow_add-count c =
    let step = count_step c.args.parts.now c.as_slice-part-items.result.now c.loop-part.part-index
    c.part-item.result c.loop-part.count c.count_of-count.result c.as_slice-part-items.ensures
    c.loop-part-test.true c.part-item.is c.loop-part.invariant c.count_of-count.ensures in
    omega (
      arith,
      step,
      count_within c.args.parts.now (c.loop-part.part-index + 1),
      few_all c.requires.0 c.args.parts.now c.requires.1,
    )

pub loop-part-preserved : goal.loop-part-preserved
loop-part-preserved c =
    count_step c.args.parts.now c.as_slice-part-items.result.now c.loop-part.part-index
    c.part-item.result c.loop-part.count c.count_of-count.result c.as_slice-part-items.ensures
    c.loop-part-test.true c.part-item.is c.loop-part.invariant c.count_of-count.ensures

pub returns-clause-few : goal.returns-clause-few
returns-clause-few c =
    omega (
      arith,
      c.loop-part.invariant,
      count_within c.args.parts.now c.loop-part.part-index,
      few_all c.requires.0 c.args.parts.now c.requires.1,
    )
