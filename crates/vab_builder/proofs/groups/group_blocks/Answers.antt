use Rattle.std.proofs.Common.{◌^◌, sym, ◌∙◌, arith}
use Rattle.vab_builder.specs.Sums.{size_in}
use Rattle.vab_builder.proofs.SumLaws.{sum_within, sum_done}
use Rattle.vab_builder.proofs.GroupLaws.{sum_in, in_small}
use Rattle.vab_builder.proofs.groups.group_blocks.Goals as goal

pub overflow_add-blocks : goal.overflow_add-blocks
overflow_add-blocks c =
    let a = c.args in
    omega (
      arith,
      sum_within (size_in a.slot a.table.now a.group.now a.name.now a.count) _ _ _ _ _ _ (2 ^ 34)
          (in_small a.slot a.table.now a.group.now a.name.now a.count c.requires.own
          c.requires.small)
          c.as_slice-partitions.ensures c.loop-partition-test.true c.partition-item.is
          c.loop-partition.invariant c.size_in-blocks.ensures,
    )

pub returns : goal.returns
returns c =
    let a = c.args in
    sum_done (size_in a.slot a.table.now a.group.now a.name.now a.count) _ _ _ _
    c.as_slice-partitions.ensures c.loop-partition-test.false c.loop-partition.invariant
    ∙ sym (sum_in a.slot a.table.now a.group.now a.name.now a.count)
