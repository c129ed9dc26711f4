use Rattle.std.proofs.Common.{◌^◌, sym, ◌∙◌, arith}
use Rattle.vab_builder.specs.Sums.{own_size}
use Rattle.vab_builder.proofs.SumLaws.{sum_sizes, sizes_small, sum_within, sum_done}
use Rattle.vab_builder.proofs.sizes.slot_blocks.Goals as goal

pub overflow_add-blocks : goal.overflow_add-blocks
overflow_add-blocks c =
    let a = c.args in
    omega (
      arith,
      sum_within (own_size a.slot a.table.now) _ _ _ _ _ _ (2 ^ 34)
          (sizes_small a.slot a.table.now c.requires.own) c.as_slice-partitions.ensures
          c.loop-partition-test.true c.partition-item.is c.loop-partition.invariant
          c.own_blocks-blocks.ensures,
    )

pub returns : goal.returns
returns c =
    let a = c.args in
    sum_done (own_size a.slot a.table.now) _ _ _ _ c.as_slice-partitions.ensures
    c.loop-partition-test.false c.loop-partition.invariant
    ∙ sym (sum_sizes a.slot a.table.now)
