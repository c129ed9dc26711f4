use Rattle.std.proofs.Common.{List, ◌^◌, arith}
use Rattle.vab_layout.specs.Layout.{layout_of}
use Rattle.vab_layout.specs.declared.layout.Part.{Part}
use Rattle.vab_layout.specs.Slots.{twins_by}
use Rattle.vab_builder.specs.Sums.{own_taken}
use Rattle.vab_builder.proofs.SumLaws.{sum_within, sum_done}
use Rattle.vab_builder.proofs.UsedLaws.{taken_small}
use Rattle.vab_builder.proofs.room.all_taken.Goals as goal

pub overflow_add-blocks : goal.overflow_add-blocks
overflow_add-blocks c =
    let a = c.args in
    let twins : List Part = twins_by a.apart (layout_of a.source.now).parts in
    omega (
      arith,
      sum_within (own_taken a.slot twins a.target.now a.change.now) _ _ _ _ _ _ (2 ^ 63)
          (taken_small a.slot twins a.source.now a.target.now a.change.now c.requires.tables.update
          c.requires.small)
          c.as_slice-partitions.ensures c.loop-partition-test.true c.partition-item.is
          c.loop-partition.invariant c.taken-blocks.ensures,
    )

pub returns : goal.returns
returns c =
    let a = c.args in
    let twins : List Part = twins_by a.apart (layout_of a.source.now).parts in
    sum_done (own_taken a.slot twins a.target.now a.change.now) _ _ _ _
    c.as_slice-partitions.ensures c.loop-partition-test.false c.loop-partition.invariant
