use Rattle.std.proofs.Common.{List, arith}
use Rattle.vab_layout.specs.Layout.{layout_of}
use Rattle.vab_layout.specs.declared.layout.Part.{Part}
use Rattle.vab_layout.specs.Slots.{twins_by}
use Rattle.vab_builder.proofs.UsedLaws.{used_bound, used_parts}
use Rattle.vab_builder.proofs.room.in_use.Goals as goal

pub overflow_add-result : goal.overflow_add-result
overflow_add-result c =
    let a = c.args in
    let twins : List Part = twins_by a.apart (layout_of a.source.now).parts in
    omega (
      arith,
      c.slot_blocks.ensures,
      c.all_taken.ensures,
      used_parts a.slot twins a.source.now a.target.now a.change.now,
      used_bound a.slot twins (layout_of a.source.now) (layout_of a.target.now) a.change.now
          c.requires.tables.update c.requires.small,
    )

pub returns-clause-is : goal.returns-clause-is
returns-clause-is c =
    let a = c.args in
    let twins : List Part = twins_by a.apart (layout_of a.source.now).parts in
    omega (
      arith,
      c.slot_blocks.ensures,
      c.all_taken.ensures,
      used_parts a.slot twins a.source.now a.target.now a.change.now,
    )

pub returns-clause-small : goal.returns-clause-small
returns-clause-small c =
    let a = c.args in
    let twins : List Part = twins_by a.apart (layout_of a.source.now).parts in
    omega (
      arith,
      c.slot_blocks.ensures,
      c.all_taken.ensures,
      used_parts a.slot twins a.source.now a.target.now a.change.now,
      used_bound a.slot twins (layout_of a.source.now) (layout_of a.target.now) a.change.now
          c.requires.tables.update c.requires.small,
    )
