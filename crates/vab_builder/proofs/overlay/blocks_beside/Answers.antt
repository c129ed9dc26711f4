use Rattle.std.proofs.Common.{arith}
use Rattle.vab_layout.specs.Layout.{layout_of}
use Rattle.vab_layout.specs.Slots.{own_parts}
use Rattle.vab_layout.proofs.LayoutLaws.{layout_keeps}
use Rattle.vab_builder.proofs.OverlayTable.{own_fit, sizes_are}
use Rattle.vab_builder.proofs.overlay.blocks_beside.Goals as goal

pub overflow_sub-result : goal.overflow_sub-result
overflow_sub-result c =
    let a = c.args in
    let l = layout_of a.table.now in
    omega (
      arith,
      c.capacity.ensures,
      c.slot_blocks.ensures,
      sizes_are (own_parts a.slot l.parts),
      own_fit a.slot l (layout_keeps a.table.now c.requires.keeps) c.requires.own,
    )

pub returns : goal.returns
returns c =
    let a = c.args in
    let l = layout_of a.table.now in
    omega (
      arith,
      c.capacity.ensures,
      c.slot_blocks.ensures,
      sizes_are (own_parts a.slot l.parts),
      own_fit a.slot l (layout_keeps a.table.now c.requires.keeps) c.requires.own,
    )
