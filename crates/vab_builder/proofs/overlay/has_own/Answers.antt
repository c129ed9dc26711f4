use Rattle.std.proofs.Common.{sym, ◌∙◌}
use Rattle.vab_layout.specs.Layout.{layout_of}
use Rattle.vab_builder.proofs.PartLaws.{has_own}
use Rattle.vab_builder.proofs.OverlayTable.{none_own}
use Rattle.vab_builder.proofs.overlay.has_own.Goals as goal

pub returns-then-is_of_slot : goal.returns-then-is_of_slot
returns-then-is_of_slot c =
    let a = c.args in
    let of = sym c.is_of_slot.ensures ∙ c.if-is_of_slot.true in
    c.has_part.ensures ∙ sym (has_own a.slot a.name.now (layout_of a.table.now).parts of)

pub returns-else-is_of_slot : goal.returns-else-is_of_slot
returns-else-is_of_slot c =
    let a = c.args in
    let other = sym c.is_of_slot.ensures ∙ c.if-is_of_slot.false in
    c.if-is_of_slot.false ∙ sym (none_own a.slot a.name.now (layout_of a.table.now).parts other)
