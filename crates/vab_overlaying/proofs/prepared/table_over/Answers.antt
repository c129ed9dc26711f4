use Rattle.std.proofs.Common.{◌≡◌, ◌∙◌, List, ℕ, Err, sym, ap, arith, true, false, subst}
use Rattle.vab_builder.specs.declared.fault.EditFault.{EditFault}
use Rattle.vab_builder.specs.declared.fault.EditFault.TheVariants.{TableFull}
use Rattle.vab_builder.specs.Edits.{fitting}
use Rattle.vab_builder.specs.Gives.{GivesTable}
use Rattle.vab_builder.specs.Overlay.{with_overlay}
use Rattle.vab_builder.specs.Sizes.{has_part}
use Rattle.vab_layout.specs.Layout.{layout_of}
use Rattle.vab_layout.specs.Slots.{own_parts}
use Rattle.vab_overlaying.proofs.MeasuredLaws.{refuses_memory, refuses_full, refuses_never}
use Rattle.vab_overlaying.proofs.MeasuredLaws.{measured_own, measured_room, has_named}
use Rattle.vab_overlaying.proofs.prepared.table_over.Goals as goal

pub returns-then-not-has_own-clause-refused : goal.returns-then-not-has_own-clause-refused
returns-then-not-has_own-clause-refused c = λ size m.
    let d = c.args.device.now in
    let t = c.table-table.result.now in
    refuses_never d c.args.name.now size c.args.blocks _
    (λ n image dev is.
    let q = measured_own d n image c.args.name.now size c.args.blocks t dev is m
    c.table-table.ensures in
    let has : has_part c.args.name.now (own_parts d.mark.slot (layout_of t).parts) ≡ true =
    has_named (own_parts d.mark.slot (layout_of t).parts) c.args.name.now q.0 q.1 q.2 in
    let no : has_part c.args.name.now (own_parts d.mark.slot (layout_of t).parts) ≡ false =
    ap (λ (name : List ℕ). has_part name (own_parts d.mark.slot (layout_of t).parts))
    (sym c.text.ensures.value)
    ∙ sym c.has_own.ensures ∙ c.if-not-has_own.true in
    let bad : true ≡ false = sym has ∙ no in
    cc)

pub returns-then-blocks-free-clause-refused : goal.returns-then-blocks-free-clause-refused
returns-then-blocks-free-clause-refused c = λ size m.
    let d = c.args.device.now in
    let t = c.table-table.result.now in
    refuses_never d c.args.name.now size c.args.blocks _
    (λ n image dev is.
    omega (
      arith,
      measured_room d n image c.args.name.now size c.args.blocks t dev is m c.table-table.ensures,
      c.blocks_beside-free.ensures,
      c.if-blocks-free.true,
    ))

pub returns-in-Err-TableFull-clause-refused : goal.returns-in-Err-TableFull-clause-refused
returns-in-Err-TableFull-clause-refused c = λ size m.
    let d = c.args.device.now in
    let t = c.table-table.result.now in
    let said = fitting d.geometry.max (with_overlay d.mark.slot (layout_of t) c.args.name.now
    c.args.blocks) in
    refuses_full d c.args.name.now size c.args.blocks c.in-Err-TableFull.size c.from.result t m
    c.table-table.ensures
    (subst (λ (f : EditFault). GivesTable (Err f) said) c.in-Err-TableFull.field-0-is
    c.in-Err-TableFull.ensures.exact
    ∙ ap (λ (max : ℕ). Err (TableFull c.in-Err-TableFull.size max)) (sym c.from.ensures))

pub returns-in-Err : goal.returns-in-Err
returns-in-Err c = record {
  stored = tt;
  refused = λ size m.
      refuses_memory c.args.device.now c.args.name.now size c.args.blocks m;
}
