use Rattle.std.proofs.Common.{◌∙◌, sym, ap, subst, ◌≤◌}
use Rattle.vab_tables.specs.declared.table.Table.{Table}
use Rattle.vab_tables.specs.Rules.{KeepsRules}
use Rattle.vab_tables.specs.Spelling.{table_size_of}
use Rattle.vab_layout.specs.declared.layout.Layout.{Layout}
use Rattle.vab_layout.specs.Layout.{layout_of}
use Rattle.vab_layout.specs.Slots.{IsOwn}
use Rattle.vab_super_image.proofs.WipedLaws.{keeps_wiped, wiped_smaller, layout_of_wiped, own_wiped}
use Rattle.vab_super_image.proofs.empty.wiped.Goals as goal

pub returns-in-Ok-clause-rules : goal.returns-in-Ok-clause-rules
returns-in-Ok-clause-rules c =
    subst KeepsRules (sym c.in-Ok.ensures) (keeps_wiped c.args.table.now c.requires.keeps)

pub returns-in-Ok-clause-layout : goal.returns-in-Ok-clause-layout
returns-in-Ok-clause-layout c = ap layout_of c.in-Ok.ensures ∙ layout_of_wiped c.args.table.now

pub returns-in-Ok-clause-own : goal.returns-in-Ok-clause-own
returns-in-Ok-clause-own c = λ slot own.
    subst (λ (l : Layout). IsOwn slot l.parts)
    (sym (ap layout_of c.in-Ok.ensures ∙ layout_of_wiped c.args.table.now))
    (own_wiped slot (layout_of c.args.table.now).parts own)

pub returns-in-Ok-clause-size : goal.returns-in-Ok-clause-size
returns-in-Ok-clause-size c =
    subst (λ (t : Table). table_size_of t ≤ table_size_of c.args.table.now) (sym c.in-Ok.ensures)
    (wiped_smaller c.args.table.now)
