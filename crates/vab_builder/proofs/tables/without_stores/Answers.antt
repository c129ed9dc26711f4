use Rattle.std.proofs.Common.{◌≡◌, ◌<◌, ◌^◌, ap, sym, subst, ◌∙◌}
use Rattle.vab_tables.specs.Rules.{KeepsRules}
use Rattle.vab_tables.specs.Spelling.{table_size_of}
use Rattle.vab_layout.specs.declared.layout.Layout.{Layout}
use Rattle.vab_layout.specs.Layout.{layout_of, table_of}
use Rattle.vab_layout.specs.Plain.{plain}
use Rattle.vab_builder.proofs.TableLaws.{both_ok, devices_same, layout_groups, plain_groups_same}
use Rattle.vab_builder.proofs.TableLaws.{plain_device, plain_small}
use Rattle.std.proofs.lemmas.Result.{IfOk-weaker}
use Rattle.vab_layout.specs.Slots.{groups_of_slot}
use Rattle.vab_tables.specs.declared.table.Table.{Table}
use Rattle.vab_builder.proofs.tables.without_stores.Goals as goal

pub to_table-requires-clause-small : goal.to_table-requires-clause-small
to_table-requires-clause-small c =
    let is : c.in_ok-plain.field-0 ≡ plain c.args.slot (layout_of c.args.table.now) =
    c.in_ok-plain.ensures.value ∙ ap (plain c.args.slot) c.in_ok-layout.ensures.value in
    subst (λ (l : Layout). table_size_of (table_of l) < 2 ^ 32) (sym is)
    (plain_small c.args.slot c.args.table.now c.requires.keeps c.requires.small c.requires.own)

pub returns-clause-device : goal.returns-clause-device
returns-clause-device c =
    both_ok c.to_table.result (λ t. KeepsRules t) (λ t. layout_of t ≡ c.in_ok-plain.field-0)
    (λ t. t.devices ≡ c.args.table.now.devices)
    (λ t keeps is. devices_same t c.args.table.now keeps c.requires.keeps
    (ap (λ (l : Layout). l.device) (is ∙ c.in_ok-plain.ensures.value)
    ∙ plain_device c.args.slot c.in_ok-layout.layout
    ∙ ap (λ (l : Layout). l.device) c.in_ok-layout.ensures.value))
    c.to_table.ensures.keeps c.to_table.ensures.again

pub returns-clause-size : goal.returns-clause-size
returns-clause-size c =
    let Small : Table → Type 0 = λ t. table_size_of t < 2 ^ 32 in
    let is = c.in_ok-plain.ensures.value ∙ ap (plain c.args.slot) c.in_ok-layout.ensures.value in
    let small =
    plain_small c.args.slot c.args.table.now c.requires.keeps c.requires.small c.requires.own in
    IfOk-weaker c.to_table.result _ _
    (λ t e. subst Small (sym (e ∙ ap table_of is)) small) c.to_table.ensures.value

pub returns-clause-layout : goal.returns-clause-layout
returns-clause-layout c =
    let is = c.in_ok-plain.ensures.value ∙ ap (plain c.args.slot) c.in_ok-layout.ensures.value in
    IfOk-weaker c.to_table.result _ _ (λ t e. e ∙ is) c.to_table.ensures.again

pub returns-clause-groups : goal.returns-clause-groups
returns-clause-groups c =
    let slot = c.args.slot in
    let is = c.in_ok-plain.ensures.value ∙ ap (plain slot) c.in_ok-layout.ensures.value in
    IfOk-weaker c.to_table.result _ _
    (λ t e.
    ap (groups_of_slot slot) (sym (layout_groups t) ∙ ap (λ (l : Layout). l.groups) (e ∙ is))
    ∙ plain_groups_same slot (layout_of c.args.table.now)
    ∙ ap (groups_of_slot slot) (layout_groups c.args.table.now))
    c.to_table.ensures.again
