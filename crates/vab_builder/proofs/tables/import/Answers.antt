use Rattle.std.proofs.Common.{◌≡◌, arith, ap, sym, ◌∙◌, length}
use Rattle.vab_tables.specs.Rules.{KeepsRules}
use Rattle.vab_layout.specs.declared.layout.Layout.{Layout}
use Rattle.vab_layout.specs.Layout.{layout_of}
use Rattle.vab_layout.specs.Slots.{other_slot, groups_of_slot}
use Rattle.vab_builder.proofs.ImportLaws.{imported_groups_count, imported_runs}
use Rattle.vab_builder.proofs.TableLaws.{both_ok, layout_groups, devices_same, imported_device}
use Rattle.vab_builder.proofs.TableLaws.{entries_few, runs_small}
use Rattle.std.specs.Prelude.{sum_by}
use Rattle.vab_blocks.specs.Runs.{runs_of}
use Rattle.std.proofs.lemmas.Result.{IfOk-weaker}
use Rattle.vab_builder.specs.Import.{imported_by}
use Rattle.vab_builder.proofs.tables.import.Goals as goal

pub fitting-requires-clause-groups : goal.fitting-requires-clause-groups
fitting-requires-clause-groups c =
    let is = ap (λ (l : Layout). length l.groups) c.in_ok-target.ensures.value in
    let from = ap (λ (l : Layout). length l.groups) c.in_ok-layout.ensures.value in
    omega (
      arith,
      is,
      from,
      ap length (layout_groups c.args.table.now),
      imported_groups_count c.args.apart c.args.source c.in_ok-layout.layout,
      entries_few c.args.table.now c.requires.small,
    )

pub fitting-requires-clause-runs : goal.fitting-requires-clause-runs
fitting-requires-clause-runs c =
    let is =
    ap (λ (l : Layout). sum_by (λ p. length (runs_of p.blocks)) l.parts)
    c.in_ok-target.ensures.value in
    let from =
    ap (λ (l : Layout). sum_by (λ p. length (runs_of p.blocks)) l.parts)
    c.in_ok-layout.ensures.value in
    omega (
      arith,
      is,
      from,
      imported_runs c.args.apart c.args.source c.in_ok-layout.layout,
      runs_small
          c.args.table.now c.requires.keeps c.requires.small,
    )

pub returns-clause-device : goal.returns-clause-device
returns-clause-device c =
    both_ok c.fitting.result KeepsRules (λ t. layout_of t ≡ c.in_ok-target.target)
    (λ t. t.devices ≡ c.args.table.now.devices)
    (λ t keeps is. devices_same t c.args.table.now keeps c.requires.keeps
    (ap (λ (l : Layout). l.device) (is ∙ c.in_ok-target.ensures.value)
    ∙ imported_device c.args.apart c.args.source c.in_ok-layout.layout
    ∙ ap (λ (l : Layout). l.device) c.in_ok-layout.ensures.value))
    c.fitting.ensures.rules c.fitting.ensures.layout

pub returns-clause-groups : goal.returns-clause-groups
returns-clause-groups c =
    let from : c.in_ok-layout.layout.groups ≡ c.args.table.now.groups =
    ap (λ (l : Layout). l.groups) c.in_ok-layout.ensures.value
    ∙ layout_groups c.args.table.now in
    both_ok c.fitting.result KeepsRules (λ t. layout_of t ≡ c.in_ok-target.target)
    (λ t. groups_of_slot (other_slot c.args.source) t.groups
    ≡ groups_of_slot c.args.source c.args.table.now.groups)
    (λ t keeps is. ap (groups_of_slot (other_slot c.args.source)) (sym (layout_groups t)
    ∙ ap (λ (l : Layout). l.groups) is) ∙ c.in_ok-target.ensures.groups
    ∙ ap (groups_of_slot c.args.source) from)
    c.fitting.ensures.rules c.fitting.ensures.layout

pub returns-clause-layout : goal.returns-clause-layout
returns-clause-layout c =
    IfOk-weaker c.fitting.result _ _
    (λ t is.
    is ∙ c.in_ok-target.ensures.value ∙ ap (imported_by c.args.apart c.args.source)
    c.in_ok-layout.ensures.value)
    c.fitting.ensures.layout
