use Rattle.std.proofs.Common.{◌≡◌, ℕ, arith, ap, sym, subst, ◌∙◌, length}
use Rattle.std.specs.Prelude.{sum_by}
use Rattle.std.proofs.lemmas.Result.{IfOk-weaker}
use Rattle.vab_blocks.specs.Runs.{runs_of}
use Rattle.vab_tables.specs.Rules.{KeepsRules}
use Rattle.vab_layout.specs.declared.layout.Part.{Part}
use Rattle.vab_layout.specs.declared.layout.Layout.{Layout}
use Rattle.vab_layout.specs.Layout.{layout_of}
use Rattle.vab_layout.specs.Plain.{plain}
use Rattle.vab_layout.specs.Slots.{groups_of_slot, IsOwn}
use Rattle.vab_builder.specs.Overlay.{with_overlay, IsOverlaid}
use Rattle.vab_builder.proofs.OverlayTable.{overlay_groups_count, overlay_runs}
use Rattle.vab_builder.proofs.OverlayTable.{overlay_is_own, overlay_groups_same, overlay_device}
use Rattle.vab_builder.proofs.OverlayTable.{overlay_plain, overlay_is_overlaid}
use Rattle.vab_builder.proofs.TableLaws.{both_ok, layout_groups, devices_same, entries_few}
use Rattle.vab_builder.proofs.TableLaws.{runs_small}
use Rattle.vab_builder.proofs.overlay.with_overlay.Goals as goal

pub fitting-requires-clause-groups : goal.fitting-requires-clause-groups
fitting-requires-clause-groups c =
    let is = ap (λ (l : Layout). length l.groups) c.in_ok-target.ensures.value in
    let from = ap (λ (l : Layout). length l.groups) c.in_ok-layout.ensures.value in
    omega (
      arith,
      is,
      from,
      ap length (layout_groups c.args.table.now),
      overlay_groups_count c.args.slot c.in_ok-layout.layout c.args.name.now c.args.blocks,
      entries_few c.args.table.now c.requires.small,
    )

pub fitting-requires-clause-runs : goal.fitting-requires-clause-runs
fitting-requires-clause-runs c =
    let runs : Layout → ℕ = λ l. sum_by (λ (p : Part). length (runs_of p.blocks)) l.parts in
    let is = ap runs c.in_ok-target.ensures.value in
    let from = ap runs c.in_ok-layout.ensures.value in
    omega (
      arith,
      is,
      from,
      overlay_runs c.args.slot c.in_ok-layout.layout c.args.name.now c.args.blocks,
      runs_small c.args.table.now c.requires.keeps c.requires.small,
      c.requires.room,
      c.in_ok-layout.ensures.rules.device.fits.size,
      ap (λ (l : Layout). l.device.size) c.in_ok-layout.ensures.value,
    )

pub returns-clause-layout : goal.returns-clause-layout
returns-clause-layout c =
    IfOk-weaker c.fitting.result _ _
    (λ t is.
    is ∙ c.in_ok-target.ensures.value
    ∙ ap (λ (l : Layout). with_overlay c.args.slot l c.args.name.now c.args.blocks)
    c.in_ok-layout.ensures.value)
    c.fitting.ensures.layout

pub returns-clause-own : goal.returns-clause-own
returns-clause-own c =
    let a = c.args in
    IfOk-weaker c.fitting.result _ _
    (λ t is. subst (λ (l : Layout). IsOwn a.slot l.parts) (sym is)
    (overlay_is_own a.slot (layout_of a.table.now) a.name.now a.blocks c.requires.own))
    (returns-clause-layout c)

pub returns-clause-groups : goal.returns-clause-groups
returns-clause-groups c =
    let a = c.args in
    IfOk-weaker c.fitting.result _ _
    (λ t is.
    ap (groups_of_slot a.slot) (sym (layout_groups t) ∙ ap (λ (l : Layout). l.groups) is)
    ∙ overlay_groups_same a.slot (layout_of a.table.now) a.name.now a.blocks
    ∙ ap (groups_of_slot a.slot) (layout_groups a.table.now))
    (returns-clause-layout c)

pub returns-clause-device : goal.returns-clause-device
returns-clause-device c =
    let a = c.args in
    both_ok c.fitting.result KeepsRules
    (λ t. layout_of t ≡ with_overlay a.slot (layout_of a.table.now) a.name.now a.blocks)
    (λ t. t.devices ≡ a.table.now.devices)
    (λ t keeps is. devices_same t a.table.now keeps c.requires.keeps
    (ap (λ (l : Layout). l.device) is
    ∙ overlay_device a.slot (layout_of a.table.now) a.name.now a.blocks))
    c.fitting.ensures.rules (returns-clause-layout c)

pub returns-clause-plain : goal.returns-clause-plain
returns-clause-plain c =
    let a = c.args in
    IfOk-weaker c.fitting.result _ _
    (λ t is. ap (plain a.slot) is
    ∙ overlay_plain a.slot (layout_of a.table.now) a.name.now a.blocks)
    (returns-clause-layout c)

pub returns-clause-overlaid : goal.returns-clause-overlaid
returns-clause-overlaid c =
    let a = c.args in
    IfOk-weaker c.fitting.result _ _
    (λ t is. subst (λ (l : Layout). IsOverlaid a.slot (layout_of a.table.now) l a.name.now a.blocks)
    (sym is)
    (overlay_is_overlaid a.slot (layout_of a.table.now) a.name.now a.blocks c.requires.own
    c.requires.named c.requires.room))
    (returns-clause-layout c)
