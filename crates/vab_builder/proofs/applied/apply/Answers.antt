use Rattle.std.proofs.Common.{◌≡◌, ◌<◌, ℕ, Bool, List, arith, ap, subst, sym, ◌∙◌, length}
use Rattle.std.specs.Prelude.{sum_by, IfOk}
use Rattle.vab_tables.specs.declared.table.Table.{Table}
use Rattle.vab_tables.specs.Rules.{KeepsRules}
use Rattle.vab_layout.specs.declared.layout.Layout.{Layout}
use Rattle.vab_blocks.specs.Runs.{runs_of}
use Rattle.vab_layout.specs.Layout.{layout_of, first_device}
use Rattle.vab_layout.specs.declared.layout.Part.{Part}
use Rattle.vab_layout.specs.Rules.{IsLayout}
use Rattle.vab_layout.specs.Slots.{other_slot, twins_by, IsOwn, IsTargetBeside, groups_of_slot}
use Rattle.vab_builder.specs.Judged.{IsGiven}
use Rattle.vab_builder.specs.Update.{AreTwins, IsUpdateBeside}
use Rattle.vab_builder.proofs.TwinLaws.{twins_are}
use Rattle.vab_builder.proofs.TableLaws.{both_ok, layout_groups, layout_device, devices_same}
use Rattle.vab_builder.proofs.TableLaws.{entries_few, runs_small}
use Rattle.std.proofs.Common.{Ok, Result}
use Rattle.std.proofs.lemmas.Result.{IfOk-weaker}
use Rattle.vab_builder.specs.declared.edit.Edit.{Edit}
use Rattle.vab_builder.specs.declared.fault.EditFault.{EditFault}
use Rattle.vab_builder.specs.Asked.{edited_name, HasAsked, KeepsOthers}
use Rattle.vab_builder.specs.Edits.{changed_beside}
use Rattle.vab_builder.proofs.applied.apply.Goals as goal

-- what is said of the tables holds of the layouts
updated : (slot : ℕ) (apart : Bool) (s t : Table) (old source : Layout) (twins : List Part)
    → slot < 2
    → IsLayout source
    → IsLayout old
    → source ≡ layout_of s
    → old ≡ layout_of t
    → twins ≡ twins_by apart source.parts
    → IsOwn (other_slot slot) (layout_of s).parts
    → IsTargetBeside slot (twins_by apart (layout_of s).parts) (layout_of s).parts
    (layout_of t).parts
    → s.devices ≡ t.devices
    → IsUpdateBeside slot twins source old
updated slot apart s t old source twins low from_rules to_rules from to are own target device =
    let Is : Layout → Layout → Type 0 = λ a b.
    IsTargetBeside slot (twins_by apart a.parts) a.parts b.parts in
    let parts = subst (λ (a : Layout). Is a old) (sym from)
    (subst (Is (layout_of s)) (sym to) target) in
    record {
      low = low;
      source_rules = from_rules;
      target_rules = to_rules;
      own = subst (λ (l : Layout). IsOwn (other_slot slot) l.parts) (sym from) own;
      twins_are = subst (λ (l : List Part). AreTwins l source.parts) (sym are)
          (twins_are apart source.parts);
      parts = subst (λ (l : List Part). IsTargetBeside slot l source.parts old.parts) (sym are)
          parts;
      device = ap (λ (l : Layout). l.device) from ∙ layout_device s ∙ ap first_device device
          ∙ sym (layout_device t)
          ∙ sym (ap (λ (l : Layout). l.device) to);
    }

pub change-requires-clause-update : goal.change-requires-clause-update
change-requires-clause-update c =
    updated c.args.target_slot c.args.apart c.args.source.now c.args.target.now c.in_ok-old.old
    c.in_ok-source.source _ c.requires.slot c.in_ok-source.ensures.rules c.in_ok-old.ensures.rules
    c.in_ok-source.ensures.value c.in_ok-old.ensures.value c.twins.ensures c.requires.source_own
    c.requires.target c.requires.device

-- the twins of the layout are those of the table
twins_same : (apart : Bool) (twins : List Part) (s source : Layout)
    → source ≡ s
    → twins ≡ twins_by apart source.parts
    → twins ≡ twins_by apart s.parts
twins_same apart twins s source from are =
    are ∙ ap (λ (l : Layout). twins_by apart l.parts) from

-- what is said of the layouts holds of the tables
between : (P : Layout → Layout → Type 0) (old new : Layout) (target : Table)
    (r : Result Table EditFault)
    → old ≡ layout_of target
    → P old new
    → IfOk r (λ t. layout_of t ≡ new)
    → IfOk r (λ t. P (layout_of target) (layout_of t))
between P old new target r from p is =
    IfOk-weaker r _ _
    (λ t same. subst (P (layout_of target)) (sym same) (subst (λ (l : Layout). P l new) from p)) is

-- what the edit gives of the tables it gives of their layouts
read_same : (slot : ℕ) (apart : Bool) (edit : Edit) (s t : Table) (old source : Layout)
    (twins : List Part)
    → source ≡ layout_of s
    → old ≡ layout_of t
    → twins ≡ twins_by apart source.parts
    → changed_beside slot twins source old edit
    ≡ changed_beside slot (twins_by apart (layout_of s).parts) (layout_of s) (layout_of t) edit
read_same slot apart edit s t old source twins from to are =
    let all : List Part = twins_by apart (layout_of s).parts in
    ap (λ (ts : List Part). changed_beside slot ts source old edit)
    (twins_same apart twins (layout_of s) source from are)
    ∙ ap (λ (l : Layout). changed_beside slot all l old edit) from
    ∙ ap (λ (l : Layout). changed_beside slot all (layout_of s) l edit) to

pub change-requires-clause-passes : goal.change-requires-clause-passes
change-requires-clause-passes c =
    let same = read_same c.args.target_slot c.args.apart c.args.edit.now c.args.source.now
    c.args.target.now c.in_ok-old.old c.in_ok-source.source _ c.in_ok-source.ensures.value
    c.in_ok-old.ensures.value c.twins.ensures in
    subst IsGiven (sym same) c.in_default.ensures.passes

pub returns-clause-asked : goal.returns-clause-asked
returns-clause-asked c =
    between (HasAsked c.args.edit.now) c.in_ok-old.old c.in_ok-target.target c.args.target.now
    c.fitting.result c.in_ok-old.ensures.value c.in_ok-target.ensures.asked
    c.fitting.ensures.layout

pub returns-clause-others : goal.returns-clause-others
returns-clause-others c =
    between (KeepsOthers (edited_name c.args.edit.now)) c.in_ok-old.old c.in_ok-target.target
    c.args.target.now c.fitting.result c.in_ok-old.ensures.value c.in_ok-target.ensures.others
    c.fitting.ensures.layout

pub fitting-requires-clause-groups : goal.fitting-requires-clause-groups
fitting-requires-clause-groups c =
    let from = ap (λ (l : Layout). length l.groups) c.in_ok-old.ensures.value in
    omega (
      arith,
      from,
      ap length (layout_groups c.args.target.now),
      c.in_ok-target.ensures.few_groups,
      entries_few c.args.target.now c.requires.target_small,
    )

pub fitting-requires-clause-runs : goal.fitting-requires-clause-runs
fitting-requires-clause-runs c =
    let from =
    ap (λ (l : Layout). sum_by (λ p. length (runs_of p.blocks)) l.parts)
    c.in_ok-old.ensures.value in
    omega (
      arith,
      from,
      c.in_ok-target.ensures.few_runs,
      runs_small c.args.target.now
          c.requires.target_keeps c.requires.target_small,
    )

pub returns-clause-device : goal.returns-clause-device
returns-clause-device c =
    both_ok c.fitting.result KeepsRules (λ t. layout_of t ≡ c.in_ok-target.target)
    (λ t. t.devices ≡ c.args.target.now.devices)
    (λ t keeps is. devices_same t c.args.target.now keeps c.requires.target_keeps
    (ap (λ (l : Layout). l.device) is ∙ c.in_ok-target.ensures.device
    ∙ ap (λ (l : Layout). l.device) c.in_ok-old.ensures.value))
    c.fitting.ensures.rules c.fitting.ensures.layout

pub returns-clause-groups : goal.returns-clause-groups
returns-clause-groups c =
    let from = ap (λ (l : Layout). l.groups) c.in_ok-old.ensures.value
    ∙ layout_groups c.args.target.now in
    both_ok c.fitting.result KeepsRules (λ t. layout_of t ≡ c.in_ok-target.target)
    (λ t. groups_of_slot c.args.target_slot t.groups
    ≡ groups_of_slot c.args.target_slot c.args.target.now.groups)
    (λ t keeps is. ap (groups_of_slot c.args.target_slot) (sym (layout_groups t)
    ∙ ap (λ (l : Layout). l.groups) is) ∙ c.in_ok-target.ensures.groups
    ∙ ap (groups_of_slot c.args.target_slot) from)
    c.fitting.ensures.rules c.fitting.ensures.layout

pub returns-clause-layout : goal.returns-clause-layout
returns-clause-layout c =
    let same = read_same c.args.target_slot c.args.apart c.args.edit.now c.args.source.now
    c.args.target.now c.in_ok-old.old c.in_ok-source.source _ c.in_ok-source.ensures.value
    c.in_ok-old.ensures.value c.twins.ensures in
    IfOk-weaker c.fitting.result _ _
    (λ t is. sym same ∙ c.in_ok-target.ensures.exact ∙ ap (λ (l : Layout). Ok l) (sym is))
    c.fitting.ensures.layout
