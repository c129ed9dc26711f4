use Rattle.std.proofs.Common.{◌≡◌, ◌≢◌, ◌∙◌, ℕ, ◌<◌, true, false, List, [], ◌∷◌, ◌++◌, length}
use Rattle.std.proofs.Common.{get_or}
use Rattle.std.proofs.Common.{ap, sym, subst, arith}
use Rattle.std.specs.Prelude.{map}
use Rattle.vab_names.specs.Names.{is_of_slot}
use Rattle.vab_tables.specs.declared.entries.Partition.{Partition}
use Rattle.vab_layout.specs.Layout.{layout_of, part_of}
use Rattle.vab_device.specs.Phases.{planned_on}
use Rattle.vab_plan.specs.Scans.{scans_of}
use Rattle.vab_device.specs.Stores.{scanned_named}
use Rattle.vab_partitions.proofs.OwnLaws.{all_before}
use Rattle.vab_plan.proofs.PlanLaws.{own_rules, plan_skip, plan_more, planned_same}
use Rattle.vab_plan.proofs.PlanLaws.{at_any}
use Rattle.vab_plan.proofs.planning.plan.Goals as goal
use Rattle.vab_plan.proofs.planning.plan.Goals.{then-is_of_slot+in_ok-planned+in_ok-push}
use Rattle.vab_plan.proofs.planning.plan.Goals.{else-is_of_slot}

pub planned-requires-clause-part : goal.planned-requires-clause-part
planned-requires-clause-part c =
    let t = c.args.table.now in
    let p : Partition = c.partition-item.result in
    let i : ℕ = c.loop-partition.partition-index in
    let at : p ≡ get_or t.partitions i p =
    c.partition-item.is
    ∙ ap (λ (l : List Partition). get_or l i p) c.as_slice-partition-items.ensures in
    let own : is_of_slot c.args.slot p.name ≡ true =
    subst (λ (n : List ℕ). is_of_slot c.args.slot n ≡ true) c.text.ensures.value
    (sym c.is_of_slot.ensures ∙ c.if-is_of_slot.true) in
    own_rules c.args.slot t i p c.requires.target
    (omega (arith, ap length c.as_slice-partition-items.ensures, c.loop-partition-test.true)) at own

pub loop-partition-preserved : goal.loop-partition-preserved
loop-partition-preserved c =
    let t = c.args.table.now in
    let l = layout_of t in
    let p : Partition = c.partition-item.result in
    let i : ℕ = c.loop-partition.partition-index in
    let all = scans_of c.args.scans.items in
    let inv = c.loop-partition.invariant in
    let at : p ≡ get_or t.partitions i p =
    c.partition-item.is
    ∙ ap (λ (l : List Partition). get_or l i p) c.as_slice-partition-items.ensures in
    let lt : i < length t.partitions =
    omega (arith, ap length c.as_slice-partition-items.ensures, c.loop-partition-test.true) in
    elim c.if-is_of_slot.branch [
      | then-is_of_slot+in_ok-planned+in_ok-push w ↦
          let own : is_of_slot c.args.slot p.name ≡ true =
          subst (λ (n : List ℕ). is_of_slot c.args.slot n ≡ true) c.text.ensures.value
          (sym c.is_of_slot.ensures ∙ w.if-is_of_slot.true) in
          let here : scanned_named p.name (scans_of c.loop-partition.left.items)
          ≡ scanned_named p.name all =
          subst
          (λ (q : Partition). scanned_named q.name (scans_of c.loop-partition.left.items)
          ≡ scanned_named q.name all)
          (sym at) (inv.left i p (omega arith) lt) in
          let f = planned_on l all in
          let entry : w.in_ok-planned.field-0 ≡ f (part_of t p) =
          w.in_ok-planned.ensures.entry
          ∙ planned_same l (scans_of c.loop-partition.left.items) all (part_of t p) here in
          record {
            plan =
                ap (λ v. v.items) w.plan-is
                ∙ w.in_ok-push.ensures.items
                ∙ (λ j. inv.plan j ++ entry j ∷ [])
                ∙ plan_more f c.args.slot t i p lt at own;
            left = λ k d low below.
                let differ : (get_or t.partitions k d).name ≢ p.name =
                λ e. c.requires.target.rules.partition_names i k d (omega (arith, low)) below
                (ap (λ (q : Partition). q.name) (sym (at_any t.partitions i p d lt at)) ∙ sym e) in
                ap (λ v. scanned_named (get_or t.partitions k d).name (scans_of v.items)) w.left-is
                ∙ w.in_ok-planned.ensures.others (get_or t.partitions k d).name differ
                ∙ inv.left k d (omega (arith, low)) below;
          }
      | else-is_of_slot w ↦
          let other : is_of_slot c.args.slot p.name ≡ false =
          subst (λ (n : List ℕ). is_of_slot c.args.slot n ≡ false) c.text.ensures.value
          (sym c.is_of_slot.ensures ∙ w.if-is_of_slot.false) in
          record {
            plan =
                ap (λ v. v.items) w.plan-is
                ∙ inv.plan
                ∙ plan_skip (planned_on l all) c.args.slot t i p lt at other;
            left = λ k d low below.
                ap (λ v. scanned_named (get_or t.partitions k d).name (scans_of v.items)) w.left-is
                ∙ inv.left k d (omega (arith, low)) below;
          }
    ]

pub returns-clause-plan : goal.returns-clause-plan
returns-clause-plan c =
    let t = c.args.table.now in
    c.from_vec.ensures ∙ c.loop-partition.invariant.plan
    ∙ ap (map (planned_on (layout_of t) (scans_of c.args.scans.items)))
    (all_before c.args.slot t c.loop-partition.partition-index
    (omega (arith, ap length c.as_slice-partition-items.ensures, c.loop-partition-test.false)))
