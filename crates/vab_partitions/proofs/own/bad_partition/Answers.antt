use Rattle.std.proofs.Common.{◌≡◌, ◌+◌, ◌<◌, ℕ, true, false, List, length, get_or, subst, sym}
use Rattle.std.proofs.Common.{ap, ◌∙◌, arith}
use Rattle.vab_names.specs.Names.{is_of_slot}
use Rattle.vab_names.proofs.NameLaws.{of_slot_long}
use Rattle.vab_tables.specs.declared.entries.Partition.{Partition}
use Rattle.vab_layout.specs.Layout.{layout_of}
use Rattle.vab_partitions.specs.Rules.{is_distinct}
use Rattle.vab_partitions.proofs.OwnRules.{own_kept}
use Rattle.vab_partitions.proofs.OwnLaws.{Stands, stands_first, stands_skip, stands_take}
use Rattle.vab_partitions.proofs.OwnLaws.{stands_bad, stands_last, next_blocks, front_distinct}
use Rattle.vab_partitions.proofs.own.bad_partition.Goals as goal
use Rattle.vab_partitions.proofs.own.bad_partition.Goals.{then-is_of_slot+in_ok-joins+else-not-branch}
use Rattle.vab_partitions.proofs.own.bad_partition.Goals.{else-is_of_slot}

pub loop-partition-init : goal.loop-partition-init
loop-partition-init c =
    stands_first c.args.most c.args.slot c.args.table.now c.new-seen.result c.new-seen.ensures

pub joins-requires-clause-long : goal.joins-requires-clause-long
joins-requires-clause-long c =
    let own : is_of_slot c.args.slot c.text.result.now ≡ true = sym c.is_of_slot.ensures
    ∙ c.if-is_of_slot.true in
    omega (arith, of_slot_long c.args.slot c.text.result.now own, ap length c.text.ensures.value)

pub joins-requires-clause-apart : goal.joins-requires-clause-apart
joins-requires-clause-apart c = λ so.
    let t = c.args.table.now in
    let p : Partition = c.partition-item.result in
    let i : ℕ = c.loop-partition.partition-index in
    let at : p ≡ get_or t.partitions i p =
    c.partition-item.is
    ∙ ap (λ (l : List Partition). get_or l i p) c.as_slice-partition-items.ensures in
    let lt : i < length t.partitions =
    omega (arith, ap length c.as_slice-partition-items.ensures, c.loop-partition-test.true) in
    let own : is_of_slot c.args.slot p.name ≡ true =
    subst (λ (n : List ℕ). is_of_slot c.args.slot n ≡ true) c.text.ensures.value
    (sym c.is_of_slot.ensures ∙ c.if-is_of_slot.true) in
    let all = ap is_distinct (sym c.in_ok-blocks.ensures) ∙ sym c.in_ok-apart.ensures ∙ so in
    ap is_distinct
    (next_blocks c.args.slot t i c.loop-partition.seen p c.loop-partition.invariant.blocks lt at
    own)
    ∙ front_distinct c.args.slot t (i + 1) all

pub returns-then-not-branch-clause-exact : goal.returns-then-not-branch-clause-exact
returns-then-not-branch-clause-exact c =
    let p : Partition = c.partition-item.result in
    let i : ℕ = c.loop-partition.partition-index in
    let at : p ≡ get_or c.args.table.now.partitions i p =
    c.partition-item.is
    ∙ ap (λ (l : List Partition). get_or l i p) c.as_slice-partition-items.ensures in
    let own : is_of_slot c.args.slot p.name ≡ true =
    subst (λ (n : List ℕ). is_of_slot c.args.slot n ≡ true) c.text.ensures.value
    (sym c.is_of_slot.ensures ∙ c.if-is_of_slot.true) in
    sym (stands_bad c.args.most c.args.slot c.args.table.now i c.loop-partition.seen
    c.loop-partition.count p
    c.loop-partition.invariant
    (omega (arith, ap length c.as_slice-partition-items.ensures, c.loop-partition-test.true)) at own
    (sym c.in_ok-joins.ensures.joins ∙ c.if-not-branch.true))

pub loop-partition-preserved : goal.loop-partition-preserved
loop-partition-preserved c =
    let t = c.args.table.now in
    let slot = c.args.slot in
    let most = c.args.most in
    let p : Partition = c.partition-item.result in
    let i : ℕ = c.loop-partition.partition-index in
    let at : p ≡ get_or t.partitions i p =
    c.partition-item.is
    ∙ ap (λ (l : List Partition). get_or l i p) c.as_slice-partition-items.ensures in
    let lt : i < length t.partitions =
    omega (arith, ap length c.as_slice-partition-items.ensures, c.loop-partition-test.true) in
    elim c.if-is_of_slot.branch [
      | then-is_of_slot+in_ok-joins+else-not-branch w ↦
          let own : is_of_slot slot p.name ≡ true =
          subst (λ (n : List ℕ). is_of_slot slot n ≡ true) c.text.ensures.value
          (sym c.is_of_slot.ensures ∙ w.if-is_of_slot.true) in
          let ok : w.in_ok-joins.field-0 ≡ true = w.if-not-branch.false in
          let next =
          stands_take most slot t i c.loop-partition.seen w.joins.new.seen c.loop-partition.count
          p
          c.loop-partition.invariant lt at own (sym w.in_ok-joins.ensures.joins
          ∙ ok) (w.in_ok-joins.ensures.added ok) in
          subst (λ (l : List ℕ). Stands most slot t (i + 1) l c.if-is_of_slot.count)
          (sym w.seen-is)
          (subst (λ (n : ℕ). Stands most slot t (i + 1) w.joins.new.seen n) (sym w.count-is) next)
      | else-is_of_slot w ↦
          let other : is_of_slot slot p.name ≡ false =
          subst (λ (n : List ℕ). is_of_slot slot n ≡ false) c.text.ensures.value
          (sym c.is_of_slot.ensures ∙ w.if-is_of_slot.false) in
          let next =
          stands_skip most slot t i c.loop-partition.seen c.loop-partition.count p
          c.loop-partition.invariant lt at other in
          subst (λ (l : List ℕ). Stands most slot t (i + 1) l c.if-is_of_slot.count)
          (sym w.seen-is)
          (subst (λ (n : ℕ). Stands most slot t (i + 1) c.loop-partition.seen n) (sym w.count-is)
          next)
    ]

pub returns-clause-exact : goal.returns-clause-exact
returns-clause-exact c =
    sym (stands_last c.args.most c.args.slot c.args.table.now c.loop-partition.partition-index
    c.loop-partition.seen
    c.loop-partition.count c.loop-partition.invariant
    (omega (arith, ap length c.as_slice-partition-items.ensures, c.loop-partition-test.false)))

pub returns-clause-own : goal.returns-clause-own
returns-clause-own c =
    own_kept c.args.most c.args.slot (layout_of c.args.table.now).parts c.requires.most
    (stands_last c.args.most c.args.slot c.args.table.now c.loop-partition.partition-index
    c.loop-partition.seen c.loop-partition.count c.loop-partition.invariant
    (omega (arith, ap length c.as_slice-partition-items.ensures, c.loop-partition-test.false)))
