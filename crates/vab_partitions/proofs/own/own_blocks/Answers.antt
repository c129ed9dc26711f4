use Rattle.std.proofs.Common.{◌≡◌, ◌<◌, ◌≤◌, ℕ, false, List, length, get_or, subst, sym}
use Rattle.std.proofs.Common.{ap, ◌∙◌}
use Rattle.vab_names.specs.Names.{is_of_slot}
use Rattle.vab_tables.specs.declared.entries.Partition.{Partition}
use Rattle.vab_layout.specs.Layout.{blocks_of_parts}
use Rattle.vab_partitions.proofs.OwnLaws.{all_blocks, next_blocks, skip_before}
use Rattle.vab_partitions.proofs.own.own_blocks.Goals as goal
use Rattle.vab_partitions.proofs.own.own_blocks.Goals.{then-is_of_slot+in_ok-push_blocks}
use Rattle.vab_partitions.proofs.own.own_blocks.Goals.{else-is_of_slot}

pub loop-partition-preserved : goal.loop-partition-preserved
loop-partition-preserved c =
    let t = c.args.table.now in
    let slot = c.args.slot in
    let p : Partition = c.partition-item.result in
    let i : ℕ = c.loop-partition.partition-index in
    let items = c.as_slice-partition-items.ensures in
    let at : p ≡ get_or t.partitions i p =
    c.partition-item.is ∙ ap (λ (l : List Partition). get_or l i p) items in
    let lt : i < length t.partitions =
    subst (λ (l : List Partition). i < length l) items c.loop-partition-test.true in
    let named = ap (is_of_slot slot) c.text.ensures.value in
    elim c.if-is_of_slot.branch [
      | then-is_of_slot+in_ok-push_blocks w ↦
          let own = sym (c.is_of_slot.ensures ∙ named) ∙ w.if-is_of_slot.true in
          w.blocks-is ∙ w.in_ok-push_blocks.ensures
          ∙ next_blocks slot t i c.loop-partition.blocks p c.loop-partition.invariant lt at own
      | else-is_of_slot w ↦
          let other = sym (c.is_of_slot.ensures ∙ named) ∙ w.if-is_of_slot.false in
          let Other : Partition → Type 0 = λ q. is_of_slot slot q.name ≡ false in
          w.blocks-is ∙ c.loop-partition.invariant
          ∙ ap blocks_of_parts (sym (skip_before slot t i p lt (subst Other at other)))
    ]

pub returns : goal.returns
returns c =
    let i : ℕ = c.loop-partition.partition-index in
    let done =
    subst (λ (l : List Partition). length l ≤ i) c.as_slice-partition-items.ensures
    c.loop-partition-test.false in
    all_blocks c.args.slot c.args.table.now i c.loop-partition.blocks c.loop-partition.invariant
    done
