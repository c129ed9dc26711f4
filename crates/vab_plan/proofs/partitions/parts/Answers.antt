use Rattle.std.proofs.Common.{◌≡◌, ◌<◌, ◌≤◌, ℕ, true, List, length, get_or, arith, ap, sym, subst}
use Rattle.std.proofs.Common.{◌∙◌}
use Rattle.std.specs.Prelude.{map}
use Rattle.std.proofs.lemmas.List.{take_all}
use Rattle.vab_names.specs.Names.{is_of_slot}
use Rattle.vab_names.proofs.NameLaws.{of_slot_long}
use Rattle.vab_tables.specs.declared.entries.Partition.{Partition}
use Rattle.vab_tables.specs.declared.table.Table.{Table}
use Rattle.vab_blocks.specs.Blocks.{first_sector_of}
use Rattle.vab_layout.specs.Layout.{part_of, layout_of}
use Rattle.vab_layout.specs.Slots.{own_parts, IsOwnPart, IsOwn}
use Rattle.vab_partitions.specs.Own.{own_before}
use Rattle.vab_device.specs.Kept.{part_on}
use Rattle.vab_layout.proofs.OwnNames.{own_at}
use Rattle.vab_plan.proofs.PartLaws.{layout_first}
use Rattle.vab_plan.proofs.partitions.parts.Goals as goal

own_rules : (slot : ℕ) (t : Table) (i : ℕ) (p : Partition)
    → IsOwn slot (layout_of t).parts
    → i < length t.partitions
    → p ≡ get_or t.partitions i p
    → is_of_slot slot p.name ≡ true
    → IsOwnPart slot (part_of t p)
own_rules slot t i p own lt at h =
    let there : is_of_slot slot (get_or t.partitions i p).name ≡ true =
    subst (λ (q : Partition). is_of_slot slot q.name ≡ true) at h in
    subst (λ (q : Partition). IsOwnPart slot (part_of t q)) (sym at)
    (own_at slot t i p own lt there)

all_parts : (slot : ℕ) (t : Table) (i : ℕ)
    → length t.partitions ≤ i
    → own_before slot t i ≡ own_parts slot (layout_of t).parts
unfolding layout_of
all_parts slot t i done = ap (λ (l : List Partition). own_parts slot (map (part_of t) l))
    (take_all i t.partitions done)

pub part-requires-clause-small : goal.part-requires-clause-small
part-requires-clause-small c =
    let p : Partition = c.partition-item.result in
    let i : ℕ = c.loop-partition.partition-index in
    let at : p ≡ get_or c.args.table.now.partitions i p = c.partition-item.is
    ∙ ap (λ (l : List Partition). get_or l i p) c.as_slice-partition-items.ensures in
    let own : is_of_slot c.args.slot p.name ≡ true =
    subst (λ (n : List ℕ). is_of_slot c.args.slot n ≡ true) c.text.ensures.value
    (sym c.is_of_slot.ensures ∙ c.if-is_of_slot.true) in
    (own_rules c.args.slot c.args.table.now i p c.requires.own
    (omega (arith, ap length c.as_slice-partition-items.ensures, c.loop-partition-test.true)) at
    own).size

pub part-requires-clause-long : goal.part-requires-clause-long
part-requires-clause-long c =
    let own : is_of_slot c.args.slot c.text.result.now ≡ true = sym c.is_of_slot.ensures
    ∙ c.if-is_of_slot.true in
    omega (arith, of_slot_long c.args.slot c.text.result.now own, ap length c.text.ensures.value)

pub part-requires-clause-base : goal.part-requires-clause-base
part-requires-clause-base c =
    let p : Partition = c.partition-item.result in
    let i : ℕ = c.loop-partition.partition-index in
    let at : p ≡ get_or c.args.table.now.partitions i p = c.partition-item.is
    ∙ ap (λ (l : List Partition). get_or l i p) c.as_slice-partition-items.ensures in
    let own : is_of_slot c.args.slot p.name ≡ true =
    subst (λ (n : List ℕ). is_of_slot c.args.slot n ≡ true) c.text.ensures.value
    (sym c.is_of_slot.ensures ∙ c.if-is_of_slot.true) in
    (own_rules c.args.slot c.args.table.now i p c.requires.own
    (omega (arith, ap length c.as_slice-partition-items.ensures, c.loop-partition-test.true)) at
    own).base

pub returns-clause-parts : goal.returns-clause-parts
unfolding layout_of
returns-clause-parts c =
    let t = c.args.table.now in
    c.from_vec.ensures ∙ c.loop-partition.invariant
    ∙ ap (map (part_on (first_sector_of t)))
    (all_parts c.args.slot t c.loop-partition.partition-index
    (omega (arith, ap length c.as_slice-partition-items.ensures, c.loop-partition-test.false)))
    ∙ ap (λ (n : ℕ). map (part_on n) (own_parts c.args.slot (layout_of t).parts))
    (sym (layout_first t))
