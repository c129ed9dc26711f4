use Rattle.std.proofs.Common.{◌≡◌, ◌∙◌, ℕ, true, List, length, get_or, arith, ap, sym, subst}
use Rattle.std.specs.Prelude.{map}
use Rattle.vab_names.specs.Names.{is_of_slot}
use Rattle.vab_tables.specs.declared.entries.Partition.{Partition}
use Rattle.vab_model.specs.Wipe.{empty_image}
use Rattle.vab_layout.proofs.OwnNames.{own_long}
use Rattle.vab_partitions.proofs.OwnLaws.{all_before}
use Rattle.vab_machine.proofs.wipe.empty_images.Goals as goal

pub empty_image-requires-clause-long : goal.empty_image-requires-clause-long
empty_image-requires-clause-long c =
    let p : Partition = c.partition-item.result in
    let i : ℕ = c.loop-partition.partition-index in
    let at : p ≡ get_or c.args.table.now.partitions i p = c.partition-item.is
    ∙ ap (λ (l : List Partition). get_or l i p) c.as_slice-partition-items.ensures in
    let own : is_of_slot c.args.slot p.name ≡ true =
    subst (λ (n : List ℕ). is_of_slot c.args.slot n ≡ true) c.text.ensures.value
    (sym c.is_of.ensures ∙ c.if-is_of.true) in
    own_long c.args.slot c.args.table.now i p c.requires.own
    (omega (arith, ap length c.as_slice-partition-items.ensures, c.loop-partition-test.true)) at
    own

pub returns : goal.returns
returns c =
    let t = c.args.table.now in
    c.from_vec.ensures ∙ c.loop-partition.invariant
    ∙ ap (map empty_image)
    (all_before c.args.slot t c.loop-partition.partition-index
    (omega (arith, ap length c.as_slice-partition-items.ensures, c.loop-partition-test.false)))
