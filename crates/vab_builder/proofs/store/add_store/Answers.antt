use Rattle.std.proofs.Common.{arith}
use Rattle.std.proofs.lemmas.Result.{IfOk-weaker}
use Rattle.vab_names.proofs.NameCases.{full_few, full_slot}
use Rattle.vab_builder.proofs.EditLaws.{named_small}
use Rattle.vab_builder.proofs.store.add_store.Goals as goal

pub count_part-blocks-requires : goal.count_part-blocks-requires
count_part-blocks-requires c =
    let a = c.args in
    let small = named_small a.slot a.name.now a.target.parts c.requires.own
    (full_slot a.slot a.name.now c.requires.full) in
    rw (c.text.ensures.value, c.judged_name-name.ensures, c.as_slice.ensures) (omega (arith, small))

pub store_blocks-count-requires : goal.store_blocks-count-requires
store_blocks-count-requires c =
    let a = c.args in
    let small = named_small a.slot a.name.now a.target.parts c.requires.own
    (full_slot a.slot a.name.now c.requires.full) in
    let count =
    rw (c.text.ensures.value, c.judged_name-name.ensures, c.as_slice.ensures) at
    c.count_part-blocks.ensures in
    rw count small

pub push_free-requires-clause-room : goal.push_free-requires-clause-room
push_free-requires-clause-room c =
    let count =
    rw (c.text.ensures.value, c.judged_name-name.ensures, c.as_slice.ensures) at
    c.count_part-blocks.ensures in
    let blocks = rw count at c.store_blocks-count.ensures in
    rw blocks c.requires.room

pub with_store-requires-clause-short : goal.with_store-requires-clause-short
with_store-requires-clause-short c =
    let a = c.args in
    rw c.judged_name-name.ensures (full_few a.slot a.name.now c.requires.full)

pub returns : goal.returns
returns c =
    let count =
    rw (c.text.ensures.value, c.judged_name-name.ensures, c.as_slice.ensures) at
    c.count_part-blocks.ensures in
    let blocks = rw count at c.store_blocks-count.ensures in
    IfOk-weaker c.with_store.result _ _
    (λ l made.
    rw (c.in_ok-push_free.ensures, c.new-fresh.ensures, c.judged_name-name.ensures, blocks) at made)
    c.with_store.ensures
