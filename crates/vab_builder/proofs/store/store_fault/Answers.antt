use Rattle.std.proofs.Common.{List, ◌≡◌, ◌<◌, ◌≤◌, true, false, sym, ◌∙◌, rules, arith}
use Rattle.std.proofs.lemmas.Bool.{false_from_ne_true}
use Rattle.vab_names.specs.Names.{is_full}
use Rattle.vab_layout.specs.Layout.{layout_of}
use Rattle.vab_layout.specs.declared.layout.Part.{Part}
use Rattle.vab_layout.specs.Slots.{twins_by}
use Rattle.vab_builder.specs.Edits.{store_blocks, with_store}
use Rattle.vab_builder.specs.Passes.{store_size}
use Rattle.vab_builder.specs.Sizes.{has_part}
use Rattle.vab_builder.proofs.StoreVerdicts.{stored-bad_name, stored-bad_size, stored-unknown}
use Rattle.vab_builder.proofs.StoreVerdicts.{stored-has_store, stored-no_room, stored-ok}
use Rattle.vab_names.proofs.NameCases.{full_slot, full_few}
use Rattle.vab_builder.proofs.EditLaws.{named_small, store_few}
use Rattle.vab_builder.proofs.store.store_fault.Goals as goal

pub returns-in_default : goal.returns-in_default
returns-in_default c =
    let a = c.args in
    let twins : List Part = twins_by a.apart (layout_of a.source.now).parts in
    let full : is_full a.slot a.name.now ≡ false =
    false_from_ne_true (is_full a.slot a.name.now) (search rules) in
    stored-bad_name a.slot twins (layout_of a.source.now) (layout_of a.target.now) a.name.now
    a.bytes full

pub returns-then-not-is_store_size : goal.returns-then-not-is_store_size
returns-then-not-is_store_size c =
    let a = c.args in
    let twins : List Part = twins_by a.apart (layout_of a.source.now).parts in
    let full : is_full a.slot a.name.now ≡ true = search rules in
    let size : store_size a.bytes ≡ false = search rules in
    stored-bad_size a.slot twins (layout_of a.source.now) (layout_of a.target.now) a.name.now
    a.bytes full
    size

pub returns-then-not-has_part : goal.returns-then-not-has_part
returns-then-not-has_part c =
    let a = c.args in
    let twins : List Part = twins_by a.apart (layout_of a.source.now).parts in
    let full : is_full a.slot a.name.now ≡ true = search rules in
    let size : store_size a.bytes ≡ true = search rules in
    let absent : has_part a.name.now (layout_of a.target.now).parts ≡ false = search rules in
    stored-unknown a.slot twins (layout_of a.source.now) (layout_of a.target.now) a.name.now a.bytes
    full
    size absent

pub has_store-requires : goal.has_store-requires
has_store-requires c =
    let a = c.args in
    let full : is_full a.slot a.name.now ≡ true = search rules in
    rw c.in-Some.ensures.value (full_few a.slot a.name.now full)

pub returns-then-has_store : goal.returns-then-has_store
returns-then-has_store c =
    let a = c.args in
    let twins : List Part = twins_by a.apart (layout_of a.source.now).parts in
    let full : is_full a.slot a.name.now ≡ true = search rules in
    let size : store_size a.bytes ≡ true = search rules in
    let there : has_part a.name.now (layout_of a.target.now).parts ≡ true = search rules in
    let store = rw c.in-Some.ensures.value at (sym c.has_store.ensures ∙ c.if-has_store.true) in
    stored-has_store a.slot twins (layout_of a.source.now) (layout_of a.target.now) a.name.now
    a.bytes
    full size there store

pub count_named-requires-clause-small : goal.count_named-requires-clause-small
count_named-requires-clause-small c =
    let a = c.args in
    let full : is_full a.slot a.name.now ≡ true = search rules in
    let small = named_small a.slot a.name.now (layout_of a.target.now).parts
    c.requires.update.parts.own (full_slot a.slot a.name.now full) in
    rw (c.text-2.ensures.value, c.in-Some.ensures.value) (omega (arith, small))

pub store_blocks-count-requires : goal.store_blocks-count-requires
store_blocks-count-requires c =
    let a = c.args in
    let full : is_full a.slot a.name.now ≡ true = search rules in
    rw (c.count_named.ensures, c.text-2.ensures.value, c.in-Some.ensures.value)
    (named_small a.slot a.name.now (layout_of a.target.now).parts c.requires.update.parts.own
    (full_slot a.slot a.name.now full))

pub in_use-used-requires-clause-small : goal.in_use-used-requires-clause-small
in_use-used-requires-clause-small c =
    let a = c.args in
    let full : is_full a.slot a.name.now ≡ true = search rules in
    let size : store_size a.bytes ≡ true = search rules in
    rw (
      c.store_blocks-count.ensures,
      c.count_named.ensures,
      c.text-2.ensures.value,
      c.in-Some.ensures.value,
    )
    (store_few a.slot (layout_of a.target.now) a.name.now a.bytes c.requires.update.parts.own
    (full_slot a.slot a.name.now full) size)

pub returns-then-not-fits : goal.returns-then-not-fits
returns-then-not-fits c =
    let a = c.args in
    let twins : List Part = twins_by a.apart (layout_of a.source.now).parts in
    let full : is_full a.slot a.name.now ≡ true = search rules in
    let size : store_size a.bytes ≡ true = search rules in
    let there : has_part a.name.now (layout_of a.target.now).parts ≡ true = search rules in
    let plain = rw c.in-Some.ensures.value at (sym c.has_store.ensures ∙ c.if-has_store.false) in
    let count =
    rw (c.count_named.ensures, c.text-2.ensures.value, c.in-Some.ensures.value) at
    c.store_blocks-count.ensures in
    let used =
    rw (c.text-3.ensures.value, c.in-Some.ensures.value, count) at c.in_use-used.ensures.is in
    let over : c.capacity-cap.result < c.in_use-used.result = search rules in
    stored-no_room a.slot twins (layout_of a.source.now) (layout_of a.target.now) a.name.now a.bytes
    c.in_use-used.result c.capacity-cap.result full size there plain used c.capacity-cap.ensures
    over

pub returns : goal.returns
returns c =
    let a = c.args in
    let twins : List Part = twins_by a.apart (layout_of a.source.now).parts in
    let full : is_full a.slot a.name.now ≡ true = search rules in
    let size : store_size a.bytes ≡ true = search rules in
    let there : has_part a.name.now (layout_of a.target.now).parts ≡ true = search rules in
    let plain = rw c.in-Some.ensures.value at (sym c.has_store.ensures ∙ c.if-has_store.false) in
    let count =
    rw (c.count_named.ensures, c.text-2.ensures.value, c.in-Some.ensures.value) at
    c.store_blocks-count.ensures in
    let used =
    rw (c.text-3.ensures.value, c.in-Some.ensures.value, count) at c.in_use-used.ensures.is in
    let under : c.in_use-used.result ≤ c.capacity-cap.result = search rules in (
      with_store a.slot (layout_of a.source.now) (layout_of a.target.now) a.name.now
          (store_blocks (layout_of a.target.now) a.name.now a.bytes),
      stored-ok a.slot twins (layout_of a.source.now) (layout_of a.target.now) a.name.now a.bytes
          (record {
            full = full;
            size = size;
            known = there;
            plain = plain;
            room = rw (used, c.capacity-cap.ensures) at under;
          }),
    )
