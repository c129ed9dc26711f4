use Rattle.std.proofs.Common.{List, ◌≡◌, ◌<◌, ◌≤◌, true, false, sym, ◌∙◌, rules, arith}
use Rattle.std.proofs.lemmas.Bool.{false_from_ne_true}
use Rattle.vab_names.specs.Names.{is_full}
use Rattle.vab_space.specs.Space.{blocks_of}
use Rattle.vab_layout.specs.Layout.{layout_of}
use Rattle.vab_layout.specs.declared.layout.Part.{Part}
use Rattle.vab_layout.specs.Slots.{twins_by}
use Rattle.vab_builder.specs.Edits.{with_resized}
use Rattle.vab_builder.specs.Sizes.{has_part, is_within}
use Rattle.vab_builder.proofs.ResizeVerdicts.{resized-bad_name, resized-bad_size, resized-unknown}
use Rattle.vab_builder.proofs.ResizeVerdicts.{resized-has_store, resized-group_limit}
use Rattle.vab_builder.proofs.ResizeVerdicts.{resized-no_room, resized-ok}
use Rattle.vab_names.proofs.NameCases.{full_few}
use Rattle.vab_builder.proofs.resize.resize_fault.Goals as goal

pub returns-in_default : goal.returns-in_default
returns-in_default c =
    let a = c.args in
    let twins : List Part = twins_by a.apart (layout_of a.source.now).parts in
    let full : is_full a.slot a.name.now ≡ false =
    false_from_ne_true (is_full a.slot a.name.now) (search rules) in
    resized-bad_name a.slot twins (layout_of a.source.now) (layout_of a.target.now) a.name.now
    a.bytes
    full

pub returns-then-bytes-gt-MAX_BYTES : goal.returns-then-bytes-gt-MAX_BYTES
returns-then-bytes-gt-MAX_BYTES c =
    let a = c.args in
    let twins : List Part = twins_by a.apart (layout_of a.source.now).parts in
    let full : is_full a.slot a.name.now ≡ true = search rules in
    resized-bad_size a.slot twins (layout_of a.source.now) (layout_of a.target.now) a.name.now
    a.bytes
    full (omega arith)

pub returns-then-not-has_part : goal.returns-then-not-has_part
returns-then-not-has_part c =
    let a = c.args in
    let twins : List Part = twins_by a.apart (layout_of a.source.now).parts in
    let full : is_full a.slot a.name.now ≡ true = search rules in
    let absent : has_part a.name.now (layout_of a.target.now).parts ≡ false = search rules in
    resized-unknown a.slot twins (layout_of a.source.now) (layout_of a.target.now) a.name.now
    a.bytes
    full (omega arith) absent

pub has_store-requires : goal.has_store-requires
has_store-requires c =
    let a = c.args in
    let full : is_full a.slot a.name.now ≡ true = search rules in
    rw c.in-Some.ensures.value (full_few a.slot a.name.now full)

pub returns-then-has_store : goal.returns-then-has_store
returns-then-has_store c =
    let a = c.args in
    let twins : List Part = twins_by a.apart (layout_of a.source.now).parts in
    let full : is_full a.slot a.name.now ≡ true = search rules in
    let there : has_part a.name.now (layout_of a.target.now).parts ≡ true = search rules in
    let store = rw c.in-Some.ensures.value at (sym c.has_store.ensures ∙ c.if-has_store.true) in
    resized-has_store a.slot twins (layout_of a.source.now) (layout_of a.target.now) a.name.now
    a.bytes
    full (omega arith) there store

pub returns-then-not-is_within : goal.returns-then-not-is_within
returns-then-not-is_within c =
    let a = c.args in
    let twins : List Part = twins_by a.apart (layout_of a.source.now).parts in
    let full : is_full a.slot a.name.now ≡ true = search rules in
    let there : has_part a.name.now (layout_of a.target.now).parts ≡ true = search rules in
    let plain = rw c.in-Some.ensures.value at (sym c.has_store.ensures ∙ c.if-has_store.false) in
    let sum =
    rw (c.text-2.ensures.value, c.in-Some.ensures.value, c.blocks-count.ensures.is) at
    c.resized_group-sum.ensures.sum in
    let limit =
    rw (c.text-2.ensures.value, c.in-Some.ensures.value) at c.resized_group-sum.ensures.limit in
    let outside : is_within c.resized_group-sum.result.0 c.resized_group-sum.result.1 ≡ false =
    search rules in
    resized-group_limit a.slot twins (layout_of a.source.now) (layout_of a.target.now) a.name.now
    a.bytes
    c.resized_group-sum.result.0 c.resized_group-sum.result.1 full (omega arith) there plain sum
    limit outside

pub returns-then-not-fits : goal.returns-then-not-fits
returns-then-not-fits c =
    let a = c.args in
    let twins : List Part = twins_by a.apart (layout_of a.source.now).parts in
    let full : is_full a.slot a.name.now ≡ true = search rules in
    let there : has_part a.name.now (layout_of a.target.now).parts ≡ true = search rules in
    let plain = rw c.in-Some.ensures.value at (sym c.has_store.ensures ∙ c.if-has_store.false) in
    let sum =
    rw (c.text-2.ensures.value, c.in-Some.ensures.value, c.blocks-count.ensures.is) at
    c.resized_group-sum.ensures.sum in
    let limit =
    rw (c.text-2.ensures.value, c.in-Some.ensures.value) at c.resized_group-sum.ensures.limit in
    let inside : is_within c.resized_group-sum.result.0 c.resized_group-sum.result.1 ≡ true =
    search rules in
    let within = rw (sum, limit) at inside in
    let used =
    rw (c.text-3.ensures.value, c.in-Some.ensures.value, c.blocks-count.ensures.is) at
    c.in_use-used.ensures.is in
    let over : c.capacity-cap.result < c.in_use-used.result = search rules in
    resized-no_room a.slot twins (layout_of a.source.now) (layout_of a.target.now) a.name.now
    a.bytes
    c.in_use-used.result c.capacity-cap.result full (omega arith) there plain within used
    c.capacity-cap.ensures over

pub returns : goal.returns
returns c =
    let a = c.args in
    let twins : List Part = twins_by a.apart (layout_of a.source.now).parts in
    let full : is_full a.slot a.name.now ≡ true = search rules in
    let there : has_part a.name.now (layout_of a.target.now).parts ≡ true = search rules in
    let plain = rw c.in-Some.ensures.value at (sym c.has_store.ensures ∙ c.if-has_store.false) in
    let sum =
    rw (c.text-2.ensures.value, c.in-Some.ensures.value, c.blocks-count.ensures.is) at
    c.resized_group-sum.ensures.sum in
    let limit =
    rw (c.text-2.ensures.value, c.in-Some.ensures.value) at c.resized_group-sum.ensures.limit in
    let inside : is_within c.resized_group-sum.result.0 c.resized_group-sum.result.1 ≡ true =
    search rules in
    let within = rw (sum, limit) at inside in
    let used =
    rw (c.text-3.ensures.value, c.in-Some.ensures.value, c.blocks-count.ensures.is) at
    c.in_use-used.ensures.is in
    let under : c.in_use-used.result ≤ c.capacity-cap.result = search rules in (
      with_resized a.slot twins (layout_of a.source.now) (layout_of a.target.now) a.name.now
          (blocks_of a.bytes),
      resized-ok a.slot twins (layout_of a.source.now) (layout_of a.target.now) a.name.now a.bytes
          (record {
            full = full;
            size = omega arith;
            known = there;
            plain = plain;
            within = within;
            room = rw (used, c.capacity-cap.ensures) at under;
          }),
    )
