use Rattle.std.proofs.Common.{List, ◌≡◌, ◌<◌, ◌≤◌, true, false, rules, arith}
use Rattle.std.proofs.lemmas.Bool.{false_from_ne_true}
use Rattle.vab_names.specs.Names.{is_full}
use Rattle.vab_space.specs.Space.{blocks_of}
use Rattle.vab_layout.specs.Layout.{layout_of}
use Rattle.vab_layout.specs.declared.layout.Part.{Part}
use Rattle.vab_layout.specs.Slots.{twins_by}
use Rattle.vab_builder.specs.Edits.{with_created}
use Rattle.vab_builder.specs.Sizes.{has_part, is_within}
use Rattle.vab_builder.proofs.Verdicts.{created-bad_name, created-bad_size, created-exists}
use Rattle.vab_builder.proofs.Verdicts.{created-too_many, created-group_limit, created-no_room}
use Rattle.vab_builder.proofs.Verdicts.{created-ok}
use Rattle.vab_names.proofs.NameCases.{full_slot}
use Rattle.vab_builder.proofs.OwnLaws.{own_long}
use Rattle.vab_builder.proofs.create.create_fault.Goals as goal

pub returns-in_default : goal.returns-in_default
returns-in_default c =
    let a = c.args in
    let twins : List Part = twins_by a.apart (layout_of a.source.now).parts in
    let full : is_full a.slot a.name.now ≡ false =
    false_from_ne_true (is_full a.slot a.name.now) (search rules) in
    created-bad_name a.slot twins (layout_of a.source.now) (layout_of a.target.now) a.name.now
    a.bytes
    full

pub returns-then-bytes-gt-MAX_BYTES : goal.returns-then-bytes-gt-MAX_BYTES
returns-then-bytes-gt-MAX_BYTES c =
    let a = c.args in
    let twins : List Part = twins_by a.apart (layout_of a.source.now).parts in
    let full : is_full a.slot a.name.now ≡ true = search rules in
    created-bad_size a.slot twins (layout_of a.source.now) (layout_of a.target.now) a.name.now
    a.bytes
    full (omega arith)

pub returns-then-has_part : goal.returns-then-has_part
returns-then-has_part c =
    let a = c.args in
    let twins : List Part = twins_by a.apart (layout_of a.source.now).parts in
    let full : is_full a.slot a.name.now ≡ true = search rules in
    let there : has_part a.name.now (layout_of a.target.now).parts ≡ true = search rules in
    created-exists a.slot twins (layout_of a.source.now) (layout_of a.target.now) a.name.now a.bytes
    full (omega arith) there

pub returns-then-own-ge-MAX_PARTS : goal.returns-then-own-ge-MAX_PARTS
returns-then-own-ge-MAX_PARTS c =
    let a = c.args in
    let twins : List Part = twins_by a.apart (layout_of a.source.now).parts in
    let full : is_full a.slot a.name.now ≡ true = search rules in
    let absent : has_part a.name.now (layout_of a.target.now).parts ≡ false = search rules in
    let own = c.count_own-own.ensures in
    rw own
    (created-too_many a.slot twins (layout_of a.source.now) (layout_of a.target.now) a.name.now
    a.bytes
    full (omega arith) absent (omega (arith, own, c.if-own-ge-MAX_PARTS.true)))

pub returns-then-not-is_within : goal.returns-then-not-is_within
returns-then-not-is_within c =
    let a = c.args in
    let twins : List Part = twins_by a.apart (layout_of a.source.now).parts in
    let full : is_full a.slot a.name.now ≡ true = search rules in
    let absent : has_part a.name.now (layout_of a.target.now).parts ≡ false = search rules in
    let sum =
    rw (c.text-2.ensures.value, c.in-Some.ensures.value, c.blocks-count.ensures.is) at
    c.created_group-sum.ensures.sum in
    let outside : is_within c.created_group-sum.result.0 c.created_group-sum.result.1 ≡ false =
    search rules in
    created-group_limit a.slot twins (layout_of a.source.now) (layout_of a.target.now) a.name.now
    a.bytes
    c.created_group-sum.result.0 c.created_group-sum.result.1 full (omega arith) absent
    (omega (arith, c.count_own-own.ensures)) sum c.created_group-sum.ensures.limit outside

pub created_in_use-used-requires-clause-long : goal.created_in_use-used-requires-clause-long
created_in_use-used-requires-clause-long c =
    let a = c.args in
    let full : is_full a.slot a.name.now ≡ true = search rules in
    rw c.in-Some.ensures.value (own_long a.slot a.name.now (full_slot a.slot a.name.now full))

pub returns-then-not-fits : goal.returns-then-not-fits
returns-then-not-fits c =
    let a = c.args in
    let twins : List Part = twins_by a.apart (layout_of a.source.now).parts in
    let full : is_full a.slot a.name.now ≡ true = search rules in
    let absent : has_part a.name.now (layout_of a.target.now).parts ≡ false = search rules in
    let sum =
    rw (c.text-2.ensures.value, c.in-Some.ensures.value, c.blocks-count.ensures.is) at
    c.created_group-sum.ensures.sum in
    let inside : is_within c.created_group-sum.result.0 c.created_group-sum.result.1 ≡ true =
    search rules in
    let within = rw (sum, c.created_group-sum.ensures.limit) at inside in
    let used =
    rw (c.in-Some.ensures.value, c.blocks-count.ensures.is) at c.created_in_use-used.ensures in
    let over : c.capacity-cap.result < c.created_in_use-used.result = search rules in
    created-no_room a.slot twins (layout_of a.source.now) (layout_of a.target.now) a.name.now
    a.bytes
    c.created_in_use-used.result c.capacity-cap.result full (omega arith) absent
    (omega (arith, c.count_own-own.ensures)) within used c.capacity-cap.ensures over

pub returns : goal.returns
returns c =
    let a = c.args in
    let twins : List Part = twins_by a.apart (layout_of a.source.now).parts in
    let full : is_full a.slot a.name.now ≡ true = search rules in
    let absent : has_part a.name.now (layout_of a.target.now).parts ≡ false = search rules in
    let sum =
    rw (c.text-2.ensures.value, c.in-Some.ensures.value, c.blocks-count.ensures.is) at
    c.created_group-sum.ensures.sum in
    let inside : is_within c.created_group-sum.result.0 c.created_group-sum.result.1 ≡ true =
    search rules in
    let used =
    rw (c.in-Some.ensures.value, c.blocks-count.ensures.is) at c.created_in_use-used.ensures in
    let under : c.created_in_use-used.result ≤ c.capacity-cap.result = search rules in (
      with_created a.slot twins (layout_of a.source.now) (layout_of a.target.now) a.name.now
          (blocks_of a.bytes),
      created-ok a.slot twins (layout_of a.source.now) (layout_of a.target.now) a.name.now a.bytes
          (record {
            full = full;
            size = omega arith;
            absent = absent;
            few = omega (arith, c.count_own-own.ensures);
            within = rw (sum, c.created_group-sum.ensures.limit) at inside;
            room = rw (used, c.capacity-cap.ensures) at under;
          }),
    )
