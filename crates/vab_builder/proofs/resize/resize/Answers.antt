use Rattle.std.proofs.Common.{◌∙◌, List, sym, ap, arith}
use Rattle.vab_layout.specs.declared.layout.Layout.{Layout}
use Rattle.vab_layout.specs.declared.layout.Part.{Part}
use Rattle.vab_space.specs.Space.{blocks_of}
use Rattle.vab_names.proofs.NameCases.{full_slot}
use Rattle.vab_builder.proofs.OwnLaws.{own_long}
use Rattle.vab_builder.proofs.EditLaws.{named_small, resized_alike, same_size, other_size}
use Rattle.vab_builder.proofs.EditLaws.{named_room}
use Rattle.vab_builder.proofs.resize.resize.Goals as goal

pub judged_name-name-requires-clause-full : goal.judged_name-name-requires-clause-full
judged_name-name-requires-clause-full c = c.requires.passes.full

pub count_part-former-requires : goal.count_part-former-requires
count_part-former-requires c =
    let a = c.args in
    let own = full_slot a.slot a.name.now c.requires.passes.full in
    let small = named_small a.slot a.name.now a.target.parts c.requires.update.parts.own own in
    rw (c.text.ensures.value, c.judged_name-name.ensures, c.as_slice.ensures) (omega (arith, small))

pub returns-then-former-count : goal.returns-then-former-count
returns-then-former-count c =
    let a = c.args in
    let former =
    rw (
      c.count_part-former.ensures,
      c.text.ensures.value,
      c.judged_name-name.ensures,
      c.as_slice.ensures,
      c.blocks-count.ensures.is,
    ) at c.if-former-count.true in
    sym (same_size a.slot a.twins.now a.source.now a.target a.name.now (blocks_of a.bytes) former)

pub resized_blocks-requires-clause-long : goal.resized_blocks-requires-clause-long
resized_blocks-requires-clause-long c =
    let a = c.args in
    rw c.judged_name-name.ensures
    (own_long a.slot a.name.now (full_slot a.slot a.name.now c.requires.passes.full))

pub resized_blocks-requires-clause-room : goal.resized_blocks-requires-clause-room
resized_blocks-requires-clause-room c =
    let a = c.args in
    let is = c.requires.passes in
    rw (c.judged_name-name.ensures, c.blocks-count.ensures.is)
    (named_room a.slot a.twins.now a.source.now a.target a.name.now (blocks_of a.bytes)
    c.requires.update is.full is.known is.room)

pub returns : goal.returns
returns c =
    let a = c.args in
    let former =
    rw (
      c.count_part-former.ensures,
      c.text.ensures.value,
      c.judged_name-name.ensures,
      c.as_slice.ensures,
      c.blocks-count.ensures.is,
    ) at c.if-former-count.false in
    let made =
    rw (c.in_ok-changed.ensures, c.judged_name-name.ensures, c.blocks-count.ensures.is) at
    c.with_blocks.ensures in
    let alike =
    resized_alike a.slot a.twins.now a.source.now a.target a.name.now (blocks_of a.bytes)
    c.requires.update.target_rules.part_names in
    let l : Layout = a.target in
    made ∙ ap (λ (ps : List Part). let m : Layout = record l { parts = ps } in m) alike
    ∙ sym (other_size a.slot a.twins.now a.source.now a.target a.name.now (blocks_of a.bytes)
    former)
