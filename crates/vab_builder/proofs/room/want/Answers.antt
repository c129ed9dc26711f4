use Rattle.std.proofs.Common.{List, arith}
use Rattle.vab_layout.specs.Layout.{layout_of, part_of}
use Rattle.vab_names.proofs.NameCases.{full_short}
use Rattle.vab_layout.specs.declared.layout.Part.{Part}
use Rattle.vab_layout.specs.Slots.{twins_by}
use Rattle.vab_builder.proofs.OwnLaws.{own_long, own_rules}
use Rattle.vab_builder.proofs.Bounds.{before_small, store_small}
use Rattle.vab_builder.proofs.SumLaws.{listed_part, listed_rules, listed_small}
use Rattle.vab_builder.proofs.room.want.Goals as goal

pub count_before-requires-clause-long : goal.count_before-requires-clause-long
count_before-requires-clause-long c =
    own_long c.args.slot c.args.partition.now.name c.requires.own

pub count_before-requires-clause-small : goal.count_before-requires-clause-small
count_before-requires-clause-small c =
    let a = c.args in
    let twins : List Part = twins_by a.apart (layout_of a.source.now).parts in
    before_small a.slot twins (layout_of a.source.now) (layout_of a.target.now) a.partition.now.name
    c.requires.tables.update

pub count_blocks-requires-clause-exists : goal.count_blocks-requires-clause-exists
count_blocks-requires-clause-exists c =
    listed_rules c.args.target.now c.args.partition.now c.requires.tables.target_keeps
    c.requires.listed

pub count_blocks-requires-clause-small : goal.count_blocks-requires-clause-small
count_blocks-requires-clause-small c =
    let a = c.args in
    omega (
      arith,
      listed_small a.slot a.target.now a.partition.now c.requires.tables.update.parts.own
          c.requires.listed c.requires.own,
    )

pub store_of-requires : goal.store_of-requires
store_of-requires c =
    let a = c.args in
    let rules =
    own_rules a.slot (layout_of a.target.now).parts (part_of a.target.now a.partition.now)
    c.requires.tables.update.parts.own
    (listed_part a.target.now a.partition.now c.requires.listed) c.requires.own in
    full_short a.slot a.partition.now.name c.requires.own rules.base

pub count_named-requires-clause-small : goal.count_named-requires-clause-small
count_named-requires-clause-small c =
    let a = c.args in
    let twins : List Part = twins_by a.apart (layout_of a.source.now).parts in
    let small =
    store_small a.slot twins (layout_of a.source.now) (layout_of a.target.now) a.partition.now.name
    c.requires.tables.update c.requires.own in
    rw (c.text.ensures.value, c.store_of.ensures) (omega (arith, small))
