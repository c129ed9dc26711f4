use Rattle.std.proofs.Common.{List, sym, ap, ◌∙◌, arith}
use Rattle.vab_names.specs.Names.{is_of_slot}
use Rattle.vab_layout.specs.Layout.{layout_of, part_of}
use Rattle.vab_layout.specs.declared.layout.Part.{Part}
use Rattle.vab_layout.specs.Slots.{twins_by}
use Rattle.vab_builder.specs.Sizes.{want_of}
use Rattle.vab_builder.proofs.Bounds.{store_small}
use Rattle.vab_builder.specs.Sums.{changed_want}
use Rattle.vab_builder.proofs.SumLaws.{listed_small}
use Rattle.vab_builder.proofs.UsedLaws.{changed_small}
use Rattle.vab_builder.proofs.room.taken.Goals as goal

pub used-requires : goal.used-requires
used-requires c =
    let a = c.args in
    let twins : List Part = twins_by a.apart (layout_of a.source.now).parts in
    let p = a.partition.now in
    let own =
    sym (c.is_of_slot.ensures ∙ ap (is_of_slot a.slot) c.text.ensures.value)
    ∙ c.if-is_of_slot.true in
    let small =
    changed_small a.change.now p.name
    (want_of a.slot twins (layout_of a.target.now).parts
    (part_of a.target.now p))
    c.requires.small
    (listed_small a.slot a.target.now p c.requires.tables.update.parts.own c.requires.listed own)
    (store_small a.slot twins (layout_of a.source.now) (layout_of a.target.now) p.name
    c.requires.tables.update own) in
    let is =
    c.changed_want.ensures ∙ ap (changed_want a.change.now p.name) c.want-want.ensures in
    rw is (omega (arith, small.0, small.1))
