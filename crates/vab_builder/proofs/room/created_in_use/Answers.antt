use Rattle.std.specs.Prelude.{List}
use Rattle.vab_layout.specs.Layout.{layout_of}
use Rattle.vab_layout.specs.declared.layout.Part.{Part}
use Rattle.vab_layout.specs.Slots.{twins_by}
use Rattle.vab_builder.proofs.Bounds.{before_small}
use Rattle.vab_builder.proofs.room.created_in_use.Goals as goal

pub count_before-requires-clause-small : goal.count_before-requires-clause-small
count_before-requires-clause-small c =
    let a = c.args in
    let twins : List Part = twins_by a.apart (layout_of a.source.now).parts in
    before_small a.slot twins (layout_of a.source.now) (layout_of a.target.now) a.name.now
    c.requires.tables.update
