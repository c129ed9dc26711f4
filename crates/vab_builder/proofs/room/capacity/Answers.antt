use Rattle.std.proofs.Common.{List, get_or, sym, ap, ◌∙◌}
use Rattle.vab_tables.specs.declared.entries.BlockDevice.{BlockDevice}
use Rattle.vab_tables.specs.Rules.{cap_of}
use Rattle.vab_layout.specs.Layout.{first_device}
use Rattle.vab_builder.proofs.TableLaws.{layout_device}
use Rattle.vab_builder.proofs.room.capacity.Goals as goal

pub returns : goal.returns
returns c =
    let there = c.index-as_slice-0.is
    ∙ ap (λ (ds : List BlockDevice). get_or ds 0 c.index-as_slice-0.result)
    (c.as_slice.ensures ∙ c.requires.one_device) in
    let device = layout_device c.args.table.now ∙ ap first_device c.requires.one_device in
    c.cap.ensures ∙ ap cap_of (there ∙ sym device)
