use Rattle.vab_layout.specs.Layout.{layout_of}
use Rattle.vab_layout.specs.Slots.{other_slot, twins_by}
use Rattle.vab_begin.proofs.PlannedLaws.{target_table}
use Rattle.vab_begin.proofs.target.target_of.Goals as goal

pub with_text-requires-clause-target : goal.with_text-requires-clause-target
with_text-requires-clause-target c =
    target_table (other_slot c.args.slot)
    (twins_by c.args.apart (layout_of c.args.source.now).parts)
    (layout_of c.args.source.now).parts c.in-Ok.table
    c.in-Ok.ensures.rules c.in-Ok.ensures.target
