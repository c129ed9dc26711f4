use Rattle.std.proofs.Common.{sym, ◌∙◌}
use Rattle.vab_model.proofs.Names.{full_long}
use Rattle.vab_manager.proofs.images.part_under.Goals as goal

pub part_in-requires : goal.part_in-requires
part_in-requires c = full_long 0 c.args.name.now (sym c.is_full.ensures ∙ c.if-is_full.true)

pub part_in-requires-then-is_full-2 : goal.part_in-requires-then-is_full-2
part_in-requires-then-is_full-2 c = full_long 1 c.args.name.now
    (sym c.is_full-else-is_full.ensures ∙ c.if-is_full-2.true)
