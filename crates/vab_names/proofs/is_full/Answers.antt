use Rattle.std.proofs.Common.{sym, ◌∙◌}
use Rattle.vab_names.proofs.NameLaws.{of_slot_long}
use Rattle.vab_names.proofs.is_full.Goals as goal

pub base_of-requires : goal.base_of-requires
base_of-requires c = of_slot_long c.args.slot c.args.text.now
    (sym c.is_of_slot.ensures ∙ c.if-is_of_slot.true)
