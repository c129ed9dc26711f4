use Rattle.std.proofs.Common.{◌∙◌, sym}
use Rattle.vab_names.proofs.NameLaws.{of_slot_long}
use Rattle.vab_names.proofs.NameCases.{full_slot}
use Rattle.vab_edit.proofs.guard.unless_settled.Goals as goal

pub base_of-requires : goal.base_of-requires
base_of-requires c =
    of_slot_long c.args.target c.args.name.now
    (full_slot c.args.target c.args.name.now (sym c.is_full.ensures ∙ c.if-is_full.true))
