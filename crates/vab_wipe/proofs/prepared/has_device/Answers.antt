use Rattle.std.proofs.Common.{sym, ap, ◌∙◌}
use Rattle.std.specs.Prelude.{option_map}
use Rattle.vab_wipe.proofs.KeptLaws.{own_device}
use Rattle.vab_wipe.proofs.prepared.has_device.Goals as goal

pub returns-in-Some : goal.returns-in-Some
returns-in-Some c =
    c.same_device.ensures.is
    ∙ sym
    (own_device c.args.device.now c.requires.kept.0 c.in-Some.table.now c.args.image.now
    c.requires.kept.1 c.requires.rules
    (sym c.table.ensures ∙ ap (option_map (λ t. t.now)) c.in-Some.is))
