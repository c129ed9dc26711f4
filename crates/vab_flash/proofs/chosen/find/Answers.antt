use Rattle.std.proofs.Common.{sym, ap, ◌∙◌}
use Rattle.vab_names.proofs.NameLaws.{of_slot_long}
use Rattle.vab_names.proofs.NameCases.{full_slot}
use Rattle.vab_flash.proofs.ChosenLaws.{flash_idle, flash_other, flash_unknown}
use Rattle.vab_flash.specs.Place.{place_of}
use Rattle.vab_flash.proofs.chosen.find.Goals as goal

pub base_of-requires : goal.base_of-requires
base_of-requires c =
    let full = sym c.is_full.ensures ∙ c.if-is_full.true in
    of_slot_long _ c.args.name.now (full_slot _ c.args.name.now full)

pub returns-in-None-clause-refused : goal.returns-in-None-clause-refused
returns-in-None-clause-refused c = λ image staged chunk.
    flash_idle c.args.device.now image staged c.args.name.now chunk c.in-None.is

pub returns-in-None-place_of-clause-refused : goal.returns-in-None-place_of-clause-refused
returns-in-None-place_of-clause-refused c = λ image staged chunk.
    flash_unknown c.args.device.now image staged c.args.name.now chunk c.in-Some.plan c.in-Some.is
    (sym c.is_full.ensures ∙ c.if-is_full.true)
    (ap (λ b. place_of b c.in-Some.plan) (sym c.base_of.ensures)
    ∙ sym c.place_of.ensures ∙ c.in-None-place_of.is)

pub returns-else-is_full-clause-refused : goal.returns-else-is_full-clause-refused
returns-else-is_full-clause-refused c = λ image staged chunk.
    flash_other c.args.device.now image staged c.args.name.now chunk c.in-Some.plan c.in-Some.is
    (sym c.is_full.ensures ∙ c.if-is_full.false)
