use Rattle.std.proofs.Common.{sym, ap, ◌∙◌}
use Rattle.vab_names.proofs.NameLaws.{of_slot_long}
use Rattle.vab_names.proofs.NameCases.{full_slot}
use Rattle.vab_flash.proofs.KeepLaws.{keep_idle, keep_other, keep_unknown, keep_logical}
use Rattle.vab_flash.specs.Place.{place_of}
use Rattle.vab_flash.proofs.keeping.refusal.Goals as goal

pub base_of-requires : goal.base_of-requires
base_of-requires c =
    let full = sym c.is_full.ensures ∙ c.if-is_full.true in
    of_slot_long _ c.args.name.now (full_slot _ c.args.name.now full)

pub returns-in-None : goal.returns-in-None
returns-in-None c = λ image staged.
    keep_idle c.args.device.now image staged c.args.name.now c.in-None.is

pub returns-in-Some-place_of : goal.returns-in-Some-place_of
returns-in-Some-place_of c = λ image staged.
    keep_logical c.args.device.now image staged c.args.name.now c.in-Some.plan _ c.in-Some.is
    (sym c.is_full.ensures ∙ c.if-is_full.true)
    (ap (λ b. place_of b c.in-Some.plan) (sym c.base_of.ensures)
    ∙ sym c.place_of.ensures ∙ c.in-Some-place_of.is)

pub returns-in-None-place_of : goal.returns-in-None-place_of
returns-in-None-place_of c = λ image staged.
    keep_unknown c.args.device.now image staged c.args.name.now c.in-Some.plan c.in-Some.is
    (sym c.is_full.ensures ∙ c.if-is_full.true)
    (ap (λ b. place_of b c.in-Some.plan) (sym c.base_of.ensures)
    ∙ sym c.place_of.ensures ∙ c.in-None-place_of.is)

pub returns-else-is_full : goal.returns-else-is_full
returns-else-is_full c = λ image staged.
    keep_other c.args.device.now image staged c.args.name.now c.in-Some.plan c.in-Some.is
    (sym c.is_full.ensures ∙ c.if-is_full.false)
