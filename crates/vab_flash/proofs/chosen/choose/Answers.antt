use Rattle.std.proofs.Common.{◌≡◌, subst, ◌∙◌}
use Rattle.std.specs.Prelude.{Some, map, option_map}
use Rattle.vab_model.specs.Effects.{refuses}
use Rattle.vab_device.specs.declared.device.Part.{Part}
use Rattle.vab_device.specs.Mounted.{mounted_on, entry_on}
use Rattle.vab_device.specs.Flashed.{entry_effect}
use Rattle.vab_flash.specs.Place.{plan_or}
use Rattle.vab_flash.proofs.ChosenLaws.{plan_on, flash_at}
use Rattle.vab_flash.proofs.chosen.choose.Goals as goal

pub returns-in-Err-fit-clause-refused : goal.returns-in-Err-fit-clause-refused
returns-in-Err-fit-clause-refused c = λ image chunk.
    let d = c.args.device.now in
    let staged = option_map (λ s. s.now) c.args.staged in
    let entries = map (entry_on image) (plan_or d.plan) in
    let plan = plan_on d image in
    flash_at d image staged c.args.name.now chunk c.in-Ok.place c.in-Ok.ensures.found
    ∙ subst
    (λ (p : Part).
    entry_effect (mounted_on d image) d.mark.slot plan chunk staged (Some (entry_on image p))
    ≡ refuses c.in-Err-fit.refusal)
    c.planned_at.ensures
    (c.in-Err-fit.ensures.refused (mounted_on d image) d.mark.slot entries chunk image)
