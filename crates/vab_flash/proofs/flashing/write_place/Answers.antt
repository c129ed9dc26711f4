use Rattle.std.proofs.Common.{◌≡◌, ℕ, List, length, sym, ap, subst, ◌∙◌}
use Rattle.std.proofs.lemmas.Result.{IfOk-weaker}
use Rattle.vab_device.specs.declared.device.Part.{Part}
use Rattle.vab_device.specs.Mounted.{blocks_there}
use Rattle.vab_store.specs.View.{Fits}
use Rattle.vab_flash.specs.Chosen.{store_at}
use Rattle.vab_flash.specs.Place.{planned_at}
use Rattle.vab_flash.proofs.flashing.write_place.Goals as goal

pub returns-clause-fits : goal.returns-clause-fits
returns-clause-fits g c =
    let d = c.args.device.now in
    let k = c.args.chunk in
    let long : ℕ = length (planned_at d c.args.place).map in
    let here : c.in-Some.store ≡ store_at d c.args.place =
    sym (ap blocks_there (ap (λ (p : Part). p.store) (sym c.planned_at.ensures) ∙ c.in-Some.is)) in
    IfOk-weaker c.write_snapshot.result _ (λ v. Fits k long (store_at d c.args.place) v)
    (λ v fits. subst (λ (ss : List ℕ). Fits k long ss v) here (fits long c.requires.listed.below))
    c.write_snapshot.ensures.fits
