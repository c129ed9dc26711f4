use Rattle.std.proofs.Common.{◌∙◌, ℕ, List, sym, ap}
use Rattle.std.specs.Prelude.{Option}
use Rattle.vab_device.specs.declared.device.Part.{Part}
use Rattle.vab_device.specs.Kept.{table_of_slot}
use Rattle.vab_merging.specs.Turns.{parts_or, stores_in, first_place}
use Rattle.vab_merging.proofs.PlaceLaws.{first_none}
use Rattle.vab_merging.proofs.next.next_place.Goals as goal

pub returns-in-None : goal.returns-in-None
returns-in-None c =
    let d = c.args.device.now in
    let slot : ℕ = d.mark.slot in
    let stores : List (List ℕ) = stores_in slot (table_of_slot d slot) in
    sym (ap (λ (o : Option (List Part)). first_place slot (parts_or o) stores)
    (sym c.in-None.ensures)
    ∙ first_none slot stores)
