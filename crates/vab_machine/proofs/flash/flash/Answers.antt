use Rattle.std.proofs.Common.{◌∙◌, sym, subst, ap}
use Rattle.vab_model.specs.Plans.{entry_named}
use Rattle.vab_machine.specs.Small.{IsSmallPhase, IsSmallPlan}
use Rattle.vab_machine.proofs.SmallLaws.{entry_small}
use Rattle.vab_machine.proofs.flash.flash.Goals as goal

pub flash_entry-requires-clause-entry : goal.flash_entry-requires-clause-entry
flash_entry-requires-clause-entry c =
    let plan : IsSmallPlan c.in-Some.plan.now.entries =
    subst IsSmallPhase c.in-Some.ensures c.requires.phase in
    entry_small c.text-2.result.now c.in-Some.plan.now.entries c.in-Some-entry_named.entry.now
    plan.each
    (ap (entry_named c.text-2.result.now) (sym c.as_slice-2.ensures)
    ∙ sym c.in-Some-entry_named.ensures)
