use Rattle.std.proofs.Common.{◌≡◌, take}
use Rattle.vab_model.specs.Plans.{without_entry}
use Rattle.vab_machine.proofs.change.without_entry.Given as goal

abbrev pub invariant-loop-entry : goal.invariant-loop-entry
invariant-loop-entry l = l.copies.items ≡ without_entry l.name (take l.entry-index l.plan)
