use Rattle.std.proofs.Common.{◌≡◌, take}
use Rattle.vab_model.specs.Plans.{at_entry}
use Rattle.vab_machine.specs.Changes.{change_of}
use Rattle.vab_machine.proofs.change.at_entry.Given as goal

abbrev pub invariant-loop-entry : goal.invariant-loop-entry
invariant-loop-entry l =
    l.copies.items ≡ at_entry l.name (change_of l.change) (take l.entry-index l.plan)
