use Rattle.std.proofs.Common.{◌≡◌, take}
use Rattle.vab_machine.proofs.change.copy_plan.Given as goal

abbrev pub invariant-loop-entry : goal.invariant-loop-entry
invariant-loop-entry l = l.copies.items ≡ take l.entry-index l.plan
