use Rattle.std.proofs.Common.{◌≡◌, drop}
use Rattle.vab_model.specs.Plans.{entry_named}
use Rattle.vab_machine.proofs.parts.entry_named.Given as goal

abbrev pub invariant-loop-entry : goal.invariant-loop-entry
invariant-loop-entry l = entry_named l.name (drop l.entry-index l.plan) ≡ entry_named l.name l.plan
