use Rattle.std.proofs.Common.{◌≡◌, ◌+◌, drop}
use Rattle.vab_model.specs.Machine.{exceptions_in}
use Rattle.vab_machine.proofs.ready.exceptions_in.Given as goal

abbrev pub invariant-loop-entry : goal.invariant-loop-entry
invariant-loop-entry l = l.count + exceptions_in (drop l.entry-index l.plan) ≡ exceptions_in l.plan
