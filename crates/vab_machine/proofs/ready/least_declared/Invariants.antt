use Rattle.std.proofs.Common.{◌≡◌, drop}
use Rattle.vab_model.specs.Machine.{least_declared}
use Rattle.vab_machine.proofs.ready.least_declared.Given as goal

abbrev pub invariant-loop-entry : goal.invariant-loop-entry
invariant-loop-entry l =
    least_declared l.least (drop l.entry-index l.plan) ≡ least_declared l.fn.name l.plan
