use Rattle.std.proofs.Common.{◌≡◌, drop, None}
use Rattle.vab_finish.specs.Ready.{least_of}
use Rattle.vab_finish.proofs.ready.least_declared.Given as goal

abbrev pub invariant-loop-part : goal.invariant-loop-part
invariant-loop-part l =
    least_of l.least (drop l.part-index l.part-items) ≡ least_of None l.part-items
