use Rattle.std.proofs.Common.{◌≡◌, drop}
use Rattle.vab_edit.specs.Carried.{planned_named}
use Rattle.vab_edit.proofs.guard.is_settled.Given as goal

abbrev pub invariant-loop-part : goal.invariant-loop-part
invariant-loop-part l =
    planned_named l.name l.plan ≡ planned_named l.name (drop l.part-index l.plan)
