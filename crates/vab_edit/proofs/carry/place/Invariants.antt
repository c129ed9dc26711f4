use Rattle.std.proofs.Common.{◌≡◌, drop}
use Rattle.vab_edit.specs.Carried.{planned_named}
use Rattle.vab_edit.proofs.carry.place.Given as goal

abbrev pub invariant-loop-i : goal.invariant-loop-i
invariant-loop-i l = planned_named l.name l.plan ≡ planned_named l.name (drop l.i l.plan)
