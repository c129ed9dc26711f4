use Rattle.std.proofs.Common.{◌≡◌, take}
use Rattle.vab_model.specs.Groups.{limits_of}
use Rattle.vab_machine.proofs.wipe.limits.Given as goal

abbrev pub invariant-loop-group : goal.invariant-loop-group
invariant-loop-group l = l.limits.items ≡ limits_of l.slot (take l.group-index l.group-items)
