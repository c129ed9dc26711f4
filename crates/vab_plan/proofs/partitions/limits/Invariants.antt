use Rattle.std.proofs.Common.{◌≡◌, take}
use Rattle.vab_device.specs.Kept.{limits_of}
use Rattle.vab_plan.proofs.partitions.limits.Given as goal

abbrev pub invariant-loop-group : goal.invariant-loop-group
invariant-loop-group l = l.limits.items ≡ limits_of l.slot (take l.group-index l.group-items)
