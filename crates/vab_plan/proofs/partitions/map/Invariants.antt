use Rattle.std.proofs.Common.{◌≡◌, take}
use Rattle.std.specs.Prelude.{map}
use Rattle.vab_plan.proofs.PartLaws.{run_on}
use Rattle.vab_plan.proofs.partitions.map.Given as goal

abbrev pub invariant-loop-extent : goal.invariant-loop-extent
invariant-loop-extent l = l.runs.items ≡ map run_on (take l.extent-index l.extent-items)
