use Rattle.std.proofs.Common.{◌≡◌, take}
use Rattle.vab_device.specs.Mounted.{count_in}
use Rattle.vab_merging.proofs.counts.count_in.Given as goal

abbrev pub invariant-loop-part : goal.invariant-loop-part
invariant-loop-part l = l.count ≡ count_in (take l.part-index l.parts)
