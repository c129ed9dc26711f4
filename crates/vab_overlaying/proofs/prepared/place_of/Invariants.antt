use Rattle.std.proofs.Common.{◌≡◌, drop}
use Rattle.vab_device.specs.Kept.{part_named}
use Rattle.vab_overlaying.proofs.prepared.place_of.Given as goal

abbrev pub invariant-loop-i : goal.invariant-loop-i
invariant-loop-i l = part_named l.base l.parts ≡ part_named l.base (drop l.i l.parts)
