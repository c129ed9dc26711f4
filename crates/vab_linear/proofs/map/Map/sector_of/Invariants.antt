use Rattle.std.proofs.Common.{◌≡◌, ◌<◌, length, drop, get_or}
use Rattle.vab_linear.specs.Held.{held_of}
use Rattle.vab_linear.proofs.map.Map.sector_of.Given as goal

abbrev pub invariant-loop-run : goal.invariant-loop-run
invariant-loop-run l = record {
  some : l.left < length (held_of (drop l.run-index l.run-items));
  same : get_or (held_of (drop l.run-index l.run-items)) l.left 0
      ≡ get_or (held_of l.run-items) l.block 0;
}
