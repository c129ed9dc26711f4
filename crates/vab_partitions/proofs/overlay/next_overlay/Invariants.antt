use Rattle.std.proofs.Common.{◌≡◌}
use Rattle.vab_partitions.specs.Overlay.{overlays_from}
use Rattle.vab_partitions.proofs.overlay.next_overlay.Given as goal

abbrev pub invariant-loop-at : goal.invariant-loop-at
invariant-loop-at l =
    overlays_from l.slot l.table l.from ≡ overlays_from l.slot l.table l.at
