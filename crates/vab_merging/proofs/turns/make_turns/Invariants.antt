use Rattle.std.proofs.Common.{◌≡◌, ◌-◌, ◌≤◌}
use Rattle.vab_merging.specs.Turns.{next_of}
use Rattle.vab_merging.proofs.MadeLaws.{SoFar}
use Rattle.vab_merging.proofs.turns.make_turns.Given as goal

abbrev pub invariant-loop-wanted : goal.invariant-loop-wanted
invariant-loop-wanted g l =
    (l.wanted ≤ l.fn.blocks)
    × SoFar g.D.Disk l.fn.device l.fn.blocks (l.fn.blocks - l.wanted) l.fn.d l.d l.device
    × (l.place ≡ next_of l.device)

abbrev pub decreases-loop-wanted : goal.decreases-loop-wanted
decreases-loop-wanted g l = l.wanted
