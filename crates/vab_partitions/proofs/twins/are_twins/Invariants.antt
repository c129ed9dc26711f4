use Rattle.std.proofs.Common.{◌≡◌, ◌≤◌, drop, length}
use Rattle.std.specs.Cmp.Lexicographic.{pointwise}
use Rattle.vab_layout.specs.Slots.{groups_of_slot, other_slot}
use Rattle.vab_partitions.specs.Twins.{is_twin, are_twins}
use Rattle.vab_partitions.proofs.twins.are_twins.Given as goal

abbrev pub invariant-loop-group : goal.invariant-loop-group
invariant-loop-group l =
    (l.from ≤ length l.source)
    × (are_twins l.slot l.source l.target
    ≡ pointwise is_twin (groups_of_slot (other_slot l.slot) (drop l.from l.source))
    (groups_of_slot l.slot (drop l.group-index l.target)))
