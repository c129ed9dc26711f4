use Rattle.std.proofs.Common.{◌≡◌, ◌≤◌, drop, length}
use Rattle.vab_layout.specs.Slots.{groups_of_slot}
use Rattle.vab_partitions.proofs.twins.next_own.Given as goal

abbrev pub invariant-loop-at : goal.invariant-loop-at
invariant-loop-at l =
    (l.at ≤ length l.groups)
    × (groups_of_slot l.slot (drop l.from l.groups)
    ≡ groups_of_slot l.slot (drop l.at l.groups))
