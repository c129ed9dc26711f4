use Rattle.std.proofs.Common.{◌≡◌, drop}
use Rattle.vab_merging.proofs.PlaceLaws.{first_by}
use Rattle.vab_merging.proofs.next.first_place.Given as goal

abbrev pub invariant-loop-partition : goal.invariant-loop-partition
invariant-loop-partition l =
    first_by l.slot l.parts (drop l.partition-index l.table.partitions)
    ≡ first_by l.slot l.parts l.table.partitions
