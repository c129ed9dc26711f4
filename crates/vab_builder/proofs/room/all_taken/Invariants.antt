use Rattle.std.proofs.Common.{◌≡◌, sum_by, take}
use Rattle.vab_layout.specs.Layout.{layout_of}
use Rattle.vab_layout.specs.Slots.{twins_by}
use Rattle.vab_builder.specs.Sums.{own_taken}
use Rattle.vab_builder.proofs.room.all_taken.Given as goal

abbrev pub invariant-loop-partition : goal.invariant-loop-partition
invariant-loop-partition l =
    l.blocks
    ≡ sum_by (own_taken l.slot (twins_by l.apart (layout_of l.source).parts) l.target l.change)
    (take l.partition-index l.partitions)
