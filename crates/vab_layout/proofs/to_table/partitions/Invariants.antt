use Rattle.std.proofs.Common.{◌≡◌, take}
use Rattle.vab_layout.specs.Layout.{partitions_from}
use Rattle.vab_layout.specs.Layout.{runs_in}
use Rattle.vab_layout.proofs.to_table.partitions.Given as goal

abbrev pub invariant-loop-part : goal.invariant-loop-part
invariant-loop-part l =
    record {
      made : l.partitions.items
          ≡ partitions_from 0 l.groups (take l.part-index l.parts);
      next : l.first_extent
          ≡ runs_in (take l.part-index l.parts);
    }
