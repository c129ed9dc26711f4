use Rattle.std.proofs.Common.{◌≡◌, ◌++◌, take}
use Rattle.std.specs.List.{flat_map}
use Rattle.vab_look.specs.TablesText.{partition_lines}
use Rattle.vab_look.proofs.entries.push_partitions.Given as goal

abbrev pub invariant-loop-partition : goal.invariant-loop-partition
invariant-loop-partition l =
    l.page.items
    ≡ l.fn.page.items
    ++ flat_map (partition_lines l.form l.slot l.table) (take l.partition-index l.partition-items)
