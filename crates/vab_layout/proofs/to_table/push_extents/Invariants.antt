use Rattle.std.proofs.Common.{◌≡◌, ◌++◌, map, take}
use Rattle.vab_blocks.specs.Runs.{runs_of}
use Rattle.vab_layout.specs.Layout.{extent_of_run}
use Rattle.vab_layout.proofs.to_table.push_extents.Given as goal

abbrev pub invariant-loop-run : goal.invariant-loop-run
invariant-loop-run l =
    l.extents.items
    ≡ l.initial.extents.items
    ++ map (extent_of_run l.first_sector) (take l.run-index (runs_of l.blocks))
