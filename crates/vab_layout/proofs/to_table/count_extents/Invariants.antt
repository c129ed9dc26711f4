use Rattle.std.proofs.Common.{◌≡◌, take}
use Rattle.vab_layout.specs.Layout.{runs_in}
use Rattle.vab_layout.proofs.to_table.count_extents.Given as goal

abbrev pub invariant-loop-part : goal.invariant-loop-part
invariant-loop-part l = l.count ≡ runs_in (take l.part-index l.parts)
