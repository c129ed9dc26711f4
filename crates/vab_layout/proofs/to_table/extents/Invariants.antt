use Rattle.std.proofs.Common.{◌≡◌, take}
use Rattle.std.specs.List.{flat_map}
use Rattle.vab_layout.specs.Layout.{extents_of_part}
use Rattle.vab_layout.proofs.to_table.extents.Given as goal

abbrev pub invariant-loop-part : goal.invariant-loop-part
invariant-loop-part l =
    l.extents.items ≡ flat_map (extents_of_part l.first_sector) (take l.part-index l.parts)
