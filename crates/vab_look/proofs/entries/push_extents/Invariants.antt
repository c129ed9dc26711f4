use Rattle.std.proofs.Common.{◌≡◌, ◌++◌, take}
use Rattle.std.specs.List.{flat_map}
use Rattle.vab_look.specs.TablesText.{extent_line}
use Rattle.vab_look.proofs.entries.push_extents.Given as goal

abbrev pub invariant-loop-extent : goal.invariant-loop-extent
invariant-loop-extent l =
    l.page.items
    ≡ l.fn.page.items ++ flat_map (extent_line l.form l.slot) (take l.extent-index l.extents)
