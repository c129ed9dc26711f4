use Rattle.std.proofs.Common.{◌≡◌, ◌++◌, take}
use Rattle.std.specs.List.{flat_map}
use Rattle.vab_look.specs.TablesText.{group_line}
use Rattle.vab_look.proofs.entries.push_groups.Given as goal

abbrev pub invariant-loop-group : goal.invariant-loop-group
invariant-loop-group l =
    l.page.items
    ≡ l.fn.page.items ++ flat_map (group_line l.form l.slot) (take l.group-index l.groups)
