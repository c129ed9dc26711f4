use Rattle.std.proofs.Common.{◌≡◌, take}
use Rattle.std.specs.List.{flat_map}
use Rattle.vab_look.specs.StoresText.{store_line}
use Rattle.vab_look.proofs.stores.store_lines.Given as goal

abbrev pub invariant-loop-row : goal.invariant-loop-row
invariant-loop-row l = l.page.items ≡ flat_map (store_line l.form) (take l.row-index l.rows)
