use Rattle.std.proofs.Common.{◌≡◌, ◌++◌, take}
use Rattle.std.specs.List.{flat_map}
use Rattle.vab_survey.specs.Rows.{row_of}
use Rattle.vab_survey.proofs.stores.push_rows.Given as goal

abbrev pub invariant-loop-part : goal.invariant-loop-part
invariant-loop-part l =
    l.rows.items ≡ l.fn.rows.items ++ flat_map (row_of l.slot) (take l.part-index l.parts)
