use Rattle.std.proofs.Common.{◌≡◌, ◌++◌, take}
use Rattle.std.specs.List.{flat_map}
use Rattle.vab_look.specs.Facts.{plan_fact}
use Rattle.vab_look.proofs.facts.push_planned.Given as goal

abbrev pub invariant-loop-part : goal.invariant-loop-part
invariant-loop-part l =
    l.page.items
    ≡ l.fn.page.items ++ flat_map (plan_fact l.form) (take l.part-index l.parts)
