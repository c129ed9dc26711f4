use Rattle.std.proofs.Common.{◌≡◌, ◌++◌, take}
use Rattle.std.specs.List.{flat_map}
use Rattle.vab_look.specs.Facts.{image_fact}
use Rattle.vab_look.proofs.facts.push_images.Given as goal

abbrev pub invariant-loop-part : goal.invariant-loop-part
invariant-loop-part l =
    l.page.items
    ≡ l.fn.page.items ++ flat_map (image_fact l.form l.slot) (take l.part-index l.parts)
