use Rattle.std.proofs.Common.{◌≡◌, ◌++◌, take, drop}
use Rattle.std.specs.Prelude.{map}
use Rattle.vab_merging.specs.Kept.{plain_part}
use Rattle.vab_merging.proofs.kept.plain.Given as goal

abbrev pub invariant-loop-part : goal.invariant-loop-part
invariant-loop-part l =
    l.part-items
    ≡ map plain_part (take l.part-index l.initial.part-items)
    ++ drop l.part-index l.initial.part-items
