use Rattle.std.proofs.Common.{◌≡◌, drop}
use Rattle.vab_fbvars.specs.Planned.{planned_named}
use Rattle.vab_fbvars.proofs.images.named.Given as goal

abbrev pub invariant-loop-part : goal.invariant-loop-part
invariant-loop-part l =
    planned_named l.base (drop l.part-index l.part-items) ≡ planned_named l.base l.part-items
