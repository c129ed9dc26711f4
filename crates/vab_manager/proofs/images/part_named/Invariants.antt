use Rattle.std.proofs.Common.{◌≡◌, drop}
use Rattle.vab_manager.specs.Found.{part_named}
use Rattle.vab_manager.proofs.images.part_named.Given as goal

abbrev pub invariant-loop-part : goal.invariant-loop-part
invariant-loop-part l = part_named l.base (drop l.part-index l.part-items)
    ≡ part_named l.base l.part-items
