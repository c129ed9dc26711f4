use Rattle.std.proofs.Common.{◌≡◌, drop}
use Rattle.vab_flash.specs.Chosen.{part_named}
use Rattle.vab_flash.proofs.chosen.part_named.Given as goal

abbrev pub invariant-loop-part : goal.invariant-loop-part
invariant-loop-part l = part_named l.base (drop l.part-index l.part-items) ≡ part_named l.base
    l.part-items
