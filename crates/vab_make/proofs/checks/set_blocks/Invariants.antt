use Rattle.std.proofs.Common.{◌≡◌, take}
use Rattle.vab_make.specs.Made.{set_blocks}
use Rattle.vab_make.proofs.checks.set_blocks.Given as goal

abbrev pub invariant-loop-image : goal.invariant-loop-image
invariant-loop-image l = l.sum ≡ set_blocks (take l.image-index l.set)
