use Rattle.std.proofs.Common.{◌≡◌, take}
use Rattle.vab_make.specs.Made.{set_blocks, parts_from}
use Rattle.vab_make.proofs.layout.parts.Given as goal

abbrev pub invariant-loop-image : goal.invariant-loop-image
invariant-loop-image l = record {
  place : l.first ≡ set_blocks (take l.image-index l.set);
  parts : l.parts.items ≡ parts_from 0 (take l.image-index l.set);
}
