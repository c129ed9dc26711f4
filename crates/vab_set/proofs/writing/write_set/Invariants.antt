use Rattle.std.proofs.Common.{◌≡◌, ◌++◌, length, take}
use Rattle.std.specs.Int.{w32, to_le_bytes}
use Rattle.vab_set.specs.Spelling.{magic, images_text}
use Rattle.vab_set.proofs.writing.write_set.Given as goal

abbrev pub invariant-loop-image : goal.invariant-loop-image
invariant-loop-image l = l.out.items ≡ magic ++ to_le_bytes w32 (length l.set)
    ++ images_text (take l.image-index l.image-items)
