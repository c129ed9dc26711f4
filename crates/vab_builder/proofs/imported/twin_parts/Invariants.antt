use Rattle.std.proofs.Common.{◌≡◌, take, map}
use Rattle.vab_builder.specs.Import.{twin_part}
use Rattle.vab_builder.proofs.imported.twin_parts.Given as goal

abbrev pub invariant-loop-part : goal.invariant-loop-part
invariant-loop-part l = l.twins.items ≡ map (twin_part l.slot) (take l.part-index l.parts)
