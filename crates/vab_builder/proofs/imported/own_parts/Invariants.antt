use Rattle.std.proofs.Common.{◌≡◌, take}
use Rattle.vab_layout.specs.Slots.{own_parts}
use Rattle.vab_builder.proofs.imported.own_parts.Given as goal

abbrev pub invariant-loop-part : goal.invariant-loop-part
invariant-loop-part l = l.own.items ≡ own_parts l.slot (take l.part-index l.parts)
