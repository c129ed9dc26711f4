use Rattle.std.proofs.Common.{◌≡◌, take}
use Rattle.vab_layout.specs.Plain.{own_groups}
use Rattle.vab_builder.proofs.imported.own_groups.Given as goal

abbrev pub invariant-loop-group : goal.invariant-loop-group
invariant-loop-group l = l.own.items ≡ own_groups l.slot (take l.group-index l.groups)
