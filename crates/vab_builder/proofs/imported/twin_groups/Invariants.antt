use Rattle.std.proofs.Common.{◌≡◌, take, map}
use Rattle.vab_builder.specs.Import.{twin_group}
use Rattle.vab_builder.proofs.imported.twin_groups.Given as goal

abbrev pub invariant-loop-group : goal.invariant-loop-group
invariant-loop-group l = l.twins.items ≡ map (twin_group l.slot) (take l.group-index l.groups)
