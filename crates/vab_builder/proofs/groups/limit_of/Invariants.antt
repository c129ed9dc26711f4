use Rattle.std.proofs.Common.{◌≡◌, drop}
use Rattle.vab_builder.specs.Sizes.{limit_of}
use Rattle.vab_builder.proofs.groups.limit_of.Given as goal

abbrev pub invariant-loop-group : goal.invariant-loop-group
invariant-loop-group l = limit_of l.groups l.name ≡ limit_of (drop l.group-index l.groups) l.name
