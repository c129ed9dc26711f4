use Rattle.std.proofs.Common.{◌≡◌, drop}
use Rattle.vab_model.specs.Plans.{limit_named}
use Rattle.vab_machine.proofs.count.limit_named.Given as goal

abbrev pub invariant-loop-group : goal.invariant-loop-group
invariant-loop-group l =
    limit_named l.name (drop l.group-index l.groups) ≡ limit_named l.name l.groups
