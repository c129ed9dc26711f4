use Rattle.std.proofs.Common.{◌≡◌, drop}
use Rattle.vab_layout.specs.Plain.{own_groups}
use Rattle.vab_builder.proofs.groups.first_group.Given as goal

abbrev pub invariant-loop-group : goal.invariant-loop-group
invariant-loop-group l =
    own_groups l.slot l.groups ≡ own_groups l.slot (drop l.group-index l.groups)
