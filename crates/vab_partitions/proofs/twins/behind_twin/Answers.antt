use Rattle.std.proofs.Common.{◌-◌, ap, ◌∙◌}
use Rattle.vab_names.specs.Names.{is_of_slot}
use Rattle.vab_names.proofs.NameLaws.{of_slot_long}
use Rattle.vab_tables.specs.declared.entries.Group.{Group}
use Rattle.vab_partitions.proofs.twins.behind_twin.Goals as goal

pub is_twin-requires-clause-a : goal.is_twin-requires-clause-a
is_twin-requires-clause-a c =
    let slot = 1 - c.args.slot in
    let group : Group = c.index-source-at.result in
    of_slot_long slot group.name
    (ap (λ (g : Group). is_of_slot slot g.name) c.index-source-at.is
    ∙ c.in_ok-at.ensures.own group)

pub is_twin-requires-clause-b : goal.is_twin-requires-clause-b
is_twin-requires-clause-b c =
    of_slot_long c.args.slot c.args.group.now.name c.requires.own
