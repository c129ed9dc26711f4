use Rattle.std.proofs.Common.{◌≤◌, List, length, sym, subst, ◌∙◌}
use Rattle.std.specs.Prelude.{All}
use Rattle.vab_tables.specs.declared.entries.Group.{Group}
use Rattle.vab_builder.proofs.ImportLaws.{slot_groups_long}
use Rattle.vab_builder.proofs.imported.imported_groups.Goals as goal

pub twin_groups-requires-clause-long : goal.twin_groups-requires-clause-long
twin_groups-requires-clause-long c =
    let is = c.as_slice.ensures.value ∙ c.in_ok-own.ensures in
    subst (λ (gs : List Group). All (λ g. 2 ≤ length g.name) gs) (sym is)
    (slot_groups_long c.args.source c.args.groups.now)
