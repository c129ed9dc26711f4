use Rattle.std.proofs.Common.{◌≤◌, List, length, sym, ap, subst, ◌∙◌}
use Rattle.std.specs.Prelude.{All}
use Rattle.vab_tables.specs.declared.entries.Group.{Group}
use Rattle.vab_layout.specs.declared.layout.Part.{Part}
use Rattle.vab_layout.specs.declared.layout.Layout.{Layout}
use Rattle.vab_layout.specs.Rules.{IsLayout}
use Rattle.vab_layout.specs.Slots.{other_slot, own_parts, IsTargetBeside, twins_by, groups_of_slot}
use Rattle.vab_builder.specs.Import.{imported_by}
use Rattle.vab_builder.proofs.ImportLaws.{own_parts_groups_long, imported_is_layout}
use Rattle.vab_builder.proofs.ImportLaws.{imported_is_target, imported_groups_of_slot}
use Rattle.vab_builder.proofs.imported.imported.Goals as goal

pub imported_parts-requires-clause-long : goal.imported_parts-requires-clause-long
imported_parts-requires-clause-long c =
    let source = c.args.source in
    subst (λ (ps : List Part). All (λ p. 2 ≤ length p.group) (own_parts source ps))
    (sym c.as_slice.ensures)
    (own_parts_groups_long source c.args.layout.now.parts c.requires.own)

pub returns-clause-value : goal.returns-clause-value
unfolding imported_by
returns-clause-value c =
    let parts = c.from_vec.ensures in
    let parts_are = c.in_ok-parts.ensures in
    let read = c.as_slice.ensures in
    let groups = c.from_vec-2.ensures in
    let groups_are = c.in_ok-groups.ensures in
    let groups_read = c.as_slice-2.ensures in
    cc (parts, parts_are, read, groups, groups_are, groups_read)

pub returns-clause-rules : goal.returns-clause-rules
returns-clause-rules c =
    subst IsLayout (sym (returns-clause-value c))
    (imported_is_layout c.args.apart c.args.source c.args.layout.now c.requires.slot
    c.requires.rules
    c.requires.own)

pub returns-clause-target : goal.returns-clause-target
returns-clause-target c =
    let source = c.args.source in
    let before = c.args.layout.now in
    let is = ap (λ (l : Layout). l.parts) (returns-clause-value c) in
    subst (λ (ps : List Part). IsTargetBeside (other_slot source)
    (twins_by c.args.apart before.parts)
    before.parts ps) (sym is)
    (imported_is_target c.args.apart source before c.requires.slot c.requires.rules c.requires.own)

pub returns-clause-groups : goal.returns-clause-groups
returns-clause-groups c =
    let source = c.args.source in
    let is = ap (λ (l : Layout). l.groups) (returns-clause-value c) in
    ap (λ (gs : List Group). groups_of_slot (other_slot source) gs) is
    ∙ imported_groups_of_slot c.args.apart source c.args.layout.now c.requires.slot
