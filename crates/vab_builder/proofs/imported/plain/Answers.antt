use Rattle.std.proofs.Common.{List, sym, ap, subst}
use Rattle.vab_layout.specs.declared.layout.Part.{Part}
use Rattle.vab_layout.specs.declared.layout.Layout.{Layout}
use Rattle.vab_layout.specs.Rules.{IsLayout}
use Rattle.vab_layout.specs.Slots.{IsOwn}
use Rattle.vab_layout.specs.Plain.{plain}
use Rattle.vab_builder.proofs.ImportLaws.{plain_is_layout, plain_is_own}
use Rattle.vab_builder.proofs.imported.plain.Goals as goal

pub returns-clause-value : goal.returns-clause-value
unfolding plain
returns-clause-value c =
    let parts = c.from_vec.ensures in
    let parts_are = c.in_ok-parts.ensures in
    let read = c.as_slice.ensures in
    let groups = c.from_vec-2.ensures in
    let groups_are = c.in_ok-groups.ensures in
    let groups_read = c.as_slice-2.ensures in
    cc (parts, parts_are, read, groups, groups_are, groups_read)

pub returns-clause-rules : goal.returns-clause-rules
returns-clause-rules c =
    subst IsLayout (sym (returns-clause-value c))
    (plain_is_layout c.args.slot c.args.layout.now c.requires.rules c.requires.own)

pub returns-clause-own : goal.returns-clause-own
returns-clause-own c =
    let slot = c.args.slot in
    let is = ap (λ (l : Layout). l.parts) (returns-clause-value c) in
    subst (λ (ps : List Part). IsOwn slot ps) (sym is)
    (plain_is_own slot c.args.layout.now c.requires.own)
