use Rattle.std.proofs.Common.{◌≡◌, List, [], ◌∷◌, get_or, map, sym, ap, subst, ◌∙◌}
use Rattle.vab_tables.specs.declared.entries.Group.{Group}
use Rattle.vab_tables.specs.declared.entries.BlockDevice.{BlockDevice}
use Rattle.vab_tables.specs.declared.table.Table.{Table}
use Rattle.vab_layout.specs.declared.layout.Part.{Part}
use Rattle.vab_layout.specs.declared.layout.Layout.{Layout}
use Rattle.vab_layout.specs.Layout.{part_of, first_device, layout_of}
use Rattle.vab_layout.proofs.LayoutLaws.{layout_keeps}
use Rattle.vab_layout.specs.Rules.{IsLayout}
use Rattle.vab_layout.proofs.layout.Layout.of_table.Goals as goal

first : (ds : List BlockDevice) (one d : BlockDevice) → ds ≡ one ∷ [] → d ≡ get_or ds 0 d
    → d ≡ first_device ds
first ds one d e at = at ∙ ap (λ (l : List BlockDevice). get_or l 0 d) e ∙ ap first_device (sym e)

made : (t : Table) (parts : List Part) (groups : List Group) (d : BlockDevice)
    → parts ≡ map (part_of t) t.partitions → groups ≡ t.groups → d ≡ first_device t.devices
    → record { parts = parts; groups = groups; device = d; flags = t.flags } ≡ layout_of t
unfolding layout_of
made t parts groups d p g e =
    let make : List Part → List Group → BlockDevice
    → Layout =
    λ parts groups d. record { parts = parts; groups = groups; device = d; flags = t.flags } in
    ap (λ (x : List Part). make x groups d) p
    ∙ ap (λ (x : List Group). make (map (part_of t) t.partitions) x d) g
    ∙ ap (make (map (part_of t) t.partitions) t.groups) e

pub returns-clause-value : goal.returns-clause-value
returns-clause-value c =
    let t = c.args.table.now in
    let d = c.index-as_slice-0.result in
    let at = rw c.as_slice-2.ensures at c.index-as_slice-0.is in
    made t c.from_vec.result c.from_vec-2.result d (c.from_vec.ensures
    ∙ c.in_ok-parts.ensures) (c.from_vec-2.ensures ∙ c.in_ok-groups.ensures.items
    ∙ c.as_slice.ensures) (first t.devices c.requires.device d c.requires.one_device at)

pub returns-clause-rules : goal.returns-clause-rules
returns-clause-rules c =
    subst IsLayout (sym (returns-clause-value c)) (layout_keeps c.args.table.now c.requires)
