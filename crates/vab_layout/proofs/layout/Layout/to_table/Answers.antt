use Rattle.std.proofs.Common.{◌≡◌, List, [], ◌∷◌, length, sym, ap, subst, ◌∙◌, arith}
use Rattle.std.specs.List.{flat_map}
use Rattle.vab_tables.specs.declared.entries.Partition.{Partition}
use Rattle.vab_tables.specs.declared.entries.Extent.{Extent}
use Rattle.vab_tables.specs.declared.entries.Group.{Group}
use Rattle.vab_tables.specs.declared.entries.BlockDevice.{BlockDevice}
use Rattle.vab_tables.specs.declared.table.Table.{Table}
use Rattle.vab_tables.specs.Rules.{KeepsRules}
use Rattle.vab_layout.specs.declared.layout.Part.{Part}
use Rattle.vab_layout.specs.declared.layout.Layout.{Layout}
use Rattle.vab_layout.specs.Layout.{extents_of_part, layout_of, partitions_from, runs_in, table_of}
use Rattle.vab_layout.specs.Layout.{RunsFit}
use Rattle.vab_layout.proofs.LayoutLaws.{layout_again, layout_fits, table_keeps, table_size_is}
use Rattle.std.specs.Prelude.{All}
use Rattle.vab_layout.proofs.layout.Layout.to_table.Goals as goal

pub partitions-requires-clause-groups : goal.partitions-requires-clause-groups
partitions-requires-clause-groups c =
    omega (arith, ap length c.as_slice.ensures, table_size_is c.args.self.now, c.requires.small)

pub partitions-requires-clause-runs : goal.partitions-requires-clause-runs
partitions-requires-clause-runs c =
    omega (arith, ap runs_in c.as_slice-2.ensures, table_size_is c.args.self.now, c.requires.small)

pub extents-requires : goal.extents-requires
extents-requires c =
    let l = c.args.self.now in
    subst (λ (ps : List Part). All (λ p. RunsFit l.device.first_logical_sector p.blocks) ps)
    (sym c.as_slice-3.ensures) (layout_fits l c.requires.rules)

made : (l : Layout) (ps : List Partition) (es : List Extent) (gs : List Group)
    (ds : List BlockDevice) → ps ≡ partitions_from 0 l.groups l.parts
    → es ≡ flat_map (extents_of_part l.device.first_logical_sector) l.parts → gs ≡ l.groups
    → ds ≡ l.device ∷ []
    → record {
      partitions = ps;
      extents = es;
      groups = gs;
      devices = ds;
      minor = 2;
      flags =
          l.flags;
    } ≡ table_of l
unfolding table_of
made l ps es gs ds p e g d =
    let make : List Partition → List Extent → List Group → List BlockDevice
    → Table =
    λ ps es gs ds. record {
      partitions = ps;
      extents = es;
      groups = gs;
      devices = ds;
      minor =
          2;
      flags = l.flags;
    } in
    ap (λ (x : List Partition). make x es gs ds) p
    ∙ ap (λ (x : List Extent). make (table_of l).partitions x gs ds) e
    ∙ ap (λ (x : List Group). make (table_of l).partitions (table_of l).extents x ds) g
    ∙ ap (make (table_of l).partitions (table_of l).extents l.groups) d

pub returns-clause-value : goal.returns-clause-value
returns-clause-value c =
    let l = c.args.self.now in
    made l c.from_vec.result c.from_vec-2.result c.from_vec-3.result c.from_vec-4.result
    (c.from_vec.ensures ∙ c.in_ok-partitions.ensures
    ∙ ap (λ (gs : List Group). partitions_from 0 gs c.as_slice-2.result.now) c.as_slice.ensures
    ∙ ap (partitions_from 0 l.groups) c.as_slice-2.ensures)
    (c.from_vec-2.ensures ∙ c.in_ok-extents.ensures
    ∙ ap (flat_map (extents_of_part l.device.first_logical_sector)) c.as_slice-3.ensures)
    (c.from_vec-3.ensures ∙ c.in_ok-groups.ensures.items ∙ c.as_slice-4.ensures)
    (c.from_vec-4.ensures ∙ c.in_ok-devices.ensures.items)

pub returns-clause-keeps : goal.returns-clause-keeps
returns-clause-keeps c =
    subst KeepsRules (sym (returns-clause-value c))
    (table_keeps c.args.self.now c.requires.rules c.requires.small)

pub returns-clause-again : goal.returns-clause-again
returns-clause-again c = ap layout_of (returns-clause-value c)
    ∙ layout_again c.args.self.now c.requires.rules
