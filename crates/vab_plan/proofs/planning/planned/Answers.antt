use Rattle.std.proofs.Common.{◌≡◌, ◌∙◌, ℕ, List, get_or, ap, sym}
use Rattle.vab_names.proofs.NameLaws.{of_slot_long}
use Rattle.vab_tables.specs.declared.entries.Group.{Group}
use Rattle.vab_layout.specs.Layout.{part_of}
use Rattle.vab_layout.proofs.LayoutLaws.{group_at_is}
use Rattle.vab_layout.specs.Layout.{blocks_of_partition, group_at}
use Rattle.vab_layout.specs.Slots.{is_updated}
use Rattle.vab_device.specs.Kept.{sectors_of}
use Rattle.vab_device.specs.Phases.{planned_image}
use Rattle.vab_plan.proofs.PartLaws.{layout_first}
use Rattle.vab_plan.proofs.PlanLaws.{short_name}
use Rattle.vab_plan.proofs.planning.planned.Goals as goal

pub store_map-requires-clause-short : goal.store_map-requires-clause-short
store_map-requires-clause-short c =
    short_name c.args.slot c.args.partition.now.name c.requires.part.base

pub base-requires-clause-long : goal.base-requires-clause-long
base-requires-clause-long c = of_slot_long c.args.slot c.args.partition.now.name c.requires.own

pub returns-clause-entry : goal.returns-clause-entry
returns-clause-entry c =
    let t = c.args.table.now in
    let p = c.args.partition.now in
    let group : (get_or c.as_slice.result.now p.group c.index-as_slice-partition.result).name
    ≡ group_at t.groups p.group =
    ap (λ (l : List Group). (get_or l p.group c.index-as_slice-partition.result).name)
    c.as_slice.ensures
    ∙ sym (group_at_is t.groups p.group c.index-as_slice-partition.result
    c.requires.rules.group_exists)
    in
    let map = c.in_ok-map.ensures.blocks
    ∙ ap (λ (n : ℕ). sectors_of n (blocks_of_partition t p)) (sym (layout_first t)) in
    let image = c.image.ensures
    ∙ ap (planned_image (is_updated (part_of t p))) c.take-scan.ensures.found in
    (λ i. record {
      name = c.base.ensures i;
      group = group i;
      map = map i;
      store = c.in_ok-store.ensures.store i;
      image = image i;
    })
