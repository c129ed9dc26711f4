use Rattle.std.proofs.Common.{◌≡◌, ◌∙◌, length, Some, None, sym, ap, arith}
use Rattle.vab_names.specs.Names.{base_of}
use Rattle.vab_layout.specs.Layout.{layout_of}
use Rattle.vab_device.specs.Kept.{part_named, part_on, parts_of}
use Rattle.vab_overlaying.proofs.StoredLaws.{stored_long, stored_part}
use Rattle.vab_overlaying.proofs.prepared.part_of.Goals as goal

pub base_of-requires : goal.base_of-requires
base_of-requires c =
    omega (
      arith,
      stored_long c.args.slot c.args.name.now c.args.table.now c.requires.over,
      ap length c.text.ensures.value,
    )

pub unreachable-requires : goal.unreachable-requires
unreachable-requires c =
    let s = c.requires.over in
    let parts : c.as_slice.result.now ≡ parts_of c.args.slot (layout_of c.args.table.now) =
    c.as_slice.ensures.value ∙ c.into_vec-parts.ensures ∙ c.in-Ok.ensures.parts in
    let base : c.base_of.result.now ≡ base_of c.args.name.now =
    c.base_of.ensures ∙ ap base_of c.text.ensures.value in
    let there : None ≡ Some
    (part_on (layout_of c.args.table.now).device.first_logical_sector s.stored.over.part) =
    sym c.in-None.ensures.none
    ∙ (λ i. part_named (base i) (parts i))
    ∙ stored_part c.args.slot c.args.name.now c.args.table.now s in
    cc
