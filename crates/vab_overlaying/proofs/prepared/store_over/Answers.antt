use Rattle.std.proofs.Common.{◌≡◌, ◌∙◌, List, ℕ, Some, None, sym, ap, subst}
use Rattle.vab_layout.specs.Layout.{layout_of, part_of}
use Rattle.vab_builder.specs.Overlay.{overlay_part}
use Rattle.vab_device.specs.Stores.{first_named}
use Rattle.vab_overlaying.proofs.StoredLaws.{stored_short, stored_over, stored_few, store_stands}
use Rattle.vab_overlaying.proofs.prepared.store_over.Goals as goal

pub store_of-requires : goal.store_of-requires
store_of-requires c =
    stored_short c.args.slot c.args.name.now c.args.table.now c.requires.over

pub unreachable-requires : goal.unreachable-requires
unreachable-requires c =
    let s = c.requires.over in
    let there : None ≡ Some
    (overlay_part c.args.slot (layout_of s.table) c.args.name.now s.count) =
    sym c.in-None.ensures.none
    ∙ ap (λ (n : List ℕ). first_named n (layout_of c.args.table.now).parts) c.store_of.ensures
    ∙ stored_over c.args.slot c.args.name.now c.args.table.now s in
    cc

pub map-requires-clause-small : goal.map-requires-clause-small
map-requires-clause-small c =
    stored_few c.args.slot c.args.name.now c.args.table.now c.requires.over c.in-Some.store.now
    (subst
    (λ (n : List ℕ).
    first_named n (layout_of c.args.table.now).parts
    ≡ Some (part_of c.args.table.now c.in-Some.store.now))
    c.store_of.ensures c.in-Some.ensures.some)

pub returns-in-Ok-clause-store : goal.returns-in-Ok-clause-store
returns-in-Ok-clause-store c = (
  part_of c.args.table.now c.in-Some.store.now,
  subst
      (λ (n : List ℕ).
      first_named n (layout_of c.args.table.now).parts
      ≡ Some (part_of c.args.table.now c.in-Some.store.now))
      c.store_of.ensures c.in-Some.ensures.some,
  store_stands c.args.table.now c.in-Some.store.now c.in-Ok.map c.in-Ok.ensures.blocks,
)
