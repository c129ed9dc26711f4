use Rattle.std.proofs.Common.{◌≡◌, Some, List, ℕ, subst}
use Rattle.vab_layout.specs.Layout.{layout_of, part_of}
use Rattle.vab_device.specs.Stores.{first_named}
use Rattle.vab_plan.proofs.PlanLaws.{store_small, store_is}
use Rattle.vab_plan.proofs.planning.store_map.Goals as goal

pub map-requires-clause-small : goal.map-requires-clause-small
map-requires-clause-small c =
    let t = c.args.table.now in
    store_small c.args.slot t c.args.name.now c.in-Some.store.now c.requires.target c.requires.own
    (subst
    (λ (n : List ℕ). first_named n (layout_of t).parts ≡ Some (part_of t c.in-Some.store.now))
    c.store_of.ensures c.in-Some.ensures.some)

pub returns-in-Ok-clause-store : goal.returns-in-Ok-clause-store
returns-in-Ok-clause-store c =
    let t = c.args.table.now in
    store_is t c.args.name.now c.in-Ok.map c.in-Some.store.now
    (subst
    (λ (n : List ℕ). first_named n (layout_of t).parts ≡ Some (part_of t c.in-Some.store.now))
    c.store_of.ensures c.in-Some.ensures.some)
    c.in-Ok.ensures.blocks
