use Rattle.std.proofs.Common.{◌∙◌, arith}
use Rattle.vab_merging.proofs.PlaceLaws.{store_long, place_is}
use Rattle.vab_merging.proofs.next.place_of.Goals as goal

pub slice_bounds-place_named-count : goal.slice_bounds-place_named-count
slice_bounds-place_named-count c =
    omega (arith, store_long c.args.slot c.args.store.now c.requires.store)

pub returns : goal.returns
returns c =
    c.place_named.ensures ∙ place_is c.args.slot c.args.parts.now c.args.store.now c.requires.store
