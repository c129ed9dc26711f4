use Rattle.std.proofs.Common.{◌≡◌, ◌+◌, ◌-◌, ◌/◌, ◌<◌, ◌≤◌, ℕ, List, [], ◌∷◌, length, get_or, take}
use Rattle.std.proofs.Common.{drop, ap, arith, sym, ◌∙◌}
use Rattle.std.specs.List.{flat_map}
use Rattle.std.proofs.lemmas.Bool.{lt-leb}
use Rattle.std.proofs.lemmas.List.{append-nil, length-append, take-append-drop, take_more}
use Rattle.std.proofs.lemmas.List.FromFn.{length-range_with_len}
use Rattle.std.proofs.lemmas.Grind.{flat_map-append}
use Rattle.vab_tables.specs.declared.entries.Extent.{Extent}
use Rattle.vab_blocks.specs.Blocks.{blocks_of_extent}
use Rattle.vab_partitions.proofs.extents.is_small.Goals as goal

abbrev none : Extent
none = record { sectors = 0; target_type = 0; first_sector = 0; target_source = 0 }

abbrev all : ℕ → List Extent → List ℕ
all first es = flat_map (blocks_of_extent first) es

length_more : (first : ℕ) (es : List Extent) (i : ℕ) (d : Extent)
    → i < length es
    → length (all first (take (i + 1) es))
    ≡ length (all first (take i es)) + (get_or es i d).sectors / 8
length_more first es i d lt =
    let e : Extent = get_or es i d in
    let f : Extent → List ℕ = blocks_of_extent first in
    let split = ap (all first) (take_more es i d lt) ∙ flat_map-append f (take i es) (e ∷ []) in
    omega (
      arith,
      ap length split,
      length-append (all first (take i es)) (all first (e ∷ [])),
      ap length (append-nil (f e)),
      length-range_with_len ((e.first_sector - first) / 8) (e.sectors / 8),
    )

length_front : (first n : ℕ) (es : List Extent)
    → length (all first (take n es)) ≤ length (all first es)
length_front first n es =
    let f : Extent → List ℕ = blocks_of_extent first in
    let whole =
    ap (all first) (sym (take-append-drop n es)) ∙ flat_map-append f (take n es) (drop n es) in
    omega (
      arith,
      ap length whole,
      length-append (all first (take n es)) (all first (drop n es)),
    )

pub returns-then-more-blocks : goal.returns-then-more-blocks
returns-then-more-blocks c =
    let es = c.args.extents.now in
    let i = c.loop-extent.extent-index in
    let lt : i < length es = omega arith in
    let more = length_more c.args.first_sector es i none lt in
    let front = length_front c.args.first_sector (i + 1) es in
    sym (lt-leb _ _ (omega (arith, more, front, c.loop-extent.invariant, c.if-more-blocks.true)))

pub loop-extent-preserved : goal.loop-extent-preserved
loop-extent-preserved c =
    let es = c.args.extents.now in
    let i = c.loop-extent.extent-index in
    let lt : i < length es = omega arith in
    let more = length_more c.args.first_sector es i none lt in (
      omega (arith, more, c.loop-extent.invariant),
      omega (arith, c.loop-extent.invariant, c.if-more-blocks.false),
    )
