-- The sectors of the blocks of partitions.
use Rattle.std.proofs.Common.{◌≡◌, ◌≢◌, inl, inr, ℕ, ◌+◌, ◌≤◌, ◌<◌, List}
use Rattle.std.proofs.Common.{[], ◌∷◌, length, get_or, sym, subst, arith}
use Rattle.std.specs.Prelude.{map, Contains}
use Rattle.std.proofs.lemmas.Bool.{cases_lt}
use Rattle.std.proofs.lemmas.List.{get_or-map, length-map}
use Rattle.std.proofs.lemmas.List.Elements.{Contains-get_or}
use Rattle.vab_disk.specs.Calls.{IsBetween}
use Rattle.vab_store.specs.Layout.{AreDisjoint}
use Rattle.vab_builder.proofs.Counting.{Apart}
use Rattle.vab_blocks.proofs.Contained.{first, later}
use Rattle.vab_device.specs.Kept.{block_sector, sectors_of}
use Rattle.vab_device.specs.Reading.{IsOfBlocks}

-- a sector of one of these blocks
pub record OfBlock (first : ℕ) (blocks : List ℕ) (s : ℕ) : Type 0 where
  pub block : ℕ
  pub there : Contains blocks block
  pub here : IsBetween (block_sector first block) (block_sector first block + 8) s

mapped_block : (at : ℕ) (blocks : List ℕ) (s : ℕ)
    → IsOfBlocks (map (block_sector at) blocks) s
    → OfBlock at blocks s
mapped_block at [] s is = absurd is
mapped_block at (b ∷ bs) s (inl is) = record { block = b; there = first b bs; here = is }
mapped_block at (b ∷ bs) s (inr is) =
    let rest : OfBlock at bs s = mapped_block at bs s is in
    record { block = rest.block; there = later b bs rest.block rest.there; here = rest.here }

pub of_block : (at : ℕ) (blocks : List ℕ) (s : ℕ)
    → IsOfBlocks (sectors_of at blocks) s
    → OfBlock at blocks s
unfolding sectors_of
of_block at blocks s is = mapped_block at blocks s is

-- it stands behind the first logical sector
pub block_behind : (at : ℕ) (blocks : List ℕ) (s : ℕ)
    → IsOfBlocks (sectors_of at blocks) s
    → 4096 + at ≤ s
block_behind at blocks s is =
    let o : OfBlock at blocks s = of_block at blocks s is in omega (arith, o.here.from)

-- blocks that have no block in common have no sector in common
pub sectors_apart : (at : ℕ) (xs ys : List ℕ) (s : ℕ)
    → Apart xs ys
    → IsOfBlocks (sectors_of at xs) s
    → IsOfBlocks (sectors_of at ys) s
    → ⊥
sectors_apart at xs ys s apart in_xs in_ys =
    let x : OfBlock at xs s = of_block at xs s in_xs in
    let y : OfBlock at ys s = of_block at ys s in_ys in
    let same : y.block ≡ x.block =
    omega (arith, x.here.from, x.here.below, y.here.from, y.here.below) in
    apart x.block x.there (subst (λ (b : ℕ). Contains ys b) same y.there)

pub sector_at : (at : ℕ) (blocks : List ℕ) (i : ℕ)
    → i < length blocks
    → get_or (sectors_of at blocks) i 0 ≡ block_sector at (get_or blocks i 0)
unfolding sectors_of
sector_at at blocks i below = get_or-map (block_sector at) blocks i 0 0 below

pub sectors_long : (at : ℕ) (blocks : List ℕ) → length (sectors_of at blocks) ≡ length blocks
unfolding sectors_of
sectors_long at blocks = length-map blocks (block_sector at)

pub sectors_disjoint : (at : ℕ) (xs ys : List ℕ)
    → Apart xs ys
    → AreDisjoint (sectors_of at xs) (sectors_of at ys)
sectors_disjoint at xs ys apart i j in_xs in_ys =
    let x_below : i < length xs = omega (arith, in_xs, sectors_long at xs) in
    let y_below : j < length ys = omega (arith, in_ys, sectors_long at ys) in
    let a = sector_at at xs i x_below in
    let b = sector_at at ys j y_below in
    let differ : get_or xs i 0 ≢ get_or ys j 0 =
    λ e.
    apart (get_or xs i 0) (Contains-get_or xs i 0 x_below)
    (subst (λ (y : ℕ). Contains ys y) (sym e) (Contains-get_or ys j 0 y_below)) in
    elim (cases_lt (get_or xs i 0) (get_or ys j 0)) [
      | inl lt ↦ inl (omega (arith, a, b, lt))
      | inr ge ↦ inr (omega (arith, a, b, ge, differ))
    ]
