-- The blocks of the store stand behind the copies of the tables, and are none of a partition.
use Rattle.std.proofs.Common.{◌≢◌, inl, inr, ℕ, ◌+◌, ◌-◌, ◌*◌, ◌≤◌, ◌<◌, List, [], ◌∷◌}
use Rattle.std.proofs.Common.{get_or, arith}
use Rattle.std.specs.Prelude.{map, All, AllPairs, Contains}
use Rattle.std.proofs.lemmas.Bool.{cases_lt}
use Rattle.std.proofs.lemmas.List.Elements.{All-head, All-tail}
use Rattle.vab_blocks.proofs.Contained.{in_map}
use Rattle.vab_builder.proofs.Counting.{Apart}
use Rattle.vab_geometry.specs.declared.geometry.Geometry.{Geometry}
use Rattle.vab_geometry.specs.Geometry.{IsGeometry}
use Rattle.vab_layout.specs.declared.layout.Part.{Part as PartOfLayout}
use Rattle.vab_lpstore.proofs.StoreLaws.{copies_apart}
use Rattle.vab_store.specs.Layout.{IsApart}
use Rattle.vab_device.specs.declared.device.Part.{Part}
use Rattle.vab_device.specs.Kept.{block_sector, sectors_of, part_on, copies_end}
use Rattle.vab_device.specs.Reading.{IsOfBlocks, IsOfParts, IsOfTables}
use Rattle.vab_device.proofs.PartBlocks.{sector_at, sectors_apart, sectors_long}
use Rattle.vab_device.proofs.RepairLaws.{ends_within}

-- no block of the one stands in the other
abbrev pub NoneIn : List ℕ → List ℕ → Type 0
NoneIn xs ys = (s : ℕ) → Contains xs s → Contains ys s → ⊥

placed : (at : ℕ) (blocks : List ℕ) (b : ℕ)
    → Contains blocks b
    → Contains (sectors_of at blocks) (block_sector at b)
unfolding sectors_of
placed at blocks b there = in_map (block_sector at) blocks b there

pub none_apart : (at : ℕ) (xs ys : List ℕ)
    → NoneIn (sectors_of at xs) (sectors_of at ys)
    → Apart xs ys
none_apart at xs ys none b in_xs in_ys =
    none (block_sector at b) (placed at xs b in_xs) (placed at ys b in_ys)

-- blocks of which none stands twice have no sector in common
pub once_apart : (at : ℕ) (blocks : List ℕ)
    → AllPairs (λ a b. a ≢ b) (sectors_of at blocks)
    → IsApart (sectors_of at blocks)
once_apart at blocks once i j order below =
    let long = sectors_long at blocks in
    let a = sector_at at blocks i (omega (arith, order, below, long)) in
    let b = sector_at at blocks j (omega (arith, below, long)) in
    let differ : get_or (sectors_of at blocks) i 0 ≢ get_or (sectors_of at blocks) j 0 =
    once i j 0 order below in
    elim (cases_lt (get_or blocks i 0) (get_or blocks j 0)) [
      | inl lt ↦ inl (omega (arith, a, b, lt))
      | inr ge ↦ inr (omega (arith, a, b, ge, differ))
    ]

-- no sector of a partition is one of the store
pub parts_miss : (at : ℕ) (own : List PartOfLayout) (store : List ℕ) (s : ℕ)
    → All (λ (q : Part). NoneIn q.map (sectors_of at store)) (map (part_on at) own)
    → IsOfParts (map (part_on at) own) s
    → IsOfBlocks (sectors_of at store) s
    → ⊥
parts_miss at [] store s apart is here = is
parts_miss at (p ∷ ps) store s apart (inl is) here =
    sectors_apart at p.blocks store s
    (none_apart at p.blocks store
    (All-head (λ (q : Part). NoneIn q.map (sectors_of at store)) (part_on at p)
    (map (part_on at) ps) apart))
    is here
parts_miss at (p ∷ ps) store s apart (inr is) here =
    parts_miss at ps store s
    (All-tail (λ (q : Part). NoneIn q.map (sectors_of at store)) (part_on at p)
    (map (part_on at) ps) apart)
    is here

-- a sector of a copy of a slot's table
pub copies_within : (g : Geometry) (slot s : ℕ)
    → IsGeometry g
    → slot < 2
    → IsOfTables g (slot ∷ []) s
    → 512 * (s + 1 - 4096) ≤ copies_end g
copies_within g slot s is below (inl primary) =
    omega (
      arith,
      primary.below,
      copies_apart g slot (omega (arith, is.two, below)),
      ends_within g slot is below,
    )
copies_within g slot s is below (inr (inl backup)) =
    omega (arith, backup.below, ends_within g slot is below)
copies_within g slot s is below (inr (inr none)) = absurd none
