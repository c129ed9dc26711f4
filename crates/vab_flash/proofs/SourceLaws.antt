-- The source's partition beside the planned one and its store.
use Rattle.std.proofs.Common.{◌≡◌, ◌≢◌, ◌∙◌, inl, inr, ℕ, ◌≤◌, ◌<◌, true}
use Rattle.std.proofs.Common.{false, List, [], ◌∷◌, ◌++◌, length, get_or, take, refl, sym, ap}
use Rattle.std.proofs.Common.{arith}
use Rattle.std.specs.Prelude.{None, map, Contains, AllPairs, nat_lt}
use Rattle.std.specs.Str.{bytes_eq}
use Rattle.std.proofs.lemmas.Bool.{cases_Bool, cases_lt, ltb-true}
use Rattle.std.proofs.lemmas.List.{get_or-take, get_or_default}
use Rattle.vab_disk.specs.Disk.{Image}
use Rattle.vab_names.specs.Names.{is_of_slot, base_of, in_slot, suffix_of}
use Rattle.vab_names.proofs.NameLaws.{of_slot, base_of-append}
use Rattle.vab_exceptions.specs.declared.area.Exception.{Exception}
use Rattle.vab_space.specs.declared.Chunk.{Chunk}
use Rattle.vab_space.specs.Chunks.{chunk_at}
use Rattle.vab_space.proofs.DifferingLaws.{differing_has}
use Rattle.vab_store.specs.Layout.{IsApart}
use Rattle.vab_store.specs.View.{view_of, stored_at, exception_at}
use Rattle.vab_store.specs.Writing.{planned_of, planned_at}
use Rattle.vab_store.proofs.ViewLaws.{view_out}
use Rattle.vab_store.proofs.WrittenLaws.{planned_of-at}
use Rattle.vab_install.specs.Differing.{differs_at, differing_of}
use Rattle.vab_exceptions.proofs.EntryLaws.{length-firsts}
use Rattle.vab_layout.specs.declared.layout.Part.{Part as PartOfLayout}
use Rattle.vab_layout.specs.Slots.{own_parts, blocks_named}
use Rattle.vab_builder.proofs.Counting.{Apart}
use Rattle.vab_blocks.proofs.Contained.{first as first_of, later}
use Rattle.vab_names.proofs.NameCases.{same_name, ne_name, eq_name, other_name, in_slot_is}
use Rattle.vab_device.specs.Kept.{block_sector, sectors_of, part_on}
use Rattle.vab_flash.specs.Chosen.{blocks_or, part_named}
use Rattle.vab_flash.proofs.FilledLaws.{no_chunk}
use Rattle.vab_device.proofs.PartBlocks.{sector_at, sectors_long}

-- ---- where blocks stand

-- blocks of which none stands twice have no sector in common
pub sectors_once : (at : ℕ) (blocks : List ℕ)
    → AllPairs (λ a b. a ≢ b) (sectors_of at blocks)
    → IsApart (sectors_of at blocks)
sectors_once at blocks once i j order below =
    let long = sectors_long at blocks in
    let a = sector_at at blocks i (omega (arith, order, below, long)) in
    let b = sector_at at blocks j (omega (arith, below, long)) in
    let differ : get_or (sectors_of at blocks) i 0 ≢ get_or (sectors_of at blocks) j 0 =
    once i j 0 order below in
    elim (cases_lt (get_or blocks i 0) (get_or blocks j 0)) [
      | inl lt ↦ inl (omega (arith, a, b, lt))
      | inr ge ↦ inr (omega (arith, a, b, ge, differ))
    ]

-- ---- the source's partition of a base name

pub full_or : (slot : ℕ) (name : List ℕ) (p : PartOfLayout)
    → is_of_slot slot p.name ≡ true
    → bytes_eq (base_of p.name) (base_of name) ≡ bytes_eq p.name (in_slot slot name)
unfolding in_slot
full_or slot name p of = elim (cases_Bool (bytes_eq (base_of p.name) (base_of name))) [
  | inl same ↦
      let base : base_of p.name ≡ base_of name = same_name (base_of p.name) (base_of name) same in
      same
      ∙ sym (eq_name p.name (in_slot slot name)
      (of_slot slot p.name of ∙ ap (λ (b : List ℕ). b ++ suffix_of slot) base))
  | inr other ↦
      other
      ∙ sym (ne_name p.name (in_slot slot name)
      (λ e.
      other_name (base_of p.name) (base_of name) other
      (ap base_of e ∙ base_of-append slot (base_of name))))
]

no_sectors : (at : ℕ) → sectors_of at [] ≡ []
unfolding sectors_of
no_sectors at = refl

-- its blocks are those of the table's partition of the whole name
pub source_blocks : (at slot : ℕ) (name : List ℕ) (ps : List PartOfLayout)
    → blocks_or (part_named (base_of name) (map (part_on at) (own_parts slot ps)))
    ≡ sectors_of at (blocks_named (in_slot slot name) ps)
source_blocks at slot name [] = sym (no_sectors at)
source_blocks at slot name (p ∷ ps) = elim (cases_Bool (is_of_slot slot p.name)) [
  | inl of ↦
      let tests = full_or slot name p of in
      elim (cases_Bool (bytes_eq p.name (in_slot slot name))) [
        | inl here ↦ let base = tests ∙ here in rw of (rw (base, here) refl)
        | inr other ↦
            let base = tests ∙ other in rw of (rw (base, other) (source_blocks at slot name ps))
      ]
  | inr not_own ↦
      let other : bytes_eq p.name (in_slot slot name) ≡ false =
      ne_name p.name (in_slot slot name)
      (λ e.
      let of : is_of_slot slot p.name ≡ true = ap (is_of_slot slot) e ∙ in_slot_is slot name in
      absurd (let bad : false ≡ true = sym not_own ∙ of in cc)) in
      rw (not_own, other) (source_blocks at slot name ps)
]

-- they are blocks of one of the slot's own partitions
pub source_apart : (slot : ℕ) (name : List ℕ) (ps : List PartOfLayout) (ys : List ℕ)
    → ((p : PartOfLayout) → Contains (own_parts slot ps) p → Apart p.blocks ys)
    → Apart (blocks_named (in_slot slot name) ps) ys
source_apart slot name [] ys each = λ b in_none in_ys. absurd (omega (arith, in_none.1))
source_apart slot name (p ∷ ps) ys each = elim (cases_Bool (bytes_eq p.name (in_slot slot name))) [
  | inl here ↦
      let of : is_of_slot slot p.name ≡ true =
      ap (is_of_slot slot) (same_name p.name (in_slot slot name) here) ∙ in_slot_is slot name in
      let there : Contains (own_parts slot (p ∷ ps)) p = rw of (first_of p (own_parts slot ps)) in
      rw here (each p there)
  | inr other ↦
      rw other (source_apart slot name ps ys
      (λ q c. each q (own_later slot p ps q c)))
]
  where
    own_later : (slot : ℕ) (p : PartOfLayout) (ps : List PartOfLayout) (q : PartOfLayout)
        → Contains (own_parts slot ps) q
        → Contains (own_parts slot (p ∷ ps)) q
    own_later slot p ps q c = elim (cases_Bool (is_of_slot slot p.name)) [
      | inl of ↦ rw of (later p (own_parts slot ps) q c)
      | inr other ↦ rw other c
    ]

-- ---- a partition that begins with these blocks

pub begins_same : (at : ℕ) (own base : List ℕ)
    → take (length base) own ≡ take (length own) base
    → (i : ℕ)
    → i < length (sectors_of at own)
    → i < length (sectors_of at base)
    → get_or (sectors_of at own) i 0 ≡ get_or (sectors_of at base) i 0
begins_same at own base same i in_own in_base =
    let own_below : i < length own = omega (arith, in_own, sectors_long at own) in
    let base_below : i < length base = omega (arith, in_base, sectors_long at base) in
    let one : get_or own i 0 ≡ get_or base i 0 =
    sym (get_or-take (length base) own i 0 base_below)
    ∙ ap (λ (l : List ℕ). get_or l i 0) same
    ∙ get_or-take (length own) base i 0 own_below in
    sector_at at own i own_below ∙ ap (block_sector at) one ∙ sym (sector_at at base i base_below)

-- behind the end of the source's partition the chunk of each block has an exception
pub behind_end : (chunk : Chunk) (base staged : List ℕ) (image : Image) (blocks i : ℕ)
    → i < blocks
    → length base ≤ i
    → stored_at chunk (planned_of chunk (differing_of chunk base image staged blocks)) i ≡ None
    → ⊥
behind_end chunk base staged image blocks i below past none =
    let olds : List ℕ = differing_of chunk base image staged blocks in
    let es : List Exception = planned_of chunk olds in
    let differs : differs_at base image staged i ≡ true =
    elim (cases_Bool (nat_lt i (length base))) [
      | inl inside ↦ absurd (omega (arith, ltb-true i (length base) inside, past))
      | inr past ↦ rw past refl
    ] in
    let has : Contains olds (chunk_at chunk i) =
    differing_has chunk (differs_at base image staged) blocks i below differs in
    let is : exception_at es has.0 ≡ planned_at chunk olds has.0 =
    planned_of-at chunk olds has.0 has.1 in
    view_out es (chunk_at chunk i)
    (no_chunk chunk es i (view_of es (chunk_at chunk i)) refl none) has.0
    (omega (arith, has.1, length-firsts (planned_at chunk olds) (length olds)))
    (ap (λ (e : Exception). e.old_chunk) is
    ∙ get_or_default olds has.0 0 (chunk_at chunk i) has.1
    ∙ has.2)
