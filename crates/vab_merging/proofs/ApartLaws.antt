-- The blocks of a partition and of its store are no blocks of any other.
use Rattle.std.proofs.Common.{◌≡◌, ◌≢◌, ◌⊎◌, ◌∙◌, inl, inr, ℕ, ◌+◌, ◌≤◌, true, List}
use Rattle.std.proofs.Common.{◌++◌, get_or, sym, ap, arith}
use Rattle.std.specs.Prelude.{Some, Contains}
use Rattle.std.proofs.lemmas.Bool.{cases_lt}
use Rattle.std.proofs.lemmas.List.Elements.{All-contains, Contains-append_left}
use Rattle.std.proofs.lemmas.List.Elements.{Contains-append_right}
use Rattle.vab_names.specs.Names.{is_of_slot, is_store, store_of}
use Rattle.vab_store.specs.Layout.{IsApart}
use Rattle.vab_layout.specs.declared.layout.Part.{Part as PartOfLayout}
use Rattle.vab_layout.specs.Slots.{own_parts, store_parts, IsDistinct}
use Rattle.vab_partitions.specs.Merging.{IsMerging}
use Rattle.vab_builder.proofs.Counting.{Apart, pieces_once}
use Rattle.vab_blocks.proofs.Contained.{of_filter, in_filter}
use Rattle.vab_builder.proofs.ChangedTarget.{apart_pair}
use Rattle.vab_names.proofs.NameCases.{own_or_store, store_is_store, store_of_same}
use Rattle.vab_device.specs.Kept.{sectors_of}
use Rattle.vab_device.specs.Reading.{IsOfBlocks}
use Rattle.vab_device.specs.Stores.{first_named}
use Rattle.vab_device.proofs.PartBlocks.{block_behind, sectors_apart, sector_at, sectors_long}
use Rattle.vab_device.proofs.NamedParts.{named_in}

-- ---- sectors and blocks

-- blocks of which none stands twice have no sector in common
pub sectors_once : (at : ℕ) (blocks : List ℕ)
    → IsDistinct blocks
    → IsApart (sectors_of at blocks)
sectors_once at blocks once i j order below =
    let long = sectors_long at blocks in
    let a = sector_at at blocks i (omega (arith, order, below, long)) in
    let b = sector_at at blocks j (omega (arith, below, long)) in
    let differ : get_or blocks i 0 ≢ get_or blocks j 0 =
    once i j 0 order (omega (arith, below, long)) in
    elim (cases_lt (get_or blocks i 0) (get_or blocks j 0)) [
      | inl lt ↦ inl (omega (arith, a, b, lt))
      | inr ge ↦ inr (omega (arith, a, b, ge, differ))
    ]

-- ---- partitions by their name

-- ---- a partition of the slot, and its store

module _ (slot : ℕ) (parts : List PartOfLayout) (part keeps : PartOfLayout)
    (is : IsMerging slot parts)
    (in_own : Contains (own_parts slot parts) part)
    (own : is_of_slot slot part.name ≡ true)
    (found : first_named (store_of part.name) parts ≡ Some keeps) where
  abbrev pub both : List PartOfLayout
  both = own_parts slot parts ++ store_parts slot parts

  -- the store of a partition of the slot
  pub store_among : (other : List ℕ) (q : PartOfLayout)
      → is_of_slot slot other ≡ true
      → first_named (store_of other) parts ≡ Some q
      → Contains both q × (is_store slot q.name ≡ true) × (q.name ≡ store_of other)
  store_among other q of h =
      let there = named_in (store_of other) parts q h in
      let store : is_store slot q.name ≡ true =
      ap (is_store slot) there.1 ∙ store_is_store slot other of in (
        Contains-append_right (own_parts slot parts) (store_parts slot parts) q
            (in_filter (λ p. is_store slot p.name) parts q there.0 store),
        store,
        there.1,
      )

  abbrev keeps_among : Contains both keeps
      × (is_store slot keeps.name ≡ true)
      × (keeps.name ≡ store_of part.name)
  keeps_among = store_among part.name keeps own found

  in_both : (p : PartOfLayout) → Contains (own_parts slot parts) p → Contains both p
  in_both p c = Contains-append_left (own_parts slot parts) (store_parts slot parts) p c

  own_other : (p q : PartOfLayout)
      → is_of_slot slot p.name ≡ true
      → is_store slot q.name ≡ true
      → p.name ≢ q.name
  own_other p q of store same =
      own_or_store slot slot p.name of (ap (is_store slot) same ∙ store)

  -- no block stands twice in them
  pub part_once : IsDistinct part.blocks
  part_once =
      All-contains (λ p. IsDistinct p.blocks) both part (pieces_once (λ p. p.blocks) both is.once)
      (in_both part in_own)

  pub keeps_once : IsDistinct keeps.blocks
  keeps_once =
      All-contains (λ p. IsDistinct p.blocks) both keeps
      (pieces_once (λ p. p.blocks) both is.once) keeps_among.0

  -- nor in both
  pub part_keeps : Apart part.blocks keeps.blocks
  part_keeps =
      apart_pair both part keeps is.once (in_both part in_own) keeps_among.0
      (own_other part keeps own keeps_among.1)

  -- a sector of the one or of the other
  module _ (at : ℕ) where
    abbrev pub InEither : ℕ → Type 0
    InEither s =
        IsOfBlocks (sectors_of at part.blocks) s ⊎ IsOfBlocks (sectors_of at keeps.blocks) s

    pub either_behind : (s : ℕ) → InEither s → 4096 + at ≤ s
    either_behind s (inl here) = block_behind at part.blocks s here
    either_behind s (inr here) = block_behind at keeps.blocks s here

    miss : (x : PartOfLayout) (s : ℕ)
        → Contains both x
        → x.name ≢ part.name
        → x.name ≢ keeps.name
        → IsOfBlocks (sectors_of at x.blocks) s
        → InEither s
        → ⊥
    miss x s c from_part from_keeps in_x (inl here) =
        sectors_apart at x.blocks part.blocks s
        (apart_pair both x part is.once c (in_both part in_own) from_part) in_x here
    miss x s c from_part from_keeps in_x (inr here) =
        sectors_apart at x.blocks keeps.blocks s
        (apart_pair both x keeps is.once c keeps_among.0 from_keeps) in_x here

    -- is none of another partition
    pub own_miss : (p : PartOfLayout) (s : ℕ)
        → Contains (own_parts slot parts) p
        → p.name ≢ part.name
        → IsOfBlocks (sectors_of at p.blocks) s
        → InEither s
        → ⊥
    own_miss p s c differs in_p =
        miss p s (in_both p c) differs
        (own_other p keeps (of_filter (λ q. is_of_slot slot q.name) parts p c).1 keeps_among.1)
        in_p

    -- nor of another partition's store
    pub store_miss : (other : List ℕ) (q : PartOfLayout) (s : ℕ)
        → is_of_slot slot other ≡ true
        → first_named (store_of other) parts ≡ Some q
        → other ≢ part.name
        → IsOfBlocks (sectors_of at q.blocks) s
        → InEither s
        → ⊥
    store_miss other q s of h differs in_q =
        let among = store_among other q of h in
        miss q s among.0
        (λ same. own_other part q own among.1 (sym same))
        (λ same.
        differs (store_of_same other part.name (sym among.2 ∙ same ∙ keeps_among.2)))
        in_q
