-- The blocks that an image is written into are those of no other partition and store.
use Rattle.std.proofs.Common.{◌≡◌, ◌≢◌, ◌∙◌, inl, inr, ⊎_elim, ℕ, ◌<◌}
use Rattle.std.proofs.Common.{true, false, List, [], ◌∷◌, ◌++◌, cond, Result, refl, sym}
use Rattle.std.proofs.Common.{ap, subst, arith}
use Rattle.std.specs.Prelude.{Bool, Option, Some, None, map, ◌==◌, Contains}
use Rattle.std.specs.Prelude.{option_map}
use Rattle.std.specs.Str.{bytes_eq}
use Rattle.std.proofs.lemmas.Bool.{cases_Bool, eqb-true}
use Rattle.std.proofs.lemmas.List.Elements.{All-contains, Contains-append_left}
use Rattle.std.proofs.lemmas.List.Elements.{Contains-append_right}
use Rattle.vab_marks.specs.declared.status.PartStatus.{PartStatus}
use Rattle.vab_marks.specs.declared.status.StatusImage.{StatusImage}
use Rattle.vab_marks.specs.declared.status.StatusImage.TheVariants.{Stored, InPlace}
use Rattle.vab_names.specs.Names.{is_of_slot, is_store, store_of}
use Rattle.vab_statuses.specs.Statuses.{status_named}
use Rattle.vab_tables.specs.declared.table.Table.{Table}
use Rattle.vab_layout.specs.declared.layout.Part.{Part as PartOfLayout}
use Rattle.vab_layout.specs.declared.layout.Layout.{Layout}
use Rattle.vab_layout.specs.Layout.{layout_of, blocks_of_parts}
use Rattle.vab_layout.specs.Slots.{other_slot, own_parts, store_parts, is_updated}
use Rattle.vab_layout.specs.Slots.{IsTargetBeside, IsTargetPartBeside, IsStorePart}
use Rattle.vab_builder.proofs.Counting.{Apart}
use Rattle.vab_blocks.proofs.Contained.{in_piece, of_filter, in_filter, first, later}
use Rattle.vab_builder.proofs.ChangedTarget.{apart_pair}
use Rattle.vab_names.proofs.NameCases.{other_name, own_or_store, store_is_store}
use Rattle.vab_names.proofs.NameCases.{store_of_same}
use Rattle.vab_device.specs.declared.fault.StartFault.{StartFault}
use Rattle.vab_device.specs.Kept.{sectors_of, part_on, parts_of}
use Rattle.vab_device.specs.Mounted.{blocks_there}
use Rattle.vab_device.specs.Phases.{store_on, planned_on, planned_image}
use Rattle.vab_device.specs.Reading.{IsOfBlocks, IsOfParts, IsOfImages, IsOfWritten}
use Rattle.vab_device.specs.Reading.{IsOfPlanned, table_for, parts_for}
use Rattle.vab_device.specs.Stores.{Wanted, Scanned, first_named, image_wanted, wanted_by}
use Rattle.vab_device.specs.Stores.{wanted_of}
use Rattle.vab_device.specs.Stores.{scanned_named}
use Rattle.vab_device.proofs.Behind.{seen_or}
use Rattle.vab_device.proofs.InStores.{IsInStores}
use Rattle.vab_device.proofs.PartBlocks.{sectors_apart}
use Rattle.vab_device.proofs.NamedParts.{named_in}

-- ---- sectors and blocks

-- ---- partitions by their name

some_none : {A : Type 0} (x : A) (o : Option A) → o ≡ Some x → o ≡ None → ⊥
some_none x o is none = let bad : Some x ≡ None = sym is ∙ none in absurd cc

test_other : (b : Bool) (st : PartStatus) (o : Option PartStatus)
    → cond b (Some st) o ≡ None
    → (b ≡ false) × (o ≡ None)
test_other true st o h = absurd cc
test_other false st o h = (refl, h)

-- ---- blocks for the image of one partition

-- These blocks are for the image of the target's partition of this name alone: none of them is one
-- of the source's partitions, of the target's others, or of the stores of those.
pub record BelongTo (slot : ℕ) (source target : List PartOfLayout) (name blocks : List ℕ) : Type 0
  where
    pub from_source : (p : PartOfLayout)
        → Contains (own_parts slot source) p
        → Apart p.blocks blocks
    pub from_own : (p : PartOfLayout)
        → Contains (own_parts (other_slot slot) target) p
        → p.name ≢ name
        → Apart p.blocks blocks
    pub from_store : (other : List ℕ) (q : PartOfLayout)
        → is_of_slot (other_slot slot) other ≡ true
        → first_named (store_of other) target ≡ Some q
        → other ≢ name
        → Apart q.blocks blocks

abbrev both_of : ℕ → List PartOfLayout → List PartOfLayout
both_of slot target = own_parts (other_slot slot) target ++ store_parts (other_slot slot) target

-- a store among the stores of the target
store_among : (slot : ℕ) (target : List PartOfLayout) (other : List ℕ) (q : PartOfLayout)
    → is_of_slot (other_slot slot) other ≡ true
    → first_named (store_of other) target ≡ Some q
    → Contains (store_parts (other_slot slot) target) q
store_among slot target other q of h =
    let there = named_in (store_of other) target q h in
    in_filter (λ p. is_store (other_slot slot) p.name) target q there.0
    (ap (is_store (other_slot slot)) there.1 ∙ store_is_store (other_slot slot) other of)

-- a partition has another name than a store
own_no_store : (slot : ℕ) (target : List PartOfLayout) (p q : PartOfLayout)
    → Contains (own_parts (other_slot slot) target) p
    → Contains (store_parts (other_slot slot) target) q
    → p.name ≡ q.name
    → ⊥
own_no_store slot target p q in_own in_stores same =
    own_or_store (other_slot slot) (other_slot slot) p.name
    (of_filter (λ r. is_of_slot (other_slot slot) r.name) target p in_own).1
    (ap (is_store (other_slot slot)) same
    ∙ (of_filter (λ r. is_store (other_slot slot) r.name) target q in_stores).1)

-- ---- the store of a partition of the target

module _ (slot : ℕ) (twins source target : List PartOfLayout) (name : List ℕ)
    (store : PartOfLayout)
    (below : slot < 2)
    (is : IsTargetBeside (other_slot slot) twins source target)
    (own : is_of_slot (other_slot slot) name ≡ true)
    (found : first_named (store_of name) target ≡ Some store) where
  there : Contains target store × (store.name ≡ store_of name)
  there = named_in (store_of name) target store found

  among : Contains (store_parts (other_slot slot) target) store
  among = store_among slot target name store own found

  pub store_rule : IsStorePart (other_slot slot) source target store
  store_rule = All-contains (IsStorePart (other_slot slot) source target)
      (store_parts (other_slot slot) target) store is.stores among

  -- no block of the source's
  from_source : (p : PartOfLayout)
      → Contains (own_parts slot source) p
      → Apart p.blocks store.blocks
  from_source p c b in_p in_store =
      let again : other_slot (other_slot slot) ≡ slot = omega (arith, below) in
      All-contains
      (λ b. Contains (blocks_of_parts (own_parts (other_slot (other_slot slot)) source)) b → ⊥)
      store.blocks b store_rule.apart in_store
      (subst (λ (k : ℕ). Contains (blocks_of_parts (own_parts k source)) b) (sym again)
      (in_piece (λ r. r.blocks) (own_parts slot source) p b c in_p))

  -- nor of the target's partitions
  from_own : (p : PartOfLayout)
      → Contains (own_parts (other_slot slot) target) p
      → Apart p.blocks store.blocks
  from_own p c =
      apart_pair (both_of slot target) p store is.once
      (Contains-append_left (own_parts (other_slot slot) target)
      (store_parts (other_slot slot) target) p c)
      (Contains-append_right (own_parts (other_slot slot) target)
      (store_parts (other_slot slot) target) store among)
      (own_no_store slot target p store c among)

  -- nor of another partition's store
  from_store : (other : List ℕ) (q : PartOfLayout)
      → is_of_slot (other_slot slot) other ≡ true
      → first_named (store_of other) target ≡ Some q
      → other ≢ name
      → Apart q.blocks store.blocks
  from_store other q of h differs =
      let q_there = named_in (store_of other) target q h in
      apart_pair (both_of slot target) q store is.once
      (Contains-append_right (own_parts (other_slot slot) target)
      (store_parts (other_slot slot) target) q (store_among slot target other q of h))
      (Contains-append_right (own_parts (other_slot slot) target)
      (store_parts (other_slot slot) target) store among)
      (λ same. differs (store_of_same other name (sym q_there.1 ∙ same ∙ there.1)))

  pub store_belongs : BelongTo slot source target name store.blocks
  store_belongs = record {
    from_source = from_source;
    from_own = λ p c differs. from_own p c;
    from_store = from_store;
  }

-- ---- the own blocks of a partition of a target that stands apart

module _ (slot : ℕ) (source target : List PartOfLayout) (part : PartOfLayout)
    (below : slot < 2)
    (is : IsTargetBeside (other_slot slot) [] source target)
    (there : Contains (own_parts (other_slot slot) target) part) where
  fresh : (p : PartOfLayout)
      → Contains (own_parts slot source) p
      → Apart p.blocks part.blocks
  fresh p c b in_p in_part =
      let rule : IsTargetPartBeside (other_slot slot) [] source target part =
      All-contains (IsTargetPartBeside (other_slot slot) [] source target)
      (own_parts (other_slot slot) target) part is.each there in
      let again : other_slot (other_slot slot) ≡ slot = omega (arith, below) in
      All-contains
      (λ b. Contains (blocks_of_parts (own_parts (other_slot (other_slot slot)) source)) b → ⊥)
      part.blocks b rule.fresh in_part
      (subst (λ (k : ℕ). Contains (blocks_of_parts (own_parts k source)) b) (sym again)
      (in_piece (λ r. r.blocks) (own_parts slot source) p b c in_p))

  pub own_belongs : BelongTo slot source target part.name part.blocks
  own_belongs = record {
    from_source = fresh;
    from_own = λ p c differs.
        apart_pair (both_of slot target) p part is.once
        (Contains-append_left (own_parts (other_slot slot) target)
        (store_parts (other_slot slot) target) p c)
        (Contains-append_left (own_parts (other_slot slot) target)
        (store_parts (other_slot slot) target) part there)
        differs;
    from_store = λ other q of h differs.
        let among = store_among slot target other q of h in
        apart_pair (both_of slot target) q part is.once
        (Contains-append_right (own_parts (other_slot slot) target)
        (store_parts (other_slot slot) target) q among)
        (Contains-append_left (own_parts (other_slot slot) target)
        (store_parts (other_slot slot) target) part there)
        (λ same. own_no_store slot target part q there among (sym same));
  }

-- ---- the same of sectors

module _ (slot : ℕ) (source target : List PartOfLayout) (name blocks : List ℕ)
    (belong : BelongTo slot source target name blocks) where
  module _ (at : ℕ) (s : ℕ) (in_store : IsOfBlocks (sectors_of at blocks) s) where
    parts_miss : (parts : List PartOfLayout)
        → ((p : PartOfLayout) → Contains parts p → Apart p.blocks blocks)
        → IsOfParts (map (part_on at) parts) s
        → ⊥
    parts_miss [] apart is = is
    parts_miss (p ∷ ps) apart (inl is) =
        sectors_apart at p.blocks blocks s (apart p (first p ps)) is in_store
    parts_miss (p ∷ ps) apart (inr is) =
        parts_miss ps (λ q c. apart q (later p ps q c)) is

    wanted_miss : (may : Bool) (st : List ℕ) (x : StatusImage) (p q : Option PartOfLayout)
        (ws : List (Result Wanted StartFault))
        → first_named st (own_parts (other_slot slot) target) ≡ p
        → first_named (store_of st) target ≡ q
        → st ≢ name
        → IsInStores (image_wanted may at st x p q ∷ ws) s
        → IsInStores ws s
    wanted_miss may st InPlace None q ws p_is q_is differs is = is
    wanted_miss may st InPlace (Some p) (Some q) ws p_is q_is differs is = is
    wanted_miss true st InPlace (Some p) None ws p_is q_is differs (inl is) = absurd is
    wanted_miss true st InPlace (Some p) None ws p_is q_is differs (inr is) = is
    wanted_miss false st InPlace (Some p) None ws p_is q_is differs is = is
    wanted_miss may st (Stored count k) None q ws p_is q_is differs is = is
    wanted_miss may st (Stored count k) (Some p) None ws p_is q_is differs is = is
    wanted_miss may st (Stored count k) (Some p) (Some q) ws p_is q_is differs (inl is) =
        let p_there = named_in st (own_parts (other_slot slot) target) p p_is in
        let of : is_of_slot (other_slot slot) st ≡ true =
        ap (is_of_slot (other_slot slot)) (sym p_there.1)
        ∙ (of_filter (λ r. is_of_slot (other_slot slot) r.name) target p p_there.0).1 in
        absurd (sectors_apart at q.blocks blocks s (belong.from_store st q of q_is differs) is
        in_store)
    wanted_miss may st (Stored count k) (Some p) (Some q) ws p_is q_is differs (inr is) = is

    pub stores_miss : (may : Bool) (l : Layout) (sts : List PartStatus)
        → l.parts ≡ target
        → l.device.first_logical_sector ≡ at
        → status_named name sts ≡ None
        → IsInStores (map (wanted_of may (other_slot slot) l) sts) s
        → ⊥
    stores_miss may l [] parts begins none is = is
    stores_miss may l (st ∷ sts) parts begins none is =
        let t = test_other (bytes_eq st.name name) st (status_named name sts) none in
        let ws : List (Result Wanted StartFault) = map (wanted_of may (other_slot slot) l) sts in
        let here : IsInStores
        (wanted_by may at st (first_named st.name (own_parts (other_slot slot) target))
        (first_named (store_of st.name) target) ∷ ws) s =
        subst (λ (ps : List PartOfLayout).
        IsInStores
        (wanted_by may at st (first_named st.name (own_parts (other_slot slot) ps))
        (first_named (store_of st.name) ps) ∷ ws) s) parts
        (subst (λ (k : ℕ).
        IsInStores
        (wanted_by may k st (first_named st.name (own_parts (other_slot slot) l.parts))
        (first_named (store_of st.name) l.parts) ∷ ws) s) begins is) in
        stores_miss may l sts parts begins t.1
        (wanted_miss may st.name st.image (first_named st.name (own_parts (other_slot slot) target))
        (first_named (store_of st.name) target) ws refl refl
        (other_name st.name name t.0) here)

    -- ---- what is planned

    place_miss : (p : PartOfLayout) (q : Option PartOfLayout)
        → is_of_slot (other_slot slot) p.name ≡ true
        → first_named (store_of p.name) target ≡ q
        → p.name ≢ name
        → IsOfBlocks (blocks_there (option_map (λ st. sectors_of at st.blocks) q)) s
        → ⊥
    place_miss p None of h differs is = is
    place_miss p (Some q) of h differs is =
        sectors_apart at q.blocks blocks s (belong.from_store p.name q of h differs) is in_store

    written_miss : (l : Layout) (ss : List Scanned) (p : PartOfLayout) (b : Bool)
        (o : Option Scanned)
        → l.parts ≡ target
        → l.device.first_logical_sector ≡ at
        → Contains (own_parts (other_slot slot) target) p
        → scanned_named p.name ss ≡ o
        → scanned_named name ss ≡ None
        → IsOfWritten (planned_on l ss p) (planned_image b o) s
        → ⊥
    written_miss l ss p false o parts begins c o_is none is = is
    written_miss l ss p true None parts begins c o_is none is = is
    written_miss l ss p true (Some r) parts begins c o_is none is =
        let differs : p.name ≢ name =
        λ same. some_none r (scanned_named p.name ss) o_is
        (ap (λ (n : List ℕ). scanned_named n ss) same ∙ none) in
        let of : is_of_slot (other_slot slot) p.name ≡ true =
        (of_filter (λ r. is_of_slot (other_slot slot) r.name) target p c).1 in
        ⊎_elim
        (λ here.
        place_miss p (first_named (store_of p.name) target) of refl differs
        (subst (λ (ps : List PartOfLayout).
        IsOfBlocks (blocks_there (option_map (λ st. sectors_of at st.blocks)
        (first_named (store_of p.name) ps))) s) parts
        (subst (λ (k : ℕ).
        IsOfBlocks (blocks_there (option_map (λ st. sectors_of k st.blocks)
        (first_named (store_of p.name) l.parts))) s) begins here)))
        (λ there.
        sectors_apart at p.blocks blocks s (belong.from_own p c differs)
        (subst (λ (k : ℕ). IsOfBlocks (sectors_of k p.blocks) s) begins there) in_store)
        (seen_or r.chunk (blocks_there (store_on l p.name)) r.exceptions 0
        (sectors_of l.device.first_logical_sector p.blocks) s is)

    pub planned_miss : (l : Layout) (ss : List Scanned) (parts : List PartOfLayout)
        → l.parts ≡ target
        → l.device.first_logical_sector ≡ at
        → ((p : PartOfLayout) → Contains parts p → Contains (own_parts (other_slot slot) target) p)
        → scanned_named name ss ≡ None
        → IsOfPlanned (map (planned_on l ss) parts) s
        → ⊥
    planned_miss l ss [] is_target begins within none is = is
    planned_miss l ss (p ∷ ps) is_target begins within none (inl is) =
        written_miss l ss p (is_updated p) (scanned_named p.name ss) is_target begins
        (within p (first p ps)) refl none is
    planned_miss l ss (p ∷ ps) is_target begins within none (inr is) =
        planned_miss l ss ps is_target begins (λ q c. within q (later p ps q c)) none is

    -- ---- the images of the source

    pub images_miss : (k : ℕ) (ss : List Scanned) (t u : Table) (others : List Table)
        → (layout_of t).parts ≡ source
        → (layout_of t).device.first_logical_sector ≡ at
        → IsOfImages (parts_for k (slot == k) false ss
        (table_for k (slot ∷ other_slot slot ∷ []) (t ∷ u ∷ others))) s
        → ⊥
    images_miss k ss t u others is_source begins is = elim (cases_Bool (slot == k)) [
      | inl here ↦
          let found : IsOfParts (parts_of k (layout_of t)) s = rw here at is in
          let same : slot ≡ k = eqb-true slot k here in
          parts_miss (own_parts slot source) belong.from_source
          (subst (λ (j : ℕ). IsOfParts (map (part_on at) (own_parts j source)) s) (sym same)
          (subst (λ (ps : List PartOfLayout). IsOfParts (map (part_on at) (own_parts k ps)) s)
          is_source
          (subst (λ (j : ℕ). IsOfParts (map (part_on j) (own_parts k (layout_of t).parts)) s)
          begins found)))
      | inr other ↦ rw other at is
    ]
