-- The partition of the target's table that a planned partition is, and where its image goes.
use Rattle.std.proofs.Common.{◌≡◌, ◌≢◌, ◌∙◌, ⊎_elim, ℕ, ◌<◌, true, false, List}
use Rattle.std.proofs.Common.{[], ◌++◌, length, get_or, refl, sym, ap, subst, arith}
use Rattle.std.specs.Prelude.{Bool, not, IsTrue, Option, Some, None, map, option_map, Contains}
use Rattle.std.specs.Prelude.{AllPairs}
use Rattle.std.specs.Str.{bytes_eq}
use Rattle.std.proofs.lemmas.List.{get_or-map, get_or_default, length-map}
use Rattle.std.proofs.lemmas.List.Elements.{All-contains, Contains-get_or}
use Rattle.std.proofs.lemmas.List.Kept.{AllPairs-filter}
use Rattle.std.proofs.lemmas.List.Quantifiers.{position-Some}
use Rattle.vab_disk.specs.Disk.{Image}
use Rattle.vab_names.specs.Names.{is_of_slot, base_of, store_of, suffix_of, store_group_name}
use Rattle.vab_names.proofs.NameLaws.{of_slot}
use Rattle.vab_layout.specs.declared.layout.Part.{Part as PartOfLayout}
use Rattle.vab_layout.specs.declared.layout.Layout.{Layout}
use Rattle.vab_layout.specs.Layout.{layout_of}
use Rattle.vab_layout.specs.Slots.{other_slot, own_parts, twins_by, is_updated}
use Rattle.vab_layout.specs.Slots.{IsTargetPartBeside}
use Rattle.vab_layout.proofs.LayoutLaws.{layout_keeps}
use Rattle.vab_blocks.proofs.Contained.{of_filter}
use Rattle.vab_names.proofs.NameCases.{same_name, eq_name, full_slot}
use Rattle.vab_device.specs.declared.device.Part.{Part}
use Rattle.vab_device.specs.declared.device.Device.{Device}
use Rattle.vab_device.specs.Kept.{sectors_of, is_no_store, HasNoStores, IsDevice}
use Rattle.vab_device.specs.Mounted.{blocks_there}
use Rattle.vab_device.specs.Phases.{planned_on, planned_image, plan_of}
use Rattle.vab_device.specs.Stores.{Scanned, first_named, scanned_named}
use Rattle.vab_flash.specs.declared.chosen.Destination.{Destination}
use Rattle.vab_flash.specs.declared.chosen.Destination.TheVariants.{Store, Blocks}
use Rattle.vab_flash.specs.Chosen.{IsUnwritten, destination_of}
use Rattle.vab_flash.specs.Chosen.{store_at}
use Rattle.vab_flash.specs.Place.{place_of, HasPlace, plan_or, no_planned, planned_at}
use Rattle.vab_flash.proofs.ApartLaws.{store_rule}
use Rattle.vab_flash.proofs.InstallingLaws.{Installs}
use Rattle.vab_device.proofs.NamedParts.{named_in}
use Rattle.vab_flash.proofs.DeadLaws.{Tables, tables_kept}
use Rattle.vab_device.proofs.NamedParts.{Named, first_is}

-- ---- by names that differ

-- ---- what was written and what wasn't

-- the store of a partition whose image goes into it
pub of_store : (apart : Bool) (store : Option (List ℕ))
    → destination_of apart store ≡ Some Store
    → store ≡ Some (blocks_there store)
of_store apart (Some store) goes = refl
of_store true None goes = absurd (let no : Some Blocks ≡ Some Store = goes in cc)
of_store false None goes = absurd (let no : None ≡ Some Store = goes in cc)

pub of_blocks : (apart : Bool) (store : Option (List ℕ))
    → destination_of apart store ≡ Some Blocks
    → (store ≡ None) × (apart ≡ true)
of_blocks apart (Some store) goes = absurd (let no : Some Store ≡ Some Blocks = goes in cc)
of_blocks true None goes = (refl, refl)
of_blocks false None goes = absurd (let no : None ≡ Some Blocks = goes in cc)

some_store : (at : ℕ) (o : Option PartOfLayout) (store : List ℕ)
    → option_map (λ q. sectors_of at q.blocks) o ≡ Some store
    → (q : PartOfLayout) × (o ≡ Some q) × (sectors_of at q.blocks ≡ store)
some_store at None store is = absurd cc
some_store at (Some q) store is = (q, refl, let same : sectors_of at q.blocks ≡ store = cc in same)

no_store_there : (at : ℕ) (o : Option PartOfLayout)
    → option_map (λ q. sectors_of at q.blocks) o ≡ None
    → o ≡ None
no_store_there at None none = refl
no_store_there at (Some q) none = absurd cc

unwritten_none : (o : Option Scanned) → IsUnwritten (planned_image true o) → o ≡ None
unwritten_none None is = refl
unwritten_none (Some s) is = absurd is

stored_updated : (slot : ℕ) (twins source target : List PartOfLayout) (p st : PartOfLayout)
    → IsTargetPartBeside slot twins source target p
    → first_named (store_of p.name) target ≡ Some st
    → is_updated p ≡ true
stored_updated slot twins source target p st is found =
    let there = named_in (store_of p.name) target st found in
    ⊎_elim (λ updated. updated)
    (λ kept.
    absurd (All-contains (λ s. s.name ≢ store_of p.name) target st kept.2 there.0 there.1)) is.kept

-- without twins each partition is updated
apart_updated : (slot : ℕ) (source target : List PartOfLayout) (p : PartOfLayout)
    → IsTargetPartBeside slot [] source target p
    → is_updated p ≡ true
apart_updated slot source target p is =
    ⊎_elim (λ updated. updated)
    (λ kept. absurd (omega (arith, kept.0.2))) is.kept

-- a store is a partition in the stores' group
pub store_group : (apart : Bool) (parts : List PartOfLayout) (q : PartOfLayout)
    → HasNoStores apart parts
    → Contains parts q
    → q.group ≡ store_group_name
    → apart ≡ false
store_group false parts q none there group = refl
store_group true parts q none there group =
    let no : is_no_store q ≡ true = All-contains (λ p. IsTrue (is_no_store p)) parts q none there in
    let same : bytes_eq q.group store_group_name ≡ true =
    eq_name q.group store_group_name group in
    absurd (let bad : not true ≡ true = ap not (sym same) ∙ no in cc)

-- The planned partition is this one of the target's table, and no status names it.
pub record Placed (d : Device) (size : ℕ) (old : Image) (i : Installs d size old) (name : List ℕ)
    (place : ℕ) : Type 0 where
  pub part : PartOfLayout
  pub within : place < length (own_parts (other_slot i.slot) (layout_of i.target).parts)
  pub at_place : (e : PartOfLayout)
      → get_or (own_parts (other_slot i.slot) (layout_of i.target).parts) place e ≡ part
  pub there : Contains (own_parts (other_slot i.slot) (layout_of i.target).parts) part
  pub named : part.name ≡ name
  pub own : is_of_slot (other_slot i.slot) name ≡ true
  pub part_is : first_named name (own_parts (other_slot i.slot) (layout_of i.target).parts)
      ≡ Some part
  pub updated : is_updated part ≡ true
  pub unread : scanned_named name i.scanned ≡ None
  pub planned : planned_at d place ≡ planned_on (layout_of i.target) i.scanned part
  pub differ : AllPairs Named (own_parts (other_slot i.slot) (layout_of i.target).parts)
  pub plan_is : plan_or d.plan ≡ plan_of (other_slot i.slot) (layout_of i.target) i.scanned

-- The store of that partition, in the target's table. There is one only where the target doesn't
-- stand apart.
pub record HasStore (d : Device) (size : ℕ) (old : Image) (i : Installs d size old)
    (name : List ℕ) (place : ℕ) : Type 0 where
  pub keeps : PartOfLayout
  pub found : first_named (store_of name) (layout_of i.target).parts ≡ Some keeps
  pub store_is : sectors_of (layout_of i.target).device.first_logical_sector keeps.blocks
      ≡ store_at d place
  pub beside : i.base.apart ≡ false

-- its image goes into its own blocks: it has no store, and the target stands apart
pub record HasNone (d : Device) (size : ℕ) (old : Image) (i : Installs d size old)
    (name : List ℕ) : Type 0 where
  pub lacks : first_named (store_of name) (layout_of i.target).parts ≡ None
  pub apart : i.base.apart ≡ true

module _ (d : Device) (size : ℕ) (old : Image) (i : Installs d size old) (device : IsDevice d size)
    (name : List ℕ) (place : ℕ) (has : HasPlace d name place) where
  abbrev layout : Layout
  layout = layout_of i.target

  abbrev owns : List PartOfLayout
  owns = own_parts (other_slot i.slot) layout.parts

  tables : Tables d size old i
  tables = tables_kept d size old i device

  plan_whole : plan_or d.plan ≡ plan_of (other_slot i.slot) layout i.scanned
  plan_whole = ap (λ (k : Device). plan_or k.plan) i.is

  plan_has : has.plan ≡ plan_of (other_slot i.slot) layout i.scanned
  plan_has = ap plan_or (sym has.plan_is) ∙ plan_whole

  placed : place_of (base_of name) (map (planned_on layout i.scanned) owns) ≡ Some place
  placed =
      ap (place_of (base_of name)) (sym plan_has) ∙ has.place_is

  abbrev test : Part → Bool
  test p = bytes_eq p.name (base_of name)

  below_owns : place < length owns
  below_owns =
      let at = position-Some test (map (planned_on layout i.scanned) owns) place no_planned placed
      in
      omega (arith, at.0, length-map owns (planned_on layout i.scanned))

  no_part : PartOfLayout
  no_part = record { name = []; attributes = 0; group = []; blocks = [] }

  pub part : PartOfLayout
  part = get_or owns place no_part

  pub in_owns : Contains owns part
  unfolding part
  in_owns = Contains-get_or owns place no_part below_owns

  pub planned_is : planned_at d place ≡ planned_on layout i.scanned part
  unfolding part
  planned_is =
      ap (λ (ps : List Part). get_or ps place no_planned) plan_whole
      ∙ get_or-map (planned_on layout i.scanned) owns place no_part no_planned below_owns

  pub own_name : is_of_slot (other_slot i.slot) name ≡ true
  own_name =
      let slot : d.mark.slot ≡ i.slot = ap (λ (k : Device). k.mark.slot) i.is in
      subst (λ (s : ℕ). is_of_slot (other_slot s) name ≡ true) slot
      (full_slot (other_slot d.mark.slot) name has.full)

  pub part_named : part.name ≡ name
  part_named =
      let at = position-Some test (map (planned_on layout i.scanned) owns) place no_planned placed
      in
      let e : get_or (map (planned_on layout i.scanned) owns) place no_planned
      ≡ planned_on layout i.scanned part =
      sym (ap (λ (ps : List Part). get_or ps place no_planned) plan_whole) ∙ planned_is in
      let base : base_of part.name ≡ base_of name =
      same_name (base_of part.name) (base_of name) (sym (ap test e) ∙ at.1) in
      let of : is_of_slot (other_slot i.slot) part.name ≡ true =
      (of_filter (λ q. is_of_slot (other_slot i.slot) q.name) layout.parts part in_owns).1 in
      of_slot (other_slot i.slot) part.name of
      ∙ ap (λ (b : List ℕ). b ++ suffix_of (other_slot i.slot)) base
      ∙ sym (of_slot (other_slot i.slot) name own_name)

  names : AllPairs Named owns
  names =
      AllPairs-filter Named (λ p. is_of_slot (other_slot i.slot) p.name) layout.parts
      (layout_keeps i.target tables.table.rules).part_names

  at_any : (e : PartOfLayout) → get_or owns place e ≡ part
  unfolding part
  at_any e = get_or_default owns place e no_part below_owns

  rule : IsTargetPartBeside (other_slot i.slot)
      (twins_by i.base.apart (layout_of i.source).parts)
      (layout_of i.source).parts
      layout.parts
      part
  rule =
      All-contains
      (IsTargetPartBeside (other_slot i.slot) (twins_by i.base.apart (layout_of i.source).parts)
      (layout_of i.source).parts layout.parts)
      owns part tables.target.each in_owns

  mark_is : d.mark.apart ≡ i.base.apart
  mark_is = ap (λ (k : Device). k.mark.apart) i.is

  -- ---- where its image goes

  -- a partition with a store
  pub has_store : destination_of d.mark.apart (planned_at d place).store ≡ Some Store
      → HasStore d size old i name place
  has_store goes =
      let there = of_store d.mark.apart (planned_at d place).store goes in
      let found = some_store layout.device.first_logical_sector
      (first_named (store_of part.name) layout.parts) (store_at d place)
      (sym (ap (λ (p : Part). p.store) planned_is) ∙ there) in
      let named : first_named (store_of name) layout.parts ≡ Some found.0 =
      ap (λ (n : List ℕ). first_named (store_of n) layout.parts) (sym part_named) ∙ found.1 in
      record {
        keeps = found.0;
        found = named;
        store_is = found.2;
        beside =
            store_group i.base.apart layout.parts found.0 tables.no_stores
            (named_in (store_of name) layout.parts found.0 named).0
            (store_rule i.slot (twins_by i.base.apart (layout_of i.source).parts)
            (layout_of i.source).parts layout.parts name found.0 tables.below tables.target own_name
            named).group;
      }

  pub has_none : destination_of d.mark.apart (planned_at d place).store ≡ Some Blocks
      → HasNone d size old i name
  has_none goes =
      let there = of_blocks d.mark.apart (planned_at d place).store goes in
      let none : first_named (store_of part.name) layout.parts ≡ None =
      no_store_there layout.device.first_logical_sector
      (first_named (store_of part.name) layout.parts)
      (sym (ap (λ (p : Part). p.store) planned_is) ∙ there.0) in
      record {
        lacks = ap (λ (n : List ℕ). first_named (store_of n) layout.parts) (sym part_named) ∙ none;
        apart = sym mark_is ∙ there.1;
      }

  updated_by : (to : Destination)
      → destination_of d.mark.apart (planned_at d place).store ≡ Some to
      → is_updated part ≡ true
  updated_by Store goes =
      let s = has_store goes in
      stored_updated (other_slot i.slot) (twins_by i.base.apart (layout_of i.source).parts)
      (layout_of i.source).parts layout.parts part s.keeps rule
      (ap (λ (n : List ℕ). first_named (store_of n) layout.parts) part_named ∙ s.found)
  updated_by Blocks goes =
      apart_updated (other_slot i.slot) (layout_of i.source).parts layout.parts part
      (subst (λ (b : Bool).
      IsTargetPartBeside (other_slot i.slot) (twins_by b (layout_of i.source).parts)
      (layout_of i.source).parts layout.parts part) (has_none goes).apart rule)

  pub placed_of : (to : Destination)
      → destination_of d.mark.apart (planned_at d place).store ≡ Some to
      → IsUnwritten (planned_at d place).image
      → Placed d size old i name place
  placed_of to goes unwritten =
      let updated = updated_by to goes in
      let image : IsUnwritten (planned_image true (scanned_named part.name i.scanned)) =
      subst (λ (b : Bool). IsUnwritten (planned_image b (scanned_named part.name i.scanned)))
      updated
      (subst (λ (p : Part). IsUnwritten p.image) planned_is unwritten) in
      record {
        part = part;
        within = below_owns;
        at_place = at_any;
        there = in_owns;
        named = part_named;
        own = own_name;
        part_is =
            ap (λ (n : List ℕ). first_named n owns) (sym part_named) ∙ first_is owns part names
            in_owns;
        updated = updated;
        unread =
            ap (λ (n : List ℕ). scanned_named n i.scanned) (sym part_named)
            ∙ unwritten_none (scanned_named part.name i.scanned) image;
        planned = planned_is;
        differ = names;
        plan_is = plan_whole;
      }
