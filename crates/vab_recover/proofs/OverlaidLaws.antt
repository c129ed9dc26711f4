-- What is known of a partition that is overlaid.
use Rattle.std.proofs.Common.{◌≡◌, ◌≢◌, ◌∙◌, inl, inr, ℕ, ◌+◌, ◌≤◌, ◌<◌, true, false, List, []}
use Rattle.std.proofs.Common.{◌∷◌, ◌++◌, length, Result, Ok, refl, sym, ap, subst, arith}
use Rattle.vab_disk.specs.Disk.{Image}
use Rattle.std.specs.Prelude.{◌^◌, Bool, Option, Some, None, is_some, option_map, map, All}
use Rattle.std.specs.Prelude.{AllPairs, Contains}
use Rattle.std.specs.Str.{bytes_eq}
use Rattle.std.proofs.lemmas.Bool.{cases_Bool}
use Rattle.std.proofs.lemmas.List.Elements.{All-head, All-tail, All-contains, All-map}
use Rattle.std.proofs.lemmas.List.Elements.{filter_passes}
use Rattle.std.proofs.lemmas.List.Kept.{AllPairs-filter}
use Rattle.vab_names.specs.Names.{is_of_slot, base_of, suffix_of}
use Rattle.vab_names.proofs.NameLaws.{of_slot, of_slot_long}
use Rattle.vab_names.proofs.NameCases.{eq_name, ne_name}
use Rattle.vab_blocks.proofs.Contained.{all_from, none_in_nil, cons_cases, of_filter, in_map}
use Rattle.vab_blocks.proofs.Contained.{in_piece}
use Rattle.vab_exceptions.specs.declared.area.Exception.{Exception}
use Rattle.vab_space.specs.declared.Chunk.TheVariants.{One}
use Rattle.vab_store.specs.Layout.{IsOnDisk}
use Rattle.vab_store.specs.View.{Fits}
use Rattle.vab_geometry.specs.declared.geometry.Geometry.{Geometry}
use Rattle.vab_tables.specs.declared.entries.Partition.{Partition}
use Rattle.vab_tables.specs.declared.table.Table.{Table}
use Rattle.vab_tables.specs.Rules.{cap_of, end_of, KeepsRules}
use Rattle.vab_blocks.specs.Blocks.{first_sector_of}
use Rattle.vab_layout.specs.declared.layout.Part.{Part as PartOfLayout}
use Rattle.vab_layout.specs.declared.layout.Layout.{Layout}
use Rattle.vab_layout.specs.Layout.{layout_of, part_of, blocks_of_partition, blocks_of_parts}
use Rattle.vab_layout.proofs.LayoutLaws.{layout_keeps}
use Rattle.vab_layout.specs.Overlay.{Overlaid, overlaid_in, is_apart, IsOverlaidBy}
use Rattle.vab_layout.specs.Rules.{IsLayout, IsPart as IsPartOfLayout}
use Rattle.vab_layout.specs.Slots.{own_parts, IsOwn, IsOwnPart}
use Rattle.vab_builder.proofs.Counting.{Apart, pairs_head, pairs_tail, apart_parts, few_below}
use Rattle.vab_partitions.specs.Overlay.{pair_of}
use Rattle.vab_partitions.proofs.OverlayLaws.{is_overlaid}
use Rattle.vab_device.specs.declared.fault.StartFault.{StartFault}
use Rattle.vab_device.specs.declared.fault.StartFault.TheVariants.{BadState}
use Rattle.vab_device.specs.declared.device.Part.{Part}
use Rattle.vab_device.specs.declared.device.PartImage.TheVariants.{Written}
use Rattle.vab_device.specs.Checks.{check, names_none, ◌>>=◌}
use Rattle.vab_device.specs.Kept.{sectors_of, part_on, parts_of, lies_in, part_named, IsPart}
use Rattle.vab_device.specs.Kept.{IsStore}
use Rattle.vab_device.specs.Kept.{AreParts, IsStored, IsOverlay, IsOverlaidOn}
use Rattle.vab_device.specs.Phases.{bad_overlay, image_over, overlaid_on, overlay_of}
use Rattle.vab_device.specs.Phases.{wanted_over, overlay_wanted}
use Rattle.vab_device.specs.Reading.{IsOfBlocks}
use Rattle.vab_device.specs.Stores.{Wanted, Scanned, scanned_named, scan_at, scans_in}
use Rattle.vab_device.proofs.CheckLaws.{first_kept, check_kept}
use Rattle.vab_device.proofs.NamedParts.{Named}
use Rattle.vab_device.proofs.OwnParts.{pairs_right, sectors_distinct, sectors_on, blocks_on}
use Rattle.vab_device.proofs.OwnParts.{parts_kept, length-sectors_of}
use Rattle.vab_device.proofs.PartBlocks.{sectors_apart}
use Rattle.vab_plan.proofs.PartLaws.{layout_first}
use Rattle.vab_recover.specs.Overlay.{KeepsOverlay, IsOverScanned, AreOverScanned, wanted_there}
use Rattle.vab_recover.proofs.PlanLaws.{on_from}
use Rattle.vab_recover.proofs.DeviceLaws.{IsOverlaidHere}

-- ---- what was judged

-- the store stands apart, where one is found
apart_of : (slot : ℕ) (l : Layout) (x : Option Overlaid) (o : Overlaid)
    → names_none (bad_overlay slot l.parts x) ≡ None
    → x ≡ Some o
    → is_apart slot l.parts o.store ≡ true
apart_of slot l None o kept is = absurd cc
apart_of slot l (Some y) o kept is = elim (cases_Bool (is_apart slot l.parts y.store)) [
  | inl apart ↦
      let same : y ≡ o = cc in
      ap (λ (z : Overlaid). is_apart slot l.parts z.store) (sym same) ∙ apart
  | inr not ↦
      let no : names_none (Some y.store.name) ≡ None = rw not at kept in
      absurd cc
]

pub judged_over : (slot : ℕ) (l : Layout) (o : Overlaid)
    → KeepsOverlay true slot l
    → overlaid_in slot l.parts ≡ Some o
    → IsOverlaidBy slot l.parts o.part o.store
judged_over slot l o kept found =
    let checks = first_kept (check (is_some (overlaid_in slot l.parts)) (BadState 4))
    (names_none (bad_overlay slot l.parts (overlaid_in slot l.parts)) ∷ []) kept in
    let apart = (first_kept (names_none (bad_overlay slot l.parts (overlaid_in slot l.parts))) []
    checks.1).0 in
    is_overlaid slot l.parts o found (apart_of slot l (overlaid_in slot l.parts) o apart found)

pub judged_some : (slot : ℕ) (l : Layout)
    → KeepsOverlay true slot l
    → is_some (overlaid_in slot l.parts) ≡ true
judged_some slot l kept =
    check_kept (is_some (overlaid_in slot l.parts)) (BadState 4)
    (first_kept (check (is_some (overlaid_in slot l.parts)) (BadState 4))
    (names_none (bad_overlay slot l.parts (overlaid_in slot l.parts)) ∷ []) kept).0

-- no more blocks than the device has
pub over_cap : (slot : ℕ) (l : Layout) (p s : PartOfLayout)
    → IsLayout l
    → IsOverlaidBy slot l.parts p s
    → length s.blocks ≤ cap_of l.device
over_cap slot l p s rules is =
    few_below (cap_of l.device) s.blocks
    (pairs_right (blocks_of_parts (own_parts slot l.parts)) s.blocks is.apart)
    (All-contains (IsPartOfLayout (cap_of l.device) l.groups) l.parts s rules.parts
    is.listed).blocks

-- ---- the partition among those of its slot

-- names of a slot with one base name are one
same_base : (slot : ℕ) (a b : List ℕ)
    → is_of_slot slot a ≡ true
    → is_of_slot slot b ≡ true
    → base_of a ≡ base_of b
    → a ≡ b
same_base slot a b of_a of_b same =
    of_slot slot a of_a ∙ ap (λ (n : List ℕ). n ++ suffix_of slot) same ∙ sym (of_slot slot b of_b)

-- it is the first of its base name
named_on : (slot first : ℕ) (ps : List PartOfLayout) (p : PartOfLayout)
    → All (λ q. is_of_slot slot q.name ≡ true) ps
    → AllPairs Named ps
    → Contains ps p
    → part_named (base_of p.name) (map (part_on first) ps) ≡ Some (part_on first p)
named_on slot first [] p own differ c = absurd (none_in_nil p c)
named_on slot first (x ∷ xs) p own differ c = elim (cons_cases x xs p c) [
  | inl here ↦
      let is : bytes_eq (base_of x.name) (base_of p.name) ≡ true =
      eq_name (base_of x.name) (base_of p.name)
      (ap (λ (y : PartOfLayout). base_of y.name) here) in
      rw is (ap (λ (y : PartOfLayout). Some (part_on first y)) here)
  | inr there ↦
      let other : bytes_eq (base_of x.name) (base_of p.name) ≡ false =
      ne_name (base_of x.name) (base_of p.name)
      (λ same.
      All-contains (λ y. x.name ≢ y.name) xs p (pairs_head Named x xs differ) there
      (same_base slot x.name p.name
      (All-head (λ (q : PartOfLayout). is_of_slot slot q.name ≡ true) x xs own)
      (All-contains (λ (q : PartOfLayout). is_of_slot slot q.name ≡ true) xs p
      (All-tail (λ (q : PartOfLayout). is_of_slot slot q.name ≡ true) x xs own) there)
      same)) in
      rw other
      (named_on slot first xs p
      (All-tail (λ (q : PartOfLayout). is_of_slot slot q.name ≡ true) x xs own)
      (pairs_tail Named x xs differ) there)
]

-- a block begins with its first sector
begins_block : (blocks : List ℕ) (s : ℕ) → Contains blocks s → IsOfBlocks blocks s
begins_block [] s is = absurd (none_in_nil s is)
begins_block (b ∷ bs) s is = elim (cons_cases b bs s is) [
  | inl here ↦ inl (record { from = omega (arith, here); below = omega (arith, here) })
  | inr there ↦ inr (begins_block bs s there)
]

module _
    (size slot : ℕ) (g : Geometry) (l : Layout) (o : Overlaid)
    (enough : 4120 ≤ size)
    (rules : IsLayout l)
    (own : IsOwn slot l.parts)
    (lies : lies_in size g l.device ≡ true)
    (is : IsOverlaidBy slot l.parts o.part o.store) where
  abbrev first : ℕ
  first = l.device.first_logical_sector

  abbrev mine : List PartOfLayout
  mine = own_parts slot l.parts

  -- no block of the store is one of these
  apart_from : (q : PartOfLayout) → Contains mine q → Apart q.blocks o.store.blocks
  apart_from q c b of_q of_store =
      apart_parts (blocks_of_parts mine) o.store.blocks is.apart b
      (in_piece (λ (p : PartOfLayout). p.blocks) mine q b c of_q) of_store

  sectors_from : (q : PartOfLayout)
      → Contains mine q
      → (s : ℕ)
      → Contains (sectors_of first q.blocks) s
      → Contains (sectors_of first o.store.blocks) s
      → ⊥
  sectors_from q c s of_q of_store =
      sectors_apart first q.blocks o.store.blocks s (apart_from q c)
      (begins_block (sectors_of first q.blocks) s of_q)
      (begins_block (sectors_of first o.store.blocks) s of_store)

  pub over_store : IsStore size (sectors_of first o.part.blocks) (sectors_of first o.store.blocks)
  over_store = record {
    on_disk = sectors_on first (cap_of l.device) size o.store.blocks
        (blocks_on size g l.device enough rules.device lies)
        (All-contains (IsPartOfLayout (cap_of l.device) l.groups) l.parts o.store rules.parts
        is.listed).blocks;
    once = sectors_distinct first o.store.blocks
        (pairs_right (blocks_of_parts mine) o.store.blocks is.apart);
    apart = sectors_from o.part is.own;
  }

  parts : AreParts size (parts_of slot l)
  parts = parts_kept size slot g l enough rules own lies

  part_is : IsPart size (part_on first o.part)
  part_is =
      All-contains (IsPart size) (map (part_on first) mine) (part_on first o.part) parts.each
      (in_map (part_on first) mine o.part is.own)

  pub over_named : part_named (base_of o.part.name) (parts_of slot l)
      ≡ Some (part_on first o.part)
  over_named =
      named_on slot first mine o.part
      (filter_passes (λ (p : PartOfLayout). is_of_slot slot p.name) l.parts)
      (AllPairs-filter (λ (a b : PartOfLayout). a.name ≢ b.name)
      (λ (p : PartOfLayout). is_of_slot slot p.name) l.parts rules.part_names)
      is.own

  pub over_fits : (ss : List Scanned) (es : List Exception)
      → scanned_named o.part.name ss
      ≡ Some (record { name = o.part.name; chunk = One; exceptions = es })
      → Fits One (length o.part.blocks) (sectors_of first o.store.blocks) es
      → IsOverlaidOn size (parts_of slot l) (overlaid_on l ss o)
  over_fits ss es scan fits =
      let base : List ℕ = sectors_of first o.part.blocks in
      let store : List ℕ = sectors_of first o.store.blocks in
      let written : image_over (scanned_named o.part.name ss) ≡ Written One es =
      ap image_over scan in
      record {
        part = record {
          name = part_is.name;
          on_disk = part_is.on_disk;
          once = part_is.once;
          small = part_is.small;
          store =
              subst (IsStored size base (Some store)) (sym written) (
                over_store,
                subst (λ (n : ℕ). Fits One n store es)
                    (sym (length-sectors_of first o.part.blocks)) fits,
              );
        };
        store = store;
        exceptions = es;
        stored = refl;
        written = written;
        base = over_named;
        apart =
            All-map (λ (q : Part). (s : ℕ) → Contains q.map s → Contains store s → ⊥)
            (part_on first) mine
            (all_from
            (λ (q : PartOfLayout). (s : ℕ)
            → Contains (sectors_of first q.blocks) s
            → Contains store s
            → ⊥)
            mine sectors_from);
      }

-- what was scanned alone is found by its name
scan_found : (name : List ℕ) (es : List Exception) (ss : List Scanned)
    → ss ≡ record { name = name; chunk = One; exceptions = es } ∷ []
    → scanned_named name ss ≡ Some (record { name = name; chunk = One; exceptions = es })
scan_found name es ss is =
    ap (scanned_named name) is
    ∙ (let same : bytes_eq name name ≡ true = eq_name name name refl in rw same refl)

pub overlaid_here : (size slot : ℕ) (g : Geometry) (l : Layout) (overlaid : Bool)
    (ss : List Scanned)
    → 4120 ≤ size
    → IsLayout l
    → IsOwn slot l.parts
    → lies_in size g l.device ≡ true
    → KeepsOverlay overlaid slot l
    → AreOverScanned overlaid slot l ss
    → IsOverlaidHere size overlaid slot l ss
overlaid_here size slot g l false ss enough rules own lies kept are = record {
  there = refl;
  fits = tt;
}
overlaid_here size slot g l true ss enough rules own lies kept are = record {
  there = ap (λ (x : Option Overlaid). is_some (option_map (overlaid_on l ss) x)) are.found;
  fits =
      subst
      (λ (x : Option Overlaid).
      IsOverlay size (Some (parts_of slot l)) (option_map (overlaid_on l ss) x))
      (sym are.found)
      (over_fits size slot g l are.over enough rules own lies
      (judged_over slot l are.over kept are.found) ss are.exceptions
      (scan_found are.over.part.name are.exceptions ss are.is) are.fits);
}

-- ---- what is read of a table's one

module _
    (slot : ℕ) (t : Table) (p s : Partition)
    (is : overlaid_in slot (layout_of t).parts ≡ Some (pair_of t p s)) where
  abbrev at : ℕ
  at = (layout_of t).device.first_logical_sector

  -- its blocks, and those of its store
  as_laid : (q : Partition) (blocks : List ℕ)
      → blocks ≡ sectors_of (first_sector_of t) (blocks_of_partition t q)
      → blocks ≡ sectors_of at (blocks_of_partition t q)
  as_laid q blocks laid =
      laid ∙ ap (λ (n : ℕ). sectors_of n (blocks_of_partition t q)) (sym (layout_first t))

  wanted_is : (base store : List ℕ)
      → base ≡ sectors_of (first_sector_of t) (blocks_of_partition t p)
      → store ≡ sectors_of (first_sector_of t) (blocks_of_partition t s)
      → overlay_wanted true slot (layout_of t) ≡ Ok (wanted_there p.name base store) ∷ []
  wanted_is base store of_base of_store =
      let base_is = sym (as_laid p base of_base) in
      let store_is = sym (as_laid s store of_store) in
      ap (wanted_over (layout_of t)) is
      ∙ (λ i. Ok (record {
        name = p.name;
        base = sectors_of at (blocks_of_partition t p);
        store = Some (sectors_of at (blocks_of_partition t s));
        chunk = One;
        count = sym (length-sectors_of at (blocks_of_partition t s)) i;
        fewer = true;
        clean = true;
      }) ∷ [])
      ∙ (λ i. Ok (wanted_there p.name (base_is i) (store_is i)) ∷ [])

  pub over_read : (base store : List ℕ) (image : Image) (x : Result Scanned StartFault)
      → base ≡ sectors_of (first_sector_of t) (blocks_of_partition t p)
      → store ≡ sectors_of (first_sector_of t) (blocks_of_partition t s)
      → scan_at (wanted_there p.name base store) image ≡ x
      → scans_in (overlay_wanted true slot (layout_of t)) image
      ≡ (x >>= λ s. Ok [] >>= λ rest. Ok (s ∷ rest))
  over_read base store image x of_base of_store read =
      ap (λ (ws : List (Result Wanted StartFault)). scans_in ws image)
      (wanted_is base store of_base of_store)
      ∙ ap (λ (y : Result Scanned StartFault). y >>= λ s. Ok [] >>= λ rest. Ok (s ∷ rest)) read

  pub over_is : (part : Part) (store : List ℕ) (es : List Exception)
      → part ≡ part_on (first_sector_of t) (part_of t p)
      → store ≡ sectors_of (first_sector_of t) (blocks_of_partition t s)
      → Some (record part { store = Some store; image = Written One es })
      ≡ overlay_of true slot (layout_of t)
      (record { name = p.name; chunk = One; exceptions = es } ∷ [])
  over_is part store es of_part of_store =
      let ss : List Scanned = record { name = p.name; chunk = One; exceptions = es } ∷ [] in
      let found : image_over (scanned_named p.name ss) ≡ Written One es =
      ap image_over (scan_found p.name es ss refl) in
      let part_is = of_part
      ∙ ap (λ (n : ℕ). part_on n (part_of t p)) (sym (layout_first t)) in
      let store_is = as_laid s store of_store in
      (λ i. Some (record (part_is i) {
        store = Some (store_is i);
        image = sym found i;
      }))
      ∙ sym (ap (option_map (overlaid_on (layout_of t) ss)) is)

  pub over_scanned : (n : ℕ) (base store : List ℕ) (es : List Exception)
      → n ≡ length base
      → base ≡ sectors_of (first_sector_of t) (blocks_of_partition t p)
      → store ≡ sectors_of (first_sector_of t) (blocks_of_partition t s)
      → Fits One n store es
      → IsOverScanned slot (layout_of t)
      (record { name = p.name; chunk = One; exceptions = es } ∷ [])
  over_scanned n base store es long of_base of_store fits =
      let count : n ≡ length (blocks_of_partition t p) =
      long ∙ ap length of_base
      ∙ length-sectors_of (first_sector_of t) (blocks_of_partition t p) in
      record {
        over = pair_of t p s;
        found = is;
        exceptions = es;
        fits =
            subst (λ (k : ℕ). Fits One k (sectors_of at (blocks_of_partition t s)) es) count
            (subst (λ (l : List ℕ). Fits One n l es) (as_laid s store of_store) fits);
        is = refl;
      }

  module _
      (keeps : KeepsRules t)
      (judged : KeepsOverlay true slot (layout_of t)) where
    rules : IsLayout (layout_of t)
    rules = layout_keeps t keeps

    by : IsOverlaidBy slot (layout_of t).parts (part_of t p) (part_of t s)
    by = judged_over slot (layout_of t) (pair_of t p s) judged is

    pub over_own : IsOwn slot (layout_of t).parts → IsOwnPart slot (part_of t p)
    over_own own =
        All-contains (IsOwnPart slot) (own_parts slot (layout_of t).parts) (part_of t p) own.each
        by.own

    pub over_long : 2 ≤ length p.name
    over_long =
        of_slot_long slot p.name
        (of_filter (λ (q : PartOfLayout). is_of_slot slot q.name) (layout_of t).parts (part_of t p)
        by.own).1

    pub over_small : length (blocks_of_partition t s) < 2 ^ 60
    over_small =
        omega (
          arith,
          over_cap slot (layout_of t) (part_of t p) (part_of t s) rules by,
          rules.device.fits.size,
        )

    pub over_on_disk : (size : ℕ) (store : List ℕ)
        → 4096 + end_of (layout_of t).device ≤ size
        → store ≡ sectors_of (first_sector_of t) (blocks_of_partition t s)
        → IsOnDisk store size
    over_on_disk size store on of_store =
        let cap = cap_of (layout_of t).device in
        subst (λ (l : List ℕ). IsOnDisk l size) (sym (as_laid s store of_store))
        (on_from (sectors_of at (blocks_of_partition t s)) size
        (sectors_on at cap size (blocks_of_partition t s) (omega (arith, on))
        (All-contains (IsPartOfLayout cap (layout_of t).groups) (layout_of t).parts (part_of t s)
        rules.parts by.listed).blocks))
