-- A slot's own partition with a store over it: what holds of both by the rules of the slot's table.
use Rattle.std.proofs.Common.{◌≡◌, ◌≢◌, inl, inr, ℕ, suc, ◌+◌, ◌≤◌, true, false}
use Rattle.std.proofs.Common.{List, [], ◌∷◌, ◌++◌, length, get_or, refl, ap, arith}
use Rattle.std.specs.Prelude.{Some, map, All, AllPairs, Contains}
use Rattle.std.specs.Str.{bytes_eq}
use Rattle.std.proofs.lemmas.List.Elements.{All-contains, All-map, Contains-get_or}
use Rattle.vab_names.specs.Names.{is_of_slot, base_of, in_slot, suffix_of}
use Rattle.vab_names.proofs.NameCases.{eq_name, ne_name}
use Rattle.vab_space.specs.declared.Chunk.TheVariants.{One}
use Rattle.vab_store.specs.View.{Fits}
use Rattle.vab_geometry.specs.declared.geometry.Geometry.{Geometry}
use Rattle.vab_tables.specs.declared.table.Table.{Table}
use Rattle.vab_tables.specs.Rules.{cap_of}
use Rattle.vab_blocks.proofs.Contained.{in_piece, in_map, of_filter, cons_cases, none_in_nil}
use Rattle.vab_blocks.proofs.Contained.{later}
use Rattle.vab_layout.specs.declared.layout.Part.{Part as PartOfLayout}
use Rattle.vab_layout.specs.declared.layout.Layout.{Layout}
use Rattle.vab_layout.specs.Layout.{layout_of, blocks_of_parts}
use Rattle.vab_layout.specs.Rules.{IsLayout, IsPart as IsPartOfLayout}
use Rattle.vab_layout.specs.Slots.{own_parts, IsDistinct}
use Rattle.vab_layout.specs.Overlay.{Overlaid, IsOverlaidBy}
use Rattle.vab_layout.proofs.LayoutLaws.{layout_keeps}
use Rattle.vab_builder.proofs.Counting.{Apart, apart_parts, pairs_head, pairs_tail, pairs_right}
use Rattle.vab_builder.proofs.ImportLaws.{own_parts_apart}
use Rattle.vab_builder.proofs.SlotLaws.{in_slot_one}
use Rattle.vab_device.specs.declared.device.Part.{Part}
use Rattle.vab_device.specs.Kept.{sectors_of, part_on, parts_of, part_named, IsTableOf, AreParts}
use Rattle.vab_device.specs.Kept.{IsPart, IsStore, IsOverlaidOn}
use Rattle.vab_device.specs.Reading.{IsOfBlocks}
use Rattle.vab_device.proofs.NamedParts.{Named}
use Rattle.vab_device.proofs.OwnParts.{parts_kept, sectors_distinct, sectors_on, blocks_on}
use Rattle.vab_device.proofs.OwnParts.{length-sectors_of}
use Rattle.vab_device.proofs.PartBlocks.{sectors_apart}
use Rattle.vab_overlaying.specs.Begun.{over_part}

-- a block begins with its first sector
begins_block : (blocks : List ℕ) (s : ℕ) → Contains blocks s → IsOfBlocks blocks s
begins_block [] s is = absurd (none_in_nil s is)
begins_block (b ∷ bs) s is = elim (cons_cases b bs s is) [
  | inl here ↦ inl (record { from = omega (arith, here); below = omega (arith, here) })
  | inr there ↦ inr (begins_block bs s there)
]

-- ---- names

-- names of one slot with the same base are one
pub base_one : (slot : ℕ) (a b : List ℕ)
    → is_of_slot slot a ≡ true
    → is_of_slot slot b ≡ true
    → base_of a ≡ base_of b
    → a ≡ b
unfolding in_slot
base_one slot a b of_a of_b same =
    in_slot_one slot 0 a b of_a of_b (ap (λ (base : List ℕ). base ++ suffix_of 0) same)

-- the first of the slot's partitions with the base name of one is that one
pub named_own : (slot at : ℕ) (ps : List PartOfLayout) (p : PartOfLayout)
    → AllPairs Named ps
    → All (λ (q : PartOfLayout). is_of_slot slot q.name ≡ true) ps
    → Contains ps p
    → part_named (base_of p.name) (map (part_on at) ps) ≡ Some (part_on at p)
named_own slot at [] p differ of c = absurd (none_in_nil p c)
named_own slot at (x ∷ xs) p differ of c = elim (cons_cases x xs p c) [
  | inl here ↦
      let is : bytes_eq (base_of x.name) (base_of p.name) ≡ true =
      eq_name (base_of x.name) (base_of p.name)
      (ap (λ (y : PartOfLayout). base_of y.name) here) in
      rw is (ap (λ (y : PartOfLayout). Some (part_on at y)) here)
  | inr there ↦
      let of_p : is_of_slot slot p.name ≡ true =
      All-contains (λ (q : PartOfLayout). is_of_slot slot q.name ≡ true) (x ∷ xs) p of
      (later x xs p there) in
      let of_x : is_of_slot slot x.name ≡ true = of 0 x (omega arith) in
      let other : bytes_eq (base_of x.name) (base_of p.name) ≡ false =
      ne_name (base_of x.name) (base_of p.name)
      (λ same.
      All-contains (λ y. x.name ≢ y.name) xs p (pairs_head Named x xs differ) there
      (base_one slot x.name p.name of_x of_p same)) in
      rw other
      (named_own slot at xs p (pairs_tail Named x xs differ)
      (λ k d lt. of (suc k) d (omega (arith, lt))) there)
]

-- ---- a partition and its store

-- a store without exceptions
no_exceptions : (bound : ℕ) (store : List ℕ) → 2 ≤ length store → Fits One bound store []
no_exceptions bound store two = record {
  chunks = two;
  room = omega (arith, two);
  lie = λ j lt. absurd (omega (arith, lt));
  once = λ i j ij lt. absurd (omega (arith, lt));
}

module _
    (size slot : ℕ) (g : Geometry) (t : Table)
    (enough : 4120 ≤ size)
    (of : IsTableOf size g slot t)
    (o : Overlaid)
    (by : IsOverlaidBy slot (layout_of t).parts o.part o.store) where
  abbrev l : Layout
  l = layout_of t

  abbrev at : ℕ
  at = (layout_of t).device.first_logical_sector

  abbrev own : List PartOfLayout
  own = own_parts slot (layout_of t).parts

  rules : IsLayout (layout_of t)
  rules = layout_keeps t of.rules

  -- no partition of the slot has a block of the store
  pub apart_one : (p : PartOfLayout)
      → Contains (own_parts slot (layout_of t).parts) p
      → Apart p.blocks o.store.blocks
  apart_one p c = λ b in_part in_store.
      apart_parts (blocks_of_parts own) o.store.blocks by.apart b
      (in_piece (λ (q : PartOfLayout). q.blocks) own p b c in_part) in_store

  pub own_parts_are : AreParts size (parts_of slot (layout_of t))
  own_parts_are = parts_kept size slot g l enough rules of.own of.lies

  is_part : IsPart size (part_on at o.part)
  is_part =
      All-contains (IsPart size) (parts_of slot l) (part_on at o.part) own_parts_are.each
      (in_map (part_on at) own o.part by.own)

  pub store_distinct : IsDistinct o.store.blocks
  store_distinct =
      pairs_right (λ a b. a ≢ b) (blocks_of_parts own) o.store.blocks by.apart

  pub store_on_disk : All (λ s. s + 8 ≤ size)
      (sectors_of (layout_of t).device.first_logical_sector o.store.blocks)
  store_on_disk =
      sectors_on at (cap_of l.device) size o.store.blocks
      (blocks_on size g l.device enough rules.device of.lies)
      (All-contains (IsPartOfLayout (cap_of l.device) l.groups) l.parts o.store rules.parts
      by.listed).blocks

  store_apart : (p : PartOfLayout)
      → Contains own p
      → (s : ℕ)
      → Contains (sectors_of at p.blocks) s
      → Contains (sectors_of at o.store.blocks) s
      → ⊥
  store_apart p c s of_own of_store =
      sectors_apart at p.blocks o.store.blocks s (apart_one p c)
      (begins_block (sectors_of at p.blocks) s of_own)
      (begins_block (sectors_of at o.store.blocks) s of_store)

  is_store : IsStore size (sectors_of at o.part.blocks) (sectors_of at o.store.blocks)
  is_store = record {
    on_disk = store_on_disk;
    once = sectors_distinct at o.store.blocks store_distinct;
    apart = store_apart o.part by.own;
  }

  -- the partition is overlaid, where the store has two blocks
  pub is_overlaid_on : 2 ≤ length o.store.blocks
      → IsOverlaidOn size (parts_of slot (layout_of t))
      (over_part (part_on (layout_of t).device.first_logical_sector o.part)
      (sectors_of (layout_of t).device.first_logical_sector o.store.blocks))
  is_overlaid_on two = record {
    part = record {
      name = is_part.name;
      on_disk = is_part.on_disk;
      once = is_part.once;
      small = is_part.small;
      store = (
        is_store,
        no_exceptions (length (sectors_of at o.part.blocks)) (sectors_of at o.store.blocks)
            (omega (arith, two, length-sectors_of at o.store.blocks)),
      );
    };
    store = sectors_of at o.store.blocks;
    exceptions = [];
    stored = refl;
    written = refl;
    base =
        named_own slot at own o.part (own_parts_apart slot l.parts rules.part_names)
        (λ k d lt.
        (of_filter (λ (q : PartOfLayout). is_of_slot slot q.name) l.parts (get_or own k d)
        (Contains-get_or own k d lt)).1)
        by.own;
    apart =
        All-map (λ (q : Part). (s : ℕ) → Contains q.map s
        → Contains (sectors_of at o.store.blocks) s → ⊥)
        (part_on at) own
        (λ k d lt. store_apart (get_or own k d) (Contains-get_or own k d lt));
  }
