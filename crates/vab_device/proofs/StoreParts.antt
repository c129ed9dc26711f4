-- The store of a slot's own partition, by the rules of its table.
use Rattle.std.proofs.Common.{◌≡◌, ◌∙◌, inl, inr, ℕ, ◌≤◌, true, List, [], ◌∷◌, ◌++◌}
use Rattle.std.proofs.Common.{ap, arith}
use Rattle.std.specs.Prelude.{Some, Contains}
use Rattle.std.proofs.lemmas.List.Elements.{All-contains, Contains-append_left}
use Rattle.std.proofs.lemmas.List.Elements.{Contains-append_right}
use Rattle.vab_names.specs.Names.{is_of_slot, is_store, store_of}
use Rattle.vab_names.proofs.NameCases.{own_or_store, store_is_store}
use Rattle.vab_tables.specs.Rules.{cap_of}
use Rattle.vab_geometry.specs.declared.geometry.Geometry.{Geometry}
use Rattle.vab_blocks.proofs.Contained.{of_filter, in_filter, cons_cases, none_in_nil}
use Rattle.vab_layout.specs.declared.layout.Part.{Part as PartOfLayout}
use Rattle.vab_layout.specs.declared.layout.Layout.{Layout}
use Rattle.vab_layout.specs.Layout.{blocks_of_parts}
use Rattle.vab_layout.specs.Rules.{IsLayout, IsPart as IsPartOfLayout}
use Rattle.vab_layout.specs.Slots.{own_parts, store_parts, IsDistinct}
use Rattle.vab_builder.proofs.ChangedTarget.{apart_pair}
use Rattle.vab_builder.proofs.Counting.{Apart}
use Rattle.vab_device.specs.Kept.{sectors_of, lies_in, IsStore}
use Rattle.vab_device.specs.Reading.{IsOfBlocks}
use Rattle.vab_device.specs.Stores.{first_named}
use Rattle.vab_device.proofs.NamedParts.{named_in}
use Rattle.vab_device.proofs.OwnParts.{each_distinct, sectors_distinct, sectors_on, blocks_on}
use Rattle.vab_device.proofs.PartBlocks.{sectors_apart}

-- a block begins with its first sector
begins_block : (blocks : List ℕ) (s : ℕ) → Contains blocks s → IsOfBlocks blocks s
begins_block [] s is = absurd (none_in_nil s is)
begins_block (b ∷ bs) s is = elim (cons_cases b bs s is) [
  | inl here ↦ inl (record { from = omega (arith, here); below = omega (arith, here) })
  | inr there ↦ inr (begins_block bs s there)
]

module _
    (size slot : ℕ) (g : Geometry) (l : Layout)
    (enough : 4120 ≤ size)
    (rules : IsLayout l)
    (once : IsDistinct (blocks_of_parts (own_parts slot l.parts ++ store_parts slot l.parts)))
    (lies : lies_in size g l.device ≡ true) where
  abbrev first : ℕ
  first = l.device.first_logical_sector

  abbrev both : List PartOfLayout
  both = own_parts slot l.parts ++ store_parts slot l.parts

  pub store_is : (p q : PartOfLayout)
      → Contains (own_parts slot l.parts) p
      → first_named (store_of p.name) l.parts ≡ Some q
      → IsStore size (sectors_of first p.blocks) (sectors_of first q.blocks)
  store_is p q c is =
      let own = of_filter (λ (r : PartOfLayout). is_of_slot slot r.name) l.parts p c in
      let found = named_in (store_of p.name) l.parts q is in
      let stored : is_store slot q.name ≡ true =
      ap (is_store slot) found.1 ∙ store_is_store slot p.name own.1 in
      let among : Contains both q =
      Contains-append_right (own_parts slot l.parts) (store_parts slot l.parts) q
      (in_filter (λ (r : PartOfLayout). is_store slot r.name) l.parts q found.0 stored) in
      let others : Apart p.blocks q.blocks =
      apart_pair both p q once
      (Contains-append_left (own_parts slot l.parts) (store_parts slot l.parts) p c)
      among
      (λ same. own_or_store slot slot p.name own.1 (ap (is_store slot) same ∙ stored)) in
      record {
        on_disk = sectors_on first (cap_of l.device) size q.blocks
            (blocks_on size g l.device enough rules.device lies)
            (All-contains (IsPartOfLayout (cap_of l.device) l.groups) l.parts q rules.parts
            found.0).blocks;
        once = sectors_distinct first q.blocks
            (All-contains (λ (r : PartOfLayout). IsDistinct r.blocks) both q
            (each_distinct both once) among);
        apart = λ s of_own of_store.
            sectors_apart first p.blocks q.blocks s others
            (begins_block (sectors_of first p.blocks) s of_own)
            (begins_block (sectors_of first q.blocks) s of_store);
      }
