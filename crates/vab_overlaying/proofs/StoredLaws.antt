-- A slot's table with a store over the partition of a name: what is found in it by the names.
use Rattle.std.proofs.Common.{◌≡◌, ◌≢◌, ◌∙◌, ℕ, ◌≤◌, ◌<◌, ◌^◌, true, List, length, sym, ap}
use Rattle.std.proofs.Common.{subst, arith}
use Rattle.std.specs.Prelude.{Some}
use Rattle.std.proofs.lemmas.List.Elements.{All-contains, filter_passes}
use Rattle.vab_names.specs.Names.{is_of_slot, is_base, base_of, store_of}
use Rattle.vab_names.proofs.NameCases.{full_short}
use Rattle.vab_names.proofs.NameLaws.{of_slot_long}
use Rattle.vab_tables.specs.declared.entries.Partition.{Partition}
use Rattle.vab_tables.specs.declared.table.Table.{Table}
use Rattle.vab_tables.specs.Rules.{cap_of}
use Rattle.vab_blocks.specs.Blocks.{first_sector_of}
use Rattle.vab_blocks.proofs.Contained.{of_filter}
use Rattle.vab_layout.specs.declared.layout.Part.{Part as PartOfLayout}
use Rattle.vab_layout.specs.Layout.{layout_of, part_of, blocks_of_parts, blocks_of_partition}
use Rattle.vab_layout.specs.Rules.{IsLayout, IsPart as IsPartOfLayout}
use Rattle.vab_layout.specs.Slots.{own_parts, IsOwnPart}
use Rattle.vab_layout.proofs.LayoutLaws.{layout_keeps}
use Rattle.vab_builder.specs.Overlay.{overlay_part, IsOverlaid}
use Rattle.vab_builder.proofs.Counting.{few_below, pairs_right}
use Rattle.vab_builder.proofs.ImportLaws.{own_parts_apart}
use Rattle.vab_device.specs.Kept.{part_named, part_on, parts_of, sectors_of}
use Rattle.vab_device.specs.Stores.{first_named}
use Rattle.vab_device.proofs.NamedParts.{first_is}
use Rattle.vab_plan.proofs.PartLaws.{layout_first}
use Rattle.vab_overlaying.specs.Prepared.{HasStore}
use Rattle.vab_overlaying.proofs.OverlaidLaws.{named_own}

module _ (slot : ℕ) (name : List ℕ) (u : Table) (s : HasStore slot name u) where
  abbrev over : IsOverlaid slot (layout_of s.table) (layout_of u) name s.count
  over = s.stored.over

  rules : IsLayout (layout_of u)
  rules = layout_keeps u s.stored.rules

  of_slot : is_of_slot slot name ≡ true
  of_slot =
      ap (is_of_slot slot) (sym over.named)
      ∙ (of_filter (λ (q : PartOfLayout). is_of_slot slot q.name) (layout_of u).parts over.part
      over.is.own).1

  pub stored_long : 2 ≤ length name
  stored_long = of_slot_long slot name of_slot

  pub stored_short : length name ≤ 32
  stored_short =
      full_short slot name of_slot
      (subst (λ (l : List ℕ). is_base (base_of l) ≡ true) over.named
      (All-contains (IsOwnPart slot) (own_parts slot (layout_of u).parts) over.part
      s.stored.own.each over.is.own).base)

  -- the partition
  pub stored_part : part_named (base_of name) (parts_of slot (layout_of u))
      ≡ Some (part_on (layout_of u).device.first_logical_sector s.stored.over.part)
  stored_part =
      ap (λ (l : List ℕ). part_named (base_of l) (parts_of slot (layout_of u))) (sym over.named)
      ∙ named_own slot (layout_of u).device.first_logical_sector
      (own_parts slot (layout_of u).parts) over.part
      (own_parts_apart slot (layout_of u).parts rules.part_names)
      (filter_passes (λ (q : PartOfLayout). is_of_slot slot q.name) (layout_of u).parts)
      over.is.own

  -- and its store
  pub stored_over : first_named (store_of name) (layout_of u).parts
      ≡ Some (overlay_part slot (layout_of s.table) name s.count)
  stored_over =
      first_is (layout_of u).parts (overlay_part slot (layout_of s.table) name s.count)
      rules.part_names over.is.listed

  module _ (p : Partition)
      (is : first_named (store_of name) (layout_of u).parts ≡ Some (part_of u p)) where
    same : overlay_part slot (layout_of s.table) name s.count ≡ part_of u p
    same =
        let both : Some (overlay_part slot (layout_of s.table) name s.count)
        ≡ Some (part_of u p) = sym stored_over ∙ is in
        cc

    pub stored_few : length (blocks_of_partition u p) < 2 ^ 60
    stored_few =
        let o : PartOfLayout = overlay_part slot (layout_of s.table) name s.count in
        let few : length o.blocks ≤ cap_of (layout_of u).device =
        few_below (cap_of (layout_of u).device) o.blocks
        (pairs_right (λ a b. a ≢ b) (blocks_of_parts (own_parts slot (layout_of u).parts)) o.blocks
        over.is.apart)
        (All-contains (IsPartOfLayout (cap_of (layout_of u).device) (layout_of u).groups)
        (layout_of u).parts o rules.parts over.is.listed).blocks in
        let count : length o.blocks ≡ length (blocks_of_partition u p) =
        ap (λ (q : PartOfLayout). length q.blocks) same in
        omega (arith, few, count, rules.device.fits.size)

-- where its blocks stand
pub store_stands : (u : Table) (p : Partition) (m : List ℕ)
    → m ≡ sectors_of (first_sector_of u) (blocks_of_partition u p)
    → m ≡ sectors_of (layout_of u).device.first_logical_sector (part_of u p).blocks
store_stands u p m is =
    is ∙ ap (λ (n : ℕ). sectors_of n (blocks_of_partition u p)) (sym (layout_first u))
