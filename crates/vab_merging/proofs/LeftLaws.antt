-- Where no store is next, no exception is left.
use Rattle.std.proofs.Common.{◌≡◌, ◌∙◌, inl, inr, ℕ, zero, suc, ◌<◌, true, List, [], ◌∷◌, ◌++◌}
use Rattle.std.proofs.Common.{length, get_or, refl, sym, ap, arith}
use Rattle.std.specs.Prelude.{Option, Some, None, Contains}
use Rattle.std.proofs.lemmas.Bool.{cases_lt, and_from, lt-ltb}
use Rattle.vab_disk.specs.Disk.{Image}
use Rattle.vab_bootctl.specs.declared.slots.Control.{Control}
use Rattle.vab_names.specs.Names.{suffix_of, store_suffix, is_of_slot, base_of}
use Rattle.vab_names.specs.Names.{is_store, store_of}
use Rattle.vab_names.proofs.NameLaws.{of_slot}
use Rattle.vab_marks.specs.declared.mark.MarkPhase.TheVariants as marks
use Rattle.vab_marks.specs.declared.mark.UpdateMark.{UpdateMark}
use Rattle.vab_marks.specs.declared.status.PartStatus.{PartStatus}
use Rattle.vab_geometry.specs.declared.geometry.Geometry.{Geometry}
use Rattle.vab_tables.specs.declared.table.Table.{Table}
use Rattle.vab_physical.specs.declared.tail.Tail.{Tail}
use Rattle.vab_layout.specs.declared.layout.Part.{Part as PartOfLayout}
use Rattle.vab_layout.specs.declared.layout.Layout.{Layout}
use Rattle.vab_layout.specs.Layout.{layout_of}
use Rattle.vab_layout.specs.Slots.{store_parts}
use Rattle.vab_blocks.proofs.Contained.{in_filter, in_map}
use Rattle.vab_names.proofs.NameCases.{eq_name, store_is_store}
use Rattle.vab_device.specs.declared.device.Part.{Part}
use Rattle.vab_device.specs.declared.device.Device.{Device}
use Rattle.vab_device.specs.Kept.{IsDevice, table_of_slot}
use Rattle.vab_device.specs.Mounted.{count_of, count_in}
use Rattle.vab_device.specs.Reading.{kept, Represents}
use Rattle.vab_device.specs.Stores.{Scanned}
use Rattle.vab_merging.specs.Turns.{stores_in, first_place, next_of, own_of, no_part, part_at}
use Rattle.vab_merging.specs.Turns.{left_in, has_store, has_exceptions}
use Rattle.vab_merging.proofs.PlaceLaws.{none_takes}
use Rattle.vab_merging.proofs.OwnLaws.{single_of}
use Rattle.vab_merging.proofs.MergesLaws.{merging_read, Merges, merges_of, slot_is}
use Rattle.vab_merging.proofs.MergesLaws.{rules_of, Placed, placed_of}
use Rattle.vab_device.proofs.NamedParts.{named_in}

none_in : (ps : List Part)
    → ((k : ℕ) → k < length ps → 0 < count_of (get_or ps k no_part).image → ⊥)
    → count_in ps ≡ 0
none_in [] none = refl
none_in (p ∷ ps) none =
    let rest = none_in ps (λ k below some. none (suc k) (omega (arith, below)) some) in
    elim (cases_lt 0 (count_of p.image)) [
      | inl some ↦ absurd (none 0 (omega arith) some)
      | inr empty ↦ omega (arith, rest, empty)
    ]

-- the name of a partition's store, by its base name
store_name : (slot : ℕ) (name : List ℕ)
    → is_of_slot slot name ≡ true
    → base_of name ++ suffix_of slot ++ store_suffix ≡ store_of name
unfolding store_of
store_name slot name own =
    ap (λ (n : List ℕ). n ++ store_suffix) (sym (of_slot slot name own))

table_form : (base : UpdateMark) (slot : ℕ) (ss : List (Option PartStatus)) (seen c : Control)
    (tail : Tail) (g : Geometry) (t : Table) (scanned : List Scanned)
    → slot < 2
    → table_of_slot (record (kept (merging_read base slot ss seen tail g t scanned)) {
      control =
          c;
    }) slot
    ≡ Some t
table_form base zero ss seen c tail g t scanned below = refl
table_form base (suc zero) ss seen c tail g t scanned below = refl
table_form base (suc (suc n)) ss seen c tail g t scanned below = absurd (omega (arith, below))

module _ (d : Device) (size : ℕ) (image : Image)
    (represents : Represents d size image)
    (is : IsDevice d size)
    (merging : d.mark.phase ≡ marks.Merging)
    (none : next_of d ≡ None) where
  i : Merges d size image
  i = merges_of d size image represents merging

  abbrev l : Layout
  l = layout_of i.table

  table_is : table_of_slot d d.mark.slot ≡ Some i.table
  table_is =
      ap (λ (k : Device). table_of_slot k k.mark.slot) i.is
      ∙ table_form i.base i.slot i.statuses i.seen d.control i.tail i.geometry i.table i.scanned
      i.below

  none_of_table : first_place i.slot (own_of d) (stores_in i.slot (Some i.table)) ≡ None
  none_of_table =
      let slot = slot_is d size image i in
      sym (λ j. first_place (slot j) (own_of d) (stores_in (slot j) (table_is j))) ∙ none

  -- the store of a partition with exceptions is one of the table's
  empty : (place : ℕ)
      → place < length (own_of d)
      → 0 < count_of (part_at d place).image
      → ⊥
  empty place below some =
      let p : Placed d size image i place =
      placed_of d size image i place (single_of d size is merging) is (rules_of d size image i is)
      below some in
      let there = named_in (store_of p.part.name) l.parts p.keeps p.found in
      let store : is_store i.slot p.keeps.name ≡ true =
      ap (is_store i.slot) there.1 ∙ store_is_store i.slot p.part.name p.own in
      let among : Contains (store_parts i.slot l.parts) p.keeps =
      in_filter (λ q. is_store i.slot q.name) l.parts p.keeps there.0 store in
      let name : (part_at d place).name ++ suffix_of i.slot ++ store_suffix ≡ p.keeps.name =
      ap (λ (x : Part). x.name ++ suffix_of i.slot ++ store_suffix) p.planned
      ∙ store_name i.slot p.part.name p.own
      ∙ sym there.1 in
      none_takes i.slot (own_of d) (stores_in i.slot (Some i.table)) place p.keeps.name
      none_of_table
      (in_map (λ (s : PartOfLayout). s.name) (store_parts i.slot l.parts) p.keeps among)
      below
      (and_from (has_store i.slot p.keeps.name (part_at d place))
      (has_exceptions (part_at d place))
      (eq_name _ _ name)
      (lt-ltb 0 (count_of (part_at d place).image) some))

  pub none_left : left_in d ≡ 0
  none_left = none_in (own_of d) empty
