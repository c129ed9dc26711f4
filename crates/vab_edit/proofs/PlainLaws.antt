-- An edit sees of the source its own partitions alone.
use Rattle.std.proofs.Common.{◌≡◌, ℕ, ◌+◌, ◌-◌, ◌^◌, not, ◌&&◌, ◌||◌}
use Rattle.std.proofs.Common.{List, [], ◌∷◌, ◌++◌, length, map, take, Ok, refl, ap}
use Rattle.std.specs.Prelude.{◌==◌, nat_le, nat_lt, bit_or, if◌then◌else◌, Bool, true, false}
use Rattle.std.specs.Str.{bytes_eq}
use Rattle.std.proofs.lemmas.List.Elements.{filter_passes}
use Rattle.vab_names.specs.Names.{is_full, is_of_slot, in_slot, store_of, default_name}
use Rattle.vab_names.specs.Names.{store_group_name, most_partitions}
use Rattle.vab_space.specs.declared.Want.{Want}
use Rattle.vab_space.specs.Space.{blocks_of, group_sum_of, used_of}
use Rattle.vab_tables.specs.Rules.{cap_of}
use Rattle.vab_blocks.specs.Blocks.{free_below}
use Rattle.vab_layout.specs.declared.layout.Part.{Part}
use Rattle.vab_layout.specs.declared.layout.Layout.{Layout}
use Rattle.vab_layout.specs.Layout.{blocks_of_parts}
use Rattle.vab_layout.specs.Plain.{plain, default_group, own_groups}
use Rattle.vab_layout.specs.Slots.{other_slot, own_parts, store_parts, blocks_named, before_of}
use Rattle.vab_layout.specs.Slots.{twins_by}
use Rattle.vab_builder.specs.declared.edit.Edit.{Edit}
use Rattle.vab_builder.specs.declared.edit.Edit.TheVariants.{Create, Resize, Delete, AddStore}
use Rattle.vab_builder.specs.declared.fault.EditFault.TheVariants.{BadName, BadSize, Unknown}
use Rattle.vab_builder.specs.declared.fault.EditFault.TheVariants.{Exists, HasStore, TooMany}
use Rattle.vab_builder.specs.declared.fault.EditFault.TheVariants.{GroupLimit, NoRoom}
use Rattle.vab_builder.specs.Edits.{free_of, kept_blocks, first_group, with_group, changed}
use Rattle.vab_builder.specs.Edits.{with_created, with_resized, with_store, store_blocks, updated}
use Rattle.vab_builder.specs.Edits.{unless, is_known, is_plain, group_named, created, resized}
use Rattle.vab_builder.specs.Edits.{stored, changed_beside}
use Rattle.vab_builder.specs.Import.{stores_group}
use Rattle.vab_builder.specs.Sizes.{want_of, wants_of, wants_resized, wants_stored, used_by}
use Rattle.vab_builder.specs.Sizes.{limit_of, sizes_in, is_within}
use Rattle.vab_builder.proofs.ListLaws.{filter_all}
use Rattle.vab_names.proofs.NameCases.{in_slot_is}
use Rattle.vab_builder.proofs.PartLaws.{named_own}

-- two sources with the same partitions of their slot, and twins with the same blocks
module _
    (slot : ℕ) (from source target : Layout) (new_twins twins : List Part)
    (own : own_parts (other_slot slot) from.parts ≡ own_parts (other_slot slot) source.parts)
    (before : (name : List ℕ) → before_of slot new_twins name ≡ before_of slot twins name)
  where
    free : free_of slot from target ≡ free_of slot source target
    free =
        ap (λ (l : List Part). free_below (cap_of target.device)
        (blocks_of_parts l
        ++ blocks_of_parts (own_parts slot target.parts ++ store_parts slot target.parts))) own

    want : (p : Part) → want_of slot new_twins target.parts p
        ≡ want_of slot twins target.parts p
    want p = λ i. record {
      before = length (before p.name i);
      blocks = length p.blocks;
      store = length (blocks_named (store_of p.name) target.parts);
    }

    used : (ws vs : List Want) → ws ≡ vs → used_by slot from.parts ws ≡ used_by slot source.parts vs
    used ws vs e = λ i. used_of (map (λ p. length p.blocks) (own i)) (e i)

    -- ---- a partition more

    created_used : (name : List ℕ) (n : ℕ)
        → used_by slot from.parts
        (wants_of slot new_twins target.parts
        ++ record { before = length (before_of slot new_twins name); blocks = n; store = 0 } ∷ [])
        ≡ used_by slot source.parts
        (wants_of slot twins target.parts
        ++ record { before = length (before_of slot twins name); blocks = n; store = 0 } ∷
        [])
    created_used name n = used _ _ (λ i.
        map (λ p. want p i) (own_parts slot target.parts)
        ++ record { before = length (before name i); blocks = n; store = 0 } ∷ [])

    created_with : (name : List ℕ) (n : ℕ)
        → with_created slot new_twins from target name n
        ≡ with_created slot twins source target name n
    created_with name n = λ i. record target {
      parts = target.parts ++ record {
        name = name;
        attributes = 5;
        group = first_group (own_groups slot target.groups);
        blocks = take n (before name i) ++ take (n - length (before name i)) (free i);
      } ∷ [];
      groups =
          if bytes_eq (first_group (own_groups slot target.groups)) default_name
          then with_group default_group target.groups
          else target.groups;
    }

    created_same : (name : List ℕ) (bytes : ℕ)
        → created slot new_twins from target name bytes
        ≡ created slot twins source target name bytes
    unfolding created
    created_same name bytes = λ i.
        let mine : List Part = own_parts slot target.parts in
        let n : ℕ = blocks_of bytes in
        let group : List ℕ = first_group (own_groups slot target.groups) in
        let sum : ℕ = group_sum_of (sizes_in group name n mine ++ n ∷ []) in
        unless (is_full slot name) BadName
        (unless (nat_le bytes (2 ^ 40)) BadSize
        (unless (not (is_known slot target name)) Exists
        (unless (nat_lt (length mine) most_partitions) (TooMany (length mine + 1))
        (unless (is_within sum (limit_of target.groups group))
        (GroupLimit sum (limit_of target.groups group))
        (unless (nat_le (created_used name n i) (cap_of target.device))
        (NoRoom (created_used name n i) (cap_of target.device))
        (Ok (created_with name n i)))))))

    -- ---- another size

    resized_used : (name : List ℕ) (n : ℕ)
        → used_by slot from.parts (wants_resized slot new_twins target.parts name n)
        ≡ used_by slot source.parts (wants_resized slot twins target.parts name n)
    resized_used name n = used _ _ (λ i.
        map (λ p. if bytes_eq p.name name then record (want p i) { blocks = n } else want p i)
        (own_parts slot target.parts))

    resized_with : (name : List ℕ) (n : ℕ)
        → with_resized slot new_twins from target name n
        ≡ with_resized slot twins source target name n
    resized_with name n = λ i.
        if length (blocks_named name target.parts) == n then target else record target {
          parts = changed name
              (λ p. record p {
                attributes = bit_or p.attributes 4;
                blocks = kept_blocks (before p.name i) p.blocks n
                    ++ take (n - length (kept_blocks (before p.name i) p.blocks n)) (free i);
              })
              target.parts;
        }

    resized_same : (name : List ℕ) (bytes : ℕ)
        → resized slot new_twins from target name bytes
        ≡ resized slot twins source target name bytes
    unfolding resized
    resized_same name bytes = λ i.
        let mine : List Part = own_parts slot target.parts in
        let n : ℕ = blocks_of bytes in
        let group : List ℕ = group_named name mine in
        let sum : ℕ = group_sum_of (sizes_in group name n mine) in
        unless (is_full slot name) BadName
        (unless (nat_le bytes (2 ^ 40)) BadSize
        (unless (is_known slot target name) Unknown
        (unless (is_plain target name) HasStore
        (unless (is_within sum (limit_of target.groups group))
        (GroupLimit sum (limit_of target.groups group))
        (unless (nat_le (resized_used name n i) (cap_of target.device))
        (NoRoom (resized_used name n i) (cap_of target.device))
        (Ok (resized_with name n i)))))))

    -- ---- a store

    stored_used : (name : List ℕ) (n : ℕ)
        → used_by slot from.parts (wants_stored slot new_twins target.parts name n)
        ≡ used_by slot source.parts (wants_stored slot twins target.parts name n)
    stored_used name n = used _ _ (λ i.
        map (λ p. if bytes_eq p.name name then record (want p i) { store = n } else want p i)
        (own_parts slot target.parts))

    stored_with : (name : List ℕ) (n : ℕ)
        → with_store slot from target name n ≡ with_store slot source target name n
    stored_with name n = λ i. record target {
      parts = changed name updated target.parts ++ record {
        name = store_of name;
        attributes = 0;
        group = store_group_name;
        blocks = take n (free i);
      } ∷ [];
      groups = with_group stores_group target.groups;
    }

    stored_same : (name : List ℕ) (bytes : ℕ)
        → stored slot new_twins from target name bytes
        ≡ stored slot twins source target name bytes
    unfolding stored
    stored_same name bytes = λ i.
        let n : ℕ = store_blocks target name bytes in
        unless (is_full slot name) BadName
        (unless (nat_le bytes (2 ^ 40) && (bytes == 0 || nat_lt 1 (blocks_of bytes))) BadSize
        (unless (is_known slot target name) Unknown
        (unless (is_plain target name) HasStore
        (unless (nat_le (stored_used name n i) (cap_of target.device))
        (NoRoom (stored_used name n i) (cap_of target.device))
        (Ok (stored_with name n i))))))

    changed_same : (edit : Edit)
        → changed_beside slot new_twins from target edit
        ≡ changed_beside slot twins source target edit
    changed_same (Create n bytes) = created_same n.now bytes
    changed_same (Resize n bytes) = resized_same n.now bytes
    changed_same (Delete n) = refl
    changed_same (AddStore n bytes) = stored_same n.now bytes

-- the source without stores serves as well
pub changed_plain : (apart : Bool) (slot : ℕ) (source target : Layout) (edit : Edit)
    → changed_beside slot (twins_by apart (plain (other_slot slot) source).parts)
    (plain (other_slot slot) source) target edit
    ≡ changed_beside slot (twins_by apart source.parts) source target edit
unfolding plain
changed_plain apart slot source target edit =
    let other : ℕ = other_slot slot in
    let mine : List Part = own_parts other source.parts in
    changed_same slot (plain other source) source target
    (twins_by apart (plain other source).parts)
    (twins_by apart source.parts)
    (filter_all (λ p. is_of_slot other p.name) mine
    (filter_passes (λ p. is_of_slot other p.name) source.parts))
    (before_same apart)
    edit
  where
    before_same : (apart : Bool) (name : List ℕ)
        → before_of slot (twins_by apart (own_parts (other_slot slot) source.parts)) name
        ≡ before_of slot (twins_by apart source.parts) name
    before_same true name = refl
    before_same false name =
        named_own (other_slot slot) (in_slot (other_slot slot) name) source.parts
        (in_slot_is (other_slot slot) name)
