-- The edits of an update's target, each as the layout that it gives or the first refusal.
use Rattle.std.specs.Prelude.{ℕ, ◌+◌, ◌-◌, ◌^◌, Bool, true, false, not, ◌&&◌, ◌||◌, ◌==◌, nat_le}
use Rattle.std.specs.Prelude.{nat_lt, bit_or, if◌then◌else◌, List, [], ◌∷◌, ◌++◌, length, map, take}
use Rattle.std.specs.Prelude.{drop, Result, Ok, Err}
use Rattle.std.specs.List.{filter, list_any}
use Rattle.std.specs.Str.{bytes_eq}
use Rattle.vab_names.specs.Names.{is_full, store_of, default_name, store_group_name}
use Rattle.vab_names.specs.Names.{most_partitions}
use Rattle.vab_space.specs.Space.{need_of, blocks_of, group_sum_of}
use Rattle.vab_tables.specs.declared.entries.Group.{Group}
use Rattle.vab_tables.specs.Rules.{cap_of}
use Rattle.vab_tables.specs.Spelling.{table_size_of}
use Rattle.vab_blocks.specs.Blocks.{free_below}
use Rattle.vab_layout.specs.declared.layout.Part.{Part}
use Rattle.vab_layout.specs.declared.layout.Layout.{Layout}
use Rattle.vab_layout.specs.Layout.{table_of, blocks_of_parts}
use Rattle.vab_layout.specs.Slots.{other_slot, own_parts, store_parts, blocks_named, before_of}
use Rattle.vab_builder.specs.declared.fault.EditFault.{EditFault}
use Rattle.vab_builder.specs.declared.fault.EditFault.TheVariants.{BadName, BadSize, Unknown}
use Rattle.vab_builder.specs.declared.fault.EditFault.TheVariants.{Exists, HasStore, TooMany}
use Rattle.vab_builder.specs.declared.fault.EditFault.TheVariants.{GroupLimit, NoRoom, TableFull}
use Rattle.vab_builder.specs.declared.edit.Edit.{Edit}
use Rattle.vab_builder.specs.declared.edit.Edit.TheVariants.{Create, Resize, Delete, AddStore}
use Rattle.vab_layout.specs.Plain.{default_group, own_groups}
use Rattle.vab_builder.specs.Import.{stores_group}
use Rattle.vab_builder.specs.Sizes.{has_part, wants_of, wants_resized, wants_stored, used_by}
use Rattle.vab_builder.specs.Sizes.{limit_of, sizes_in, is_within}

-- ---- blocks

-- the blocks that are in no partition of the source, and in no partition and no store of the target
abbrev pub free_of : ℕ → Layout → Layout → List ℕ
free_of slot source target =
    free_below (cap_of target.device)
    (blocks_of_parts (own_parts (other_slot slot) source.parts)
    ++ blocks_of_parts (own_parts slot target.parts ++ store_parts slot target.parts))

-- a new partition of n blocks: those of its twin, the source's of the same base name, as many as
-- there are, and then the lowest free ones
abbrev pub created_blocks : ℕ → List Part → Layout → Layout → List ℕ → ℕ → List ℕ
created_blocks slot twins source target name n =
    let before = before_of slot twins name in
    take n before ++ take (n - length before) (free_of slot source target)

-- another size: its twin's blocks, then the former fresh ones, and then the lowest free ones
abbrev pub kept_blocks : List ℕ → List ℕ → ℕ → List ℕ
kept_blocks before blocks n =
    take n before ++ take (n - length before) (drop (length before) blocks)

abbrev pub resized_blocks : ℕ → List Part → Layout → Layout → Part → ℕ → List ℕ
resized_blocks slot twins source target p n =
    let kept = kept_blocks (before_of slot twins p.name) p.blocks n in
    kept ++ take (n - length kept) (free_of slot source target)

-- the blocks of the partition of this name at another size
abbrev pub resized_to : ℕ → List Part → Layout → Layout → List ℕ → ℕ → List ℕ
resized_to slot twins source target name n =
    kept_blocks (before_of slot twins name) (blocks_named name target.parts) n
    ++ take
    (n - length
    (kept_blocks (before_of slot twins name) (blocks_named name target.parts) n))
    (free_of slot source target)

-- ---- layouts

-- the first group of the slot, or that of no slot
abbrev pub first_group : List Group → List ℕ
first_group [] = default_name
first_group (g ∷ gs) = g.name

-- the groups with this one, as the last where there is none of its name
abbrev pub with_group : Group → List Group → List Group
with_group group groups =
    if list_any (λ g. bytes_eq g.name group.name) groups then groups else groups ++ group ∷ []

-- read-only and updated
abbrev pub created_part : ℕ → List Part → Layout → Layout → List ℕ → ℕ → Part
created_part slot twins source target name n =
    record {
      name = name;
      attributes = 5;
      group =
          first_group (own_groups slot target.groups);
      blocks = created_blocks slot twins source target name n;
    }

abbrev pub with_created : ℕ → List Part → Layout → Layout → List ℕ → ℕ → Layout
with_created slot twins source target name n = record target {
  parts = target.parts ++ created_part slot twins source target name n ∷ [];
  groups =
      if bytes_eq (first_group (own_groups slot target.groups)) default_name then with_group
      default_group target.groups else target.groups;
}

-- each partition of this name is changed
abbrev pub changed : List ℕ → (Part → Part) → List Part → List Part
changed name change parts = map (λ p. if bytes_eq p.name name then change p else p) parts

abbrev pub updated : Part → Part
updated p = record p { attributes = bit_or p.attributes 4 }

abbrev pub resized_part : ℕ → List Part → Layout → Layout → ℕ → Part → Part
resized_part slot twins source target n p =
    record p {
      attributes = bit_or p.attributes 4;
      blocks = resized_blocks slot twins source target
          p n;
    }

abbrev pub with_resized : ℕ → List Part → Layout → Layout → List ℕ → ℕ → Layout
with_resized slot twins source target name n =
    if length (blocks_named name target.parts) == n then target else record target {
      parts =
          changed name (resized_part slot twins source target n) target.parts;
    }

abbrev pub with_deleted : Layout → List ℕ → Layout
with_deleted target name =
    record target { parts = filter (λ p. not (bytes_eq p.name name)) target.parts }

-- blocks of a store of so many bytes; 0 bytes are as many blocks as all blocks of the partition may
-- need
abbrev pub store_blocks : Layout → List ℕ → ℕ → ℕ
store_blocks target name bytes =
    if bytes == 0 then need_of (length (blocks_named name target.parts)) else blocks_of bytes

abbrev pub store_part : ℕ → Layout → Layout → List ℕ → ℕ → Part
store_part slot source target name n =
    record {
      name = store_of name;
      attributes = 0;
      group = store_group_name;
      blocks =
          take n (free_of slot source target);
    }

abbrev pub with_store : ℕ → Layout → Layout → List ℕ → ℕ → Layout
with_store slot source target name n = record target {
  parts = changed name updated target.parts ++ store_part slot source target name n ∷ [];
  groups = with_group stores_group target.groups;
}

-- ---- refusals

-- this refusal, where a test fails
abbrev pub unless : {A : Type 0} → Bool → EditFault → Result A EditFault → Result A EditFault
unless true fault next = next
unless false fault next = Err fault

-- the name of a partition of the target's
abbrev pub is_known : ℕ → Layout → List ℕ → Bool
is_known slot target name = has_part name (own_parts slot target.parts)

-- it has no store
abbrev pub is_plain : Layout → List ℕ → Bool
is_plain target name = not (has_part (store_of name) target.parts)

-- a layout whose table's text is at most so long
abbrev pub fitting : ℕ → Layout → Result Layout EditFault
fitting max l =
    unless (nat_le (table_size_of (table_of l)) max) (TableFull (table_size_of (table_of l)) max)
    (Ok l)

-- the group of the partition of this name
abbrev pub group_named : List ℕ → List Part → List ℕ
group_named name [] = default_name
group_named name (p ∷ ps) = if bytes_eq p.name name then p.group else group_named name ps

unfoldable pub created : ℕ → List Part → Layout → Layout → List ℕ → ℕ → Result Layout EditFault
created slot twins source target name bytes =
    let own = own_parts slot target.parts in
    let n = blocks_of bytes in
    let group = first_group (own_groups slot target.groups) in
    let sum = group_sum_of (sizes_in group name n own ++ n ∷ []) in
    let used =
    used_by slot source.parts
    (wants_of slot twins target.parts
    ++ record {
      before = length (before_of slot twins name);
      blocks = n;
      store =
          0;
    } ∷ []) in
    unless (is_full slot name) BadName
    (unless (nat_le bytes (2 ^ 40)) BadSize
    (unless (not (is_known slot target name)) Exists
    (unless (nat_lt (length own) most_partitions) (TooMany (length own + 1))
    (unless (is_within sum (limit_of target.groups group))
    (GroupLimit sum (limit_of target.groups group))
    (unless (nat_le used (cap_of target.device)) (NoRoom used (cap_of target.device))
    (Ok (with_created slot twins source target name n)))))))

unfoldable pub resized : ℕ → List Part → Layout → Layout → List ℕ → ℕ → Result Layout EditFault
resized slot twins source target name bytes =
    let own = own_parts slot target.parts in
    let n = blocks_of bytes in
    let group = group_named name own in
    let sum = group_sum_of (sizes_in group name n own) in
    let used = used_by slot source.parts (wants_resized slot twins target.parts name n) in
    unless (is_full slot name) BadName
    (unless (nat_le bytes (2 ^ 40)) BadSize
    (unless (is_known slot target name) Unknown
    (unless (is_plain target name) HasStore
    (unless (is_within sum (limit_of target.groups group))
    (GroupLimit sum (limit_of target.groups group))
    (unless (nat_le used (cap_of target.device)) (NoRoom used (cap_of target.device))
    (Ok (with_resized slot twins source target name n)))))))

unfoldable pub deleted : ℕ → Layout → List ℕ → Result Layout EditFault
deleted slot target name =
    unless (is_full slot name) BadName
    (unless (is_known slot target name) Unknown
    (unless (is_plain target name) HasStore
    (Ok (with_deleted target name))))

unfoldable pub stored : ℕ → List Part → Layout → Layout → List ℕ → ℕ → Result Layout EditFault
stored slot twins source target name bytes =
    let n = store_blocks target name bytes in
    let used = used_by slot source.parts (wants_stored slot twins target.parts name n) in
    unless (is_full slot name) BadName
    (unless (nat_le bytes (2 ^ 40) && (bytes == 0 || nat_lt 1 (blocks_of bytes))) BadSize
    (unless (is_known slot target name) Unknown
    (unless (is_plain target name) HasStore
    (unless (nat_le used (cap_of target.device)) (NoRoom used (cap_of target.device))
    (Ok (with_store slot source target name n))))))

-- what an edit makes of the target, before its table's text is measured
abbrev pub changed_beside : ℕ → List Part → Layout → Layout → Edit → Result Layout EditFault
changed_beside slot twins source target (Create name bytes) =
    created slot twins source target name.now bytes
changed_beside slot twins source target (Resize name bytes) =
    resized slot twins source target name.now bytes
changed_beside slot twins source target (Delete name) = deleted slot target name.now
changed_beside slot twins source target (AddStore name bytes) =
    stored slot twins source target name.now bytes

-- the same, where each partition of the source may be a twin
abbrev pub changed_by : ℕ → Layout → Layout → Edit → Result Layout EditFault
changed_by slot source target edit = changed_beside slot source.parts source target edit

abbrev pub if_fitting : ℕ → Result Layout EditFault → Result Layout EditFault
if_fitting max (Ok l) = fitting max l
if_fitting max (Err fault) = Err fault

-- what an edit gives
abbrev pub edited_beside : ℕ → List Part → Layout → Layout → ℕ → Edit → Result Layout EditFault
edited_beside slot twins source target max edit =
    if_fitting max (changed_beside slot twins source target edit)

abbrev pub edited : ℕ → Layout → Layout → ℕ → Edit → Result Layout EditFault
edited slot source target max edit = edited_beside slot source.parts source target max edit
