-- What stands where an edit passes all of its tests.
use Rattle.std.specs.Prelude.{◌≡◌, ℕ, ◌^◌, ◌<◌, ◌≤◌, Bool, true, false, ◌&&◌, ◌||◌, ◌==◌, nat_le}
use Rattle.std.specs.Prelude.{nat_lt, List, [], ◌∷◌, ◌++◌, length}
use Rattle.vab_names.specs.Names.{is_full, store_of, most_partitions}
use Rattle.vab_space.specs.Space.{blocks_of, group_sum_of}
use Rattle.vab_tables.specs.Rules.{cap_of}
use Rattle.vab_layout.specs.declared.layout.Part.{Part}
use Rattle.vab_layout.specs.declared.layout.Layout.{Layout}
use Rattle.vab_layout.specs.Plain.{own_groups}
use Rattle.vab_layout.specs.Slots.{own_parts, before_of}
use Rattle.vab_builder.specs.Edits.{first_group, group_named, store_blocks}
use Rattle.vab_builder.specs.Sizes.{has_part, wants_of, wants_resized, wants_stored, used_by}
use Rattle.vab_builder.specs.Sizes.{limit_of, sizes_in, is_within}

-- ---- a partition more

-- its group
abbrev pub created_group : ℕ → Layout → List ℕ
created_group slot target = first_group (own_groups slot target.groups)

-- bytes in the group with the partition more
abbrev pub created_group_sum : ℕ → Layout → List ℕ → ℕ → ℕ
created_group_sum slot target name n =
    group_sum_of
    (sizes_in (created_group slot target) name n (own_parts slot target.parts) ++ n ∷ [])

abbrev pub created_group_limit : ℕ → Layout → ℕ
created_group_limit slot target = limit_of target.groups (created_group slot target)

-- blocks in use with the partition more
abbrev pub created_in_use : ℕ → List Part → Layout → Layout → List ℕ → ℕ → ℕ
created_in_use slot twins source target name n =
    used_by slot source.parts
    (wants_of slot twins target.parts
    ++ record { before = length (before_of slot twins name); blocks = n; store = 0 } ∷ [])

pub record IsCreated (slot : ℕ) (twins : List Part) (source target : Layout) (name : List ℕ)
    (bytes : ℕ) : Type 0 where
  pub full : is_full slot name ≡ true
  pub size : bytes ≤ 2 ^ 40
  pub absent : has_part name target.parts ≡ false
  pub few : length (own_parts slot target.parts) < most_partitions
  pub within : is_within (created_group_sum slot target name (blocks_of bytes))
      (created_group_limit slot target) ≡ true
  pub room : created_in_use slot twins source target name (blocks_of bytes) ≤ cap_of target.device

-- ---- another size

-- bytes in its group
abbrev pub resized_group_sum : ℕ → Layout → List ℕ → ℕ → ℕ
resized_group_sum slot target name n =
    group_sum_of (sizes_in (group_named name target.parts) name n (own_parts slot target.parts))

abbrev pub resized_group_limit : Layout → List ℕ → ℕ
resized_group_limit target name = limit_of target.groups (group_named name target.parts)

-- blocks in use
abbrev pub resized_in_use : ℕ → List Part → Layout → Layout → List ℕ → ℕ → ℕ
resized_in_use slot twins source target name n =
    used_by slot source.parts (wants_resized slot twins target.parts name n)

pub record IsResized (slot : ℕ) (twins : List Part) (source target : Layout) (name : List ℕ)
    (bytes : ℕ) : Type 0 where
  pub full : is_full slot name ≡ true
  pub size : bytes ≤ 2 ^ 40
  pub known : has_part name target.parts ≡ true
  pub plain : has_part (store_of name) target.parts ≡ false
  pub within : is_within (resized_group_sum slot target name (blocks_of bytes))
      (resized_group_limit target name) ≡ true
  pub room : resized_in_use slot twins source target name (blocks_of bytes) ≤ cap_of target.device

-- ---- a partition less

pub record IsDeleted (slot : ℕ) (target : Layout) (name : List ℕ) : Type 0 where
  pub full : is_full slot name ≡ true
  pub known : has_part name target.parts ≡ true
  pub plain : has_part (store_of name) target.parts ≡ false

-- ---- a store

-- a size that a store may have: 0, or more than a block
abbrev pub store_size : ℕ → Bool
store_size bytes = nat_le bytes (2 ^ 40) && (bytes == 0 || nat_lt 1 (blocks_of bytes))

-- blocks in use
abbrev pub stored_in_use : ℕ → List Part → Layout → Layout → List ℕ → ℕ → ℕ
stored_in_use slot twins source target name n =
    used_by slot source.parts (wants_stored slot twins target.parts name n)

pub record IsStored (slot : ℕ) (twins : List Part) (source target : Layout) (name : List ℕ)
    (bytes : ℕ) : Type 0 where
  pub full : is_full slot name ≡ true
  pub size : store_size bytes ≡ true
  pub known : has_part name target.parts ≡ true
  pub plain : has_part (store_of name) target.parts ≡ false
  pub room : stored_in_use slot twins source target name (store_blocks target name bytes)
      ≤ cap_of target.device
