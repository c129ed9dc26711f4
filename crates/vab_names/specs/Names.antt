-- Names of partitions and groups that belong to a slot: a base name and the slot's suffix.
use Rattle.std.specs.Prelude.{ℕ, ◌-◌, Bool, ◌&&◌, not, ◌==◌, nat_eq, nat_le, if◌then◌else◌, List}
use Rattle.std.specs.Prelude.{◌++◌, length, take, codes}
use Rattle.std.specs.List.{list_any, ends_with}
use Rattle.vab_bytes.specs.Name.{is_name}

-- at most 30 bytes, and none is a hyphen
abbrev pub is_short : List ℕ → Bool
is_short text = nat_le (length text) 30 && not (list_any (λ b. b == 45) text)

-- a partition's name without a slot's suffix: such a name
unfoldable pub is_base : List ℕ → Bool
is_base text = is_name text && is_short text

-- what the names of a slot's partitions and groups end in
abbrev pub suffix_of : ℕ → List ℕ
suffix_of slot = if slot == 0 then codes "_a" else codes "_b"

-- the name ends in the slot's suffix
unfoldable pub is_of_slot : ℕ → List ℕ → Bool
is_of_slot slot name = ends_with nat_eq name (suffix_of slot)

-- a name without its suffix
unfoldable pub base_of : List ℕ → List ℕ
base_of name = take (length name - 2) name

-- with the suffix of a slot in place of its own
unfoldable pub in_slot : ℕ → List ℕ → List ℕ
in_slot slot name = base_of name ++ suffix_of slot

-- a base name and the slot's suffix
unfoldable pub is_full : ℕ → List ℕ → Bool
is_full slot name = is_of_slot slot name && is_base (base_of name)

-- ---- exception stores

-- what a store's name has behind the name of its partition
abbrev pub store_suffix : List ℕ
store_suffix = codes "-cow"

-- the name of a store of the slot: it ends in the slot's suffix and `-cow`
unfoldable pub is_store : ℕ → List ℕ → Bool
is_store slot name = ends_with nat_eq name (suffix_of slot ++ store_suffix)

-- the name of a partition's store
unfoldable pub store_of : List ℕ → List ℕ
store_of name = name ++ store_suffix

-- ---- partitions of a slot

-- how many of them there are at most, and so how many images a set has
abbrev pub most_partitions : ℕ
most_partitions = 64

-- ---- groups of no slot

abbrev pub default_name : List ℕ
default_name = codes "default"

abbrev pub store_group_name : List ℕ
store_group_name = codes "cow"
