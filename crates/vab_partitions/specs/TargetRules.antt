-- The rules of an update's target as tests on lists, and the first of its partitions and stores
-- with which one is broken.
use Rattle.std.specs.Prelude.{ℕ, ◌^◌, Bool, ◌&&◌, ◌||◌, not, ◌==◌, nat_le, if◌then◌else◌, List, []}
use Rattle.std.specs.Prelude.{length, take, drop, Option}
use Rattle.std.specs.List.{list_all, list_any}
use Rattle.std.specs.Str.{bytes_eq}
use Rattle.vab_names.specs.Names.{is_base, base_of, is_of_slot, in_slot, store_of}
use Rattle.vab_names.specs.Names.{default_name, store_group_name}
use Rattle.vab_layout.specs.declared.layout.Part.{Part}
use Rattle.vab_layout.specs.Layout.{blocks_of_parts}
use Rattle.vab_layout.specs.Slots.{other_slot, own_parts, before_of, is_updated}
use Rattle.vab_partitions.specs.Together.{target_parts, bad_behind}

-- whether a partition has this name
abbrev pub is_named : List ℕ → List Part → Bool
is_named name parts = list_any (λ p. bytes_eq p.name name) parts

-- whether none of these blocks is one that is taken
abbrev pub are_apart : List ℕ → List ℕ → Bool
are_apart taken blocks = list_all (λ b. not (list_any (λ c. c == b) taken)) blocks

-- the blocks of the source
abbrev pub source_blocks : ℕ → List Part → List ℕ
source_blocks slot source = blocks_of_parts (own_parts (other_slot slot) source)

-- a base name, at most 2^40 bytes, and the group of no slot or one of the slot
abbrev pub own_passes : ℕ → Part → Bool
own_passes slot p =
    is_base (base_of p.name) && nat_le (length p.blocks) (2 ^ 28)
    && (bytes_eq p.group default_name || is_of_slot slot p.group)

-- it has a twin, a partition of its base name in the source, of the same blocks, and no store
abbrev pub is_unchanged : (slot : ℕ) → (twins target : List Part) → Part → Bool
is_unchanged slot twins target p =
    is_named (in_slot (other_slot slot) p.name) twins
    && bytes_eq p.blocks (before_of slot twins p.name)
    && not (is_named (store_of p.name) target)

-- it begins with its twin's blocks, as many as it has or all, has no other block of the source,
-- and is marked as updated or unchanged
abbrev pub target_passes : (slot : ℕ) → (twins source target : List Part) → Part → Bool
target_passes slot twins source target p =
    bytes_eq (take (length (before_of slot twins p.name)) p.blocks)
    (take (length p.blocks) (before_of slot twins p.name))
    && are_apart (source_blocks slot source)
    (drop (length (before_of slot twins p.name)) p.blocks)
    && (is_updated p || is_unchanged slot twins target p)

-- a store: it stands in the stores' group, and a partition of the target that is marked as updated
-- has it
abbrev pub store_stands : ℕ → List Part → Part → Bool
store_stands slot target s =
    bytes_eq s.group store_group_name
    && list_any (λ p. bytes_eq s.name (store_of p.name) && is_updated p) (own_parts slot target)

-- so it does, and it has no block of the source
abbrev pub store_passes : ℕ → List Part → List Part → Part → Bool
store_passes slot source target s =
    store_stands slot target s && are_apart (source_blocks slot source) s.blocks

-- the rules of one partition or store
abbrev pub passes_alone : (slot : ℕ) → (twins source target : List Part) → Part → Bool
passes_alone slot twins source target p =
    if is_of_slot slot p.name
    then own_passes slot p && target_passes slot twins source target p
    else store_passes slot source target p

-- the name of the first of the target's partitions and stores with which a rule is broken, where
-- the slot may have so many partitions
unfoldable pub bad_beside : (most slot : ℕ) → (twins source target : List Part)
    → Option (List ℕ)
bad_beside most slot twins source target =
    bad_behind most slot (passes_alone slot twins source target) [] (target_parts slot target)

-- the same, where each partition of the source may be a twin
abbrev pub bad_target_of : (most slot : ℕ) → (source target : List Part) → Option (List ℕ)
bad_target_of most slot source target = bad_beside most slot source source target
