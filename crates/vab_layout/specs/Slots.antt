-- The rules of a slot's own partitions, of the target of an update and of its exception stores.
use Rattle.std.specs.Prelude.{◌≡◌, ◌≢◌, ◌⊎◌, ℕ, ◌-◌, ◌≤◌, ◌^◌, bit_and, Bool, not, ◌||◌}
use Rattle.std.specs.Prelude.{◌==◌, if◌then◌else◌, List, [], ◌∷◌, ◌++◌, length, map, take, drop}
use Rattle.std.specs.Prelude.{All, Any, AllPairs, Contains, IsTrue}
use Rattle.std.specs.List.{filter}
use Rattle.std.specs.Str.{bytes_eq}
use Rattle.vab_names.specs.Names.{is_base, is_of_slot, is_store, base_of, in_slot, store_of}
use Rattle.vab_names.specs.Names.{default_name, store_group_name, most_partitions}
use Rattle.vab_tables.specs.declared.entries.Group.{Group}
use Rattle.vab_layout.specs.declared.layout.Part.{Part}
use Rattle.vab_layout.specs.Layout.{blocks_of_parts}

-- the other slot
abbrev pub other_slot : ℕ → ℕ
other_slot slot = 1 - slot

-- a slot's own partitions: those whose name ends in its suffix
abbrev pub own_parts : ℕ → List Part → List Part
own_parts slot parts = filter (λ p. is_of_slot slot p.name) parts

-- the exception stores of a slot's partitions
abbrev pub store_parts : ℕ → List Part → List Part
store_parts slot parts = filter (λ p. is_store slot p.name) parts

abbrev pub IsDistinct : List ℕ → Type 0
IsDistinct blocks = AllPairs (λ a b. a ≢ b) blocks

-- ---- a slot's own partitions

-- a base name and the suffix, at most 2^40 bytes, in the group of no slot or in one of the slot
pub record IsOwnPart (slot : ℕ) (p : Part) : Type 0 where
  pub base : IsTrue (is_base (base_of p.name))
  pub size : length p.blocks ≤ 2 ^ 28
  pub group : IsTrue (bytes_eq p.group default_name || is_of_slot slot p.group)

-- no more of them than a slot has, and no block twice
pub record IsOwn (slot : ℕ) (parts : List Part) : Type 0 where
  pub each : All (IsOwnPart slot) (own_parts slot parts)
  pub few : length (own_parts slot parts) ≤ most_partitions
  pub once : IsDistinct (blocks_of_parts (own_parts slot parts))

-- ---- the target of an update

-- the blocks of the first partition of this name
abbrev pub blocks_named : List ℕ → List Part → List ℕ
blocks_named name [] = []
blocks_named name (p ∷ ps) = if bytes_eq p.name name then p.blocks else blocks_named name ps

-- the blocks of the source's partition of the same base name
abbrev pub before_of : ℕ → List Part → List ℕ → List ℕ
before_of slot source name = blocks_named (in_slot (other_slot slot) name) source

-- the partitions of the source whose blocks an update's partitions of the same base name begin
-- with: all of them, or none where the update stands apart
abbrev pub twins_by : (apart : Bool) → List Part → List Part
twins_by apart source = if apart then [] else source

-- the partition is marked as updated
abbrev pub is_updated : Part → Bool
is_updated p = not (bit_and p.attributes 4 == 0)

-- A partition of the target: it begins with blocks of its twin, the partition of the same base name
-- among these of the source, all that there are or as many as it has, and its other blocks are no
-- block of the source. Where it isn't marked as updated it has its twin's blocks and no store.
pub record IsTargetPartBeside (slot : ℕ) (twins source target : List Part) (p : Part) : Type 0 where
  pub begins : take (length (before_of slot twins p.name)) p.blocks
      ≡ take (length p.blocks) (before_of slot twins p.name)
  pub fresh : All (λ b. Contains (blocks_of_parts (own_parts (other_slot slot) source)) b
      → ⊥) (drop (length (before_of slot twins p.name)) p.blocks)
  pub kept : IsTrue (is_updated p)
      ⊎ (Any (λ s. s.name ≡ in_slot (other_slot slot) p.name) twins
      × (p.blocks ≡ before_of slot twins p.name) × All (λ s. s.name ≢ store_of p.name) target)

-- the same, where each partition of the source may be a twin
abbrev pub IsTargetPart : (slot : ℕ) → (source target : List Part) → Part → Type 0
IsTargetPart slot source target = IsTargetPartBeside slot source source target

-- a store: it is one of a partition of the target that is marked as updated, stands in the stores'
-- group, and has no block of the source
pub record IsStorePart (slot : ℕ) (source target : List Part) (s : Part) : Type 0 where
  pub group : s.group ≡ store_group_name
  pub of_part : Any (λ p. (s.name ≡ store_of p.name) × IsTrue (is_updated p))
      (own_parts slot target)
  pub apart : All (λ b. Contains (blocks_of_parts (own_parts (other_slot slot) source)) b
      → ⊥) s.blocks

-- The target of an update from the other slot, with these twins: no block stands twice in its
-- partitions and their stores.
pub record IsTargetBeside (slot : ℕ) (twins source target : List Part) : Type 0 where
  pub own : IsOwn slot target
  pub each : All (IsTargetPartBeside slot twins source target) (own_parts slot target)
  pub stores : All (IsStorePart slot source target) (store_parts slot target)
  pub once : IsDistinct (blocks_of_parts (own_parts slot target ++ store_parts slot target))

-- the same, where each partition of the source may be a twin
abbrev pub IsTarget : (slot : ℕ) → (source target : List Part) → Type 0
IsTarget slot source target = IsTargetBeside slot source source target

-- the groups of a slot, each with its limit
abbrev pub groups_of_slot : ℕ → List Group → List (List ℕ × ℕ)
groups_of_slot slot groups =
    map (λ g. (base_of g.name, g.maximum_size)) (filter (λ g. is_of_slot slot g.name) groups)
