-- An exception store over one of a slot's own partitions, while there is no update.
use Rattle.std.specs.Prelude.{◌≡◌, ℕ, Bool, if◌then◌else◌, List, [], ◌∷◌, ◌++◌, Option, Some}
use Rattle.std.specs.Prelude.{None, Contains}
use Rattle.std.specs.Str.{bytes_eq}
use Rattle.vab_names.specs.Names.{store_of, store_group_name}
use Rattle.vab_blocks.specs.Blocks.{is_distinct}
use Rattle.vab_layout.specs.declared.layout.Part.{Part}
use Rattle.vab_layout.specs.Layout.{blocks_of_parts}
use Rattle.vab_layout.specs.Slots.{own_parts, IsDistinct}

-- a partition, and the store over it
pub record Overlaid : Type 0 where
  pub part : Part
  pub store : Part

-- the first of these partitions whose store has this name
abbrev pub part_of_store : (own : List Part) → Part → Option Part
part_of_store [] s = None
part_of_store (p ∷ ps) s =
    if bytes_eq s.name (store_of p.name) then Some p else part_of_store ps s

-- the same, where the store stands in the stores' group
abbrev pub overlaid_by : (own : List Part) → Part → Option Part
overlaid_by own s = if bytes_eq s.group store_group_name then part_of_store own s else None

-- a store with its partition in front of these; these alone, where it is a store of none
abbrev pub paired : Option Part → Part → List Overlaid → List Overlaid
paired None s rest = rest
paired (Some p) s rest = record { part = p; store = s } ∷ rest

-- each store of one of these partitions with it, in the order of the table
abbrev pub overlays_of : (own parts : List Part) → List Overlaid
overlays_of own [] = []
overlays_of own (s ∷ ss) = paired (overlaid_by own s) s (overlays_of own ss)

-- the one of these, where there is exactly one
abbrev pub only_one : List Overlaid → Option Overlaid
only_one [] = None
only_one (o ∷ []) = Some o
only_one (o ∷ _ ∷ _) = None

-- the slot's own partition that has a store, and the store, where there is exactly one such store
unfoldable pub overlaid_in : ℕ → List Part → Option Overlaid
overlaid_in slot parts = only_one (overlays_of (own_parts slot parts) parts)

-- no block stands twice in the slot's own partitions and the store
abbrev pub is_apart : ℕ → List Part → Part → Bool
is_apart slot parts store =
    is_distinct (blocks_of_parts (own_parts slot parts) ++ store.blocks)

-- the partition is one of the slot's own and the store is its: by its name, in the stores' group,
-- and of blocks that are in none of the slot's partitions, each once
pub record IsOverlaidBy (slot : ℕ) (parts : List Part) (p s : Part) : Type 0 where
  pub own : Contains (own_parts slot parts) p
  pub listed : Contains parts s
  pub name : s.name ≡ store_of p.name
  pub group : s.group ≡ store_group_name
  pub apart : IsDistinct (blocks_of_parts (own_parts slot parts) ++ s.blocks)
