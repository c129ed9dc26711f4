-- A slot whose stores are merged, with no source beside it.
use Rattle.std.specs.Prelude.{◌≡◌, ℕ, ◌≤◌, List, ◌++◌, length, All, Any, IsTrue}
use Rattle.vab_names.specs.Names.{store_of, store_group_name}
use Rattle.vab_layout.specs.declared.layout.Part.{Part}
use Rattle.vab_layout.specs.Layout.{blocks_of_parts}
use Rattle.vab_layout.specs.Slots.{own_parts, store_parts, is_updated}
use Rattle.vab_layout.specs.Slots.{IsDistinct, IsOwn, IsOwnPart}
use Rattle.vab_partitions.specs.Together.{KeepsEither}

-- a store: it is one of a partition of the slot that is marked as updated, and stands in the
-- stores' group
pub record IsStoreAlone (slot : ℕ) (target : List Part) (s : Part) : Type 0 where
  pub group : s.group ≡ store_group_name
  pub of_part : Any (λ p. (s.name ≡ store_of p.name) × IsTrue (is_updated p))
      (own_parts slot target)

-- no block stands twice in the slot's own partitions and their stores
pub record IsMerging (slot : ℕ) (target : List Part) : Type 0 where
  pub own : IsOwn slot target
  pub stores : All (IsStoreAlone slot target) (store_parts slot target)
  pub once : IsDistinct (blocks_of_parts (own_parts slot target ++ store_parts slot target))

-- such a slot, and at most so many partitions of its own
pub record FitsMerging (most slot : ℕ) (target : List Part) : Type 0 where
  pub is : IsMerging slot target
  pub few : length (own_parts slot target) ≤ most

-- one of them keeps the rules of the slot's own, or those of a store
abbrev pub KeepsMerging : ℕ → List Part → Part → Type 0
KeepsMerging slot target = KeepsEither slot (IsOwnPart slot) (IsStoreAlone slot target)
