-- What is seen of a target in front of one of its partitions.
use Rattle.std.specs.Prelude.{◌≡◌, ℕ, ◌+◌, ◌≤◌, List, [], ◌∷◌, ◌++◌, length}
use Rattle.vab_blocks.specs.Blocks.{is_distinct}
use Rattle.vab_layout.specs.declared.layout.Part.{Part}
use Rattle.vab_layout.specs.Layout.{blocks_of_parts}
use Rattle.vab_layout.specs.Slots.{own_parts, IsDistinct}
use Rattle.vab_partitions.specs.declared.target.Front.{Front}
use Rattle.vab_partitions.specs.Together.{target_parts}

-- nothing yet
pub record IsStart (slot : ℕ) (target : List Part) (front : Front) : Type 0 where
  pub seen : front.seen ≡ []
  pub own : front.own ≡ 0
  pub apart : front.apart ≡ is_distinct (blocks_of_parts (target_parts slot target))

-- there is room for a partition or a store behind them where the slot may have so many partitions
pub record HasRoom (most slot : ℕ) (front : Front) (p : Part) : Type 0 where
  pub once : IsDistinct (front.seen ++ p.blocks)
  pub few : front.own + length (own_parts slot (p ∷ [])) ≤ most

-- it may stand there
pub record Joins (most slot : ℕ) (Keeps : Part → Type 0) (front : Front) (p : Part) : Type 0 where
  pub room : HasRoom most slot front p
  pub alone : Keeps p

-- it does
pub record IsJoined (slot : ℕ) (old new : Front) (p : Part) : Type 0 where
  pub apart : new.apart ≡ old.apart
  pub seen : new.seen ≡ old.seen ++ p.blocks
  pub own : new.own ≡ old.own + length (own_parts slot (p ∷ []))
