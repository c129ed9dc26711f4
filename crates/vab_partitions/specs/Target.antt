-- The partitions and the stores of an update's target, in the order of its table.
use Rattle.std.specs.Prelude.{ℕ, ◌≤◌, List, length}
use Rattle.vab_layout.specs.declared.layout.Part.{Part}
use Rattle.vab_layout.specs.Slots.{own_parts, IsOwnPart, IsTargetPartBeside, IsStorePart}
use Rattle.vab_layout.specs.Slots.{IsTargetBeside}
pub use Rattle.vab_partitions.specs.Together.{target_parts}
use Rattle.vab_partitions.specs.Together.{KeepsEither, FirstBad}

-- one of them keeps the rules of the slot's own and of a target, or those of a store
abbrev pub KeepsAlone : (slot : ℕ) → (twins source target : List Part) → Part → Type 0
KeepsAlone slot twins source target =
    KeepsEither slot (λ p. IsOwnPart slot p × IsTargetPartBeside slot twins source target p)
    (IsStorePart slot source target)

-- the target of an update, and at most so many partitions of its own
pub record FitsBeside (most slot : ℕ) (twins source target : List Part) : Type 0 where
  pub is : IsTargetBeside slot twins source target
  pub few : length (own_parts slot target) ≤ most

-- the same, where each partition of the source may be a twin
abbrev pub FitsTarget : (most slot : ℕ) → (source target : List Part) → Type 0
FitsTarget most slot source target = FitsBeside most slot source source target

-- the first that breaks one of these rules beside those in front of it, or is one too many
abbrev pub IsFirstBad : (most slot : ℕ) → (twins source target : List Part) → List ℕ → Type 0
IsFirstBad most slot twins source target =
    FirstBad most slot (KeepsAlone slot twins source target) target
