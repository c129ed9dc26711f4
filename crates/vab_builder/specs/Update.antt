-- What an update's source and target keep, and how an edit is judged.
use Rattle.std.specs.Prelude.{◌≡◌, ℕ, ◌<◌, ◌⊎◌, List, []}
use Rattle.vab_layout.specs.declared.layout.Part.{Part}
use Rattle.vab_layout.specs.declared.layout.Layout.{Layout}
use Rattle.vab_layout.specs.Rules.{IsLayout}
use Rattle.vab_layout.specs.Slots.{other_slot, IsOwn, IsTargetBeside}

-- the twins of a target's partitions are all partitions of its source, or none
abbrev pub AreTwins : (twins source : List Part) → Type 0
AreTwins twins source = (twins ≡ source) ⊎ (twins ≡ [])

-- the layouts of a source and of a target that is updated from it, with these twins
pub record IsUpdateBeside (slot : ℕ) (twins : List Part) (source target : Layout) : Type 0 where
  pub low : slot < 2
  pub source_rules : IsLayout source
  pub target_rules : IsLayout target
  pub own : IsOwn (other_slot slot) source.parts
  pub twins_are : AreTwins twins source.parts
  pub parts : IsTargetBeside slot twins source.parts target.parts
  pub device : source.device ≡ target.device

-- the same, where each partition of the source may be a twin
abbrev pub IsUpdate : (slot : ℕ) → (source target : Layout) → Type 0
IsUpdate slot source target = IsUpdateBeside slot source.parts source target
