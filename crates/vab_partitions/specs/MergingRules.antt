-- The rules of a slot whose stores are merged as tests on lists, and the first of its partitions
-- and stores with which one is broken.
use Rattle.std.specs.Prelude.{ℕ, Bool, if◌then◌else◌, List, [], Option}
use Rattle.vab_names.specs.Names.{is_of_slot}
use Rattle.vab_layout.specs.declared.layout.Part.{Part}
use Rattle.vab_partitions.specs.Together.{target_parts, bad_behind}
use Rattle.vab_partitions.specs.TargetRules.{own_passes, store_stands}

-- a partition of the slot keeps the rules of a slot's own; a store stands in the stores' group, and
-- a partition of the slot that is marked as updated has it
abbrev pub passes_merging : ℕ → List Part → Part → Bool
passes_merging slot target p =
    if is_of_slot slot p.name then own_passes slot p else store_stands slot target p

-- the name of the first of the slot's partitions and stores with which a rule is broken, where the
-- slot may have so many partitions
unfoldable pub bad_merging_of : (most slot : ℕ) → (target : List Part) → Option (List ℕ)
bad_merging_of most slot target =
    bad_behind most slot (passes_merging slot target) [] (target_parts slot target)
