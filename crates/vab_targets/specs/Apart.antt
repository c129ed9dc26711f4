-- What targets without twins are, and what their edits make.
use Rattle.std.specs.Prelude.{◌≡◌, ◌↔◌, ℕ, ◌+◌, ◌-◌, List, [], ◌++◌, length, sum, sum_by, take, All}
use Rattle.std.specs.Prelude.{Contains, IsTrue}
use Rattle.vab_names.specs.Names.{store_of}
use Rattle.vab_layout.specs.declared.layout.Part.{Part}
use Rattle.vab_layout.specs.declared.layout.Layout.{Layout}
use Rattle.vab_layout.specs.Layout.{blocks_of_parts}
use Rattle.vab_layout.specs.Slots.{other_slot, own_parts, blocks_named, is_updated}
use Rattle.vab_layout.specs.Slots.{IsTargetPartBeside}
use Rattle.vab_builder.specs.Edits.{free_of, created_blocks, resized_blocks}
use Rattle.vab_builder.specs.Sizes.{source_sizes, wants_of, used_by}

-- a new partition takes the lowest free blocks
abbrev pub CreatesLowest : Type 0
CreatesLowest = (slot : ℕ) (source target : Layout) (name : List ℕ) (n : ℕ)
    → created_blocks slot [] source target name n ≡ take n (free_of slot source target)

-- at another size it keeps its first blocks, and then takes the lowest free ones
abbrev pub ResizesItself : Type 0
ResizesItself = (slot : ℕ) (source target : Layout) (p : Part) (n : ℕ)
    → resized_blocks slot [] source target p n
    ≡ take n p.blocks ++ take (n - length p.blocks) (free_of slot source target)

-- in use are the blocks of the source's partitions, of the target's and of their stores
abbrev pub UsesAll : Type 0
UsesAll = (slot : ℕ) (source target : List Part)
    → used_by slot source (wants_of slot [] target)
    ≡ sum (source_sizes slot source)
    + sum_by (λ p. length p.blocks + length (blocks_named (store_of p.name) target))
    (own_parts slot target)

-- a partition has no block of the source, and is marked as updated
abbrev pub IsApartAndUpdated : Type 0
IsApartAndUpdated = (slot : ℕ) (source target : List Part) (p : Part)
    → IsTargetPartBeside slot [] source target p
    ↔ All (λ b. Contains (blocks_of_parts (own_parts (other_slot slot) source)) b → ⊥) p.blocks
    × IsTrue (is_updated p)
