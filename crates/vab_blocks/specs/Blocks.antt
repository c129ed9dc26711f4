-- The blocks of extents, of partitions and of a device.
use Rattle.std.specs.Prelude.{ℕ, ◌+◌, ◌-◌, ◌*◌, ◌/◌, ◌<◌, ◌≤◌, ◌==◌, ◌&&◌, Bool, true, not, cond}
use Rattle.std.specs.Prelude.{List, [], ◌∷◌, take, drop, Any, Contains}
use Rattle.std.specs.List.{flat_map, filter, list_any, range_with_len}
use Rattle.std.specs.Str.{bytes_eq}
use Rattle.vab_tables.specs.declared.entries.Partition.{Partition}
use Rattle.vab_tables.specs.declared.entries.Extent.{Extent}
use Rattle.vab_tables.specs.declared.table.Table.{Table}
pub use Rattle.vab_tables.specs.Extents.{first_sector_of_devices, first_sector_of, extents_of}

-- ---- what it is to have a block

-- the extent has the sector at which the block begins
abbrev pub Covers : ℕ → Extent → ℕ → Type 0
Covers first e block = (e.first_sector ≤ first + 8 * block)
    × (first + 8 * block < e.first_sector + e.sectors)

-- a partition of the table that has one of these names has an extent with the block
unfoldable pub HasBlock : Table → List (List ℕ) → ℕ → Type 0
HasBlock t names block =
    Any (λ p. Contains names p.name
    × Any (λ e. Covers (first_sector_of t) e block) (extents_of t p)) t.partitions

-- ---- the same, as lists

-- whether the name is one of these
abbrev pub is_among : List (List ℕ) → List ℕ → Bool
is_among names name = list_any (λ other. bytes_eq other name) names

-- the blocks of an extent, in order
abbrev pub blocks_of_extent : ℕ → Extent → List ℕ
blocks_of_extent first e = range_with_len ((e.first_sector - first) / 8) (e.sectors / 8)

-- those of a partition, in the order of its extents, where its name is one of these
abbrev pub blocks_of_named : Table → List (List ℕ) → Partition → List ℕ
blocks_of_named t names p =
    cond (is_among names p.name) (flat_map (blocks_of_extent (first_sector_of t)) (extents_of t p))
    []

-- those of all partitions of the table that have one of these names
abbrev pub blocks_of : Table → List (List ℕ) → List ℕ
blocks_of t names = flat_map (blocks_of_named t names) t.partitions

-- ---- free blocks

-- the numbers below a bound that are not taken
unfoldable pub free_below : ℕ → List ℕ → List ℕ
free_below cap taken =
    filter (λ block. not (list_any (λ b. b == block) taken)) (range_with_len 0 cap)

-- ---- blocks that differ

-- no number stands twice
abbrev pub is_distinct : List ℕ → Bool
is_distinct [] = true
is_distinct (x ∷ xs) = not (list_any (λ y. y == x) xs) && is_distinct xs
