-- The sizes of an update's target with a change, and what each partition of a table adds to a sum.
use Rattle.std.specs.Prelude.{ℕ, ◌+◌, ◌≤◌, ◌^◌, if◌then◌else◌, List, length, map}
use Rattle.std.specs.Str.{bytes_eq}
use Rattle.vab_names.specs.Names.{is_of_slot}
use Rattle.vab_space.specs.declared.Want.{Want}
use Rattle.vab_space.specs.Space.{growth_of}
use Rattle.vab_tables.specs.declared.entries.Partition.{Partition}
use Rattle.vab_tables.specs.declared.table.Table.{Table}
use Rattle.vab_layout.specs.declared.layout.Part.{Part}
use Rattle.vab_layout.specs.Layout.{blocks_of_partition, group_at, layout_of, part_of}
use Rattle.vab_layout.specs.Slots.{own_parts}
use Rattle.vab_builder.specs.Sizes.{want_of}
use Rattle.vab_builder.specs.declared.wanted.Change.{Change}
use Rattle.vab_builder.specs.declared.wanted.Change.TheVariants.{Nothing, Blocks, Store}

-- ---- a change

-- what the update wants of the partition of this name, changed
abbrev pub changed_want : Change → List ℕ → Want → Want
changed_want Nothing name w = w
changed_want (Blocks changed n) name w =
    if bytes_eq name changed.now then record w { blocks = n } else w
changed_want (Store changed n) name w =
    if bytes_eq name changed.now then record w { store = n } else w

-- it is to a size that a partition or a store may have
abbrev pub IsSmall : Change → Type 0
IsSmall Nothing = Unit {0}
IsSmall (Blocks changed n) = n ≤ 2 ^ 28
IsSmall (Store changed n) = n ≤ 2 ^ 29

-- what the update wants of each partition of the target, changed
abbrev pub wants_changed : (slot : ℕ) → (twins target : List Part) → Change → List Want
wants_changed slot twins target change =
    map (λ p. changed_want change p.name (want_of slot twins target p)) (own_parts slot target)

-- ---- what a partition adds to a sum

-- the blocks of a partition of the slot
abbrev pub own_size : ℕ → Table → Partition → ℕ
own_size slot t p = if is_of_slot slot p.name then length (blocks_of_partition t p) else 0

-- the blocks that are in use for a want, beside those of the source
abbrev pub taken_by : Want → ℕ
taken_by w = growth_of w + w.store

-- and for a partition of the target
abbrev pub taken_of : (slot : ℕ) → (twins target : List Part) → Change → Part → ℕ
taken_of slot twins target change p =
    taken_by (changed_want change p.name (want_of slot twins target p))

abbrev pub own_taken : (slot : ℕ) → (twins : List Part) → Table → Change → Partition → ℕ
own_taken slot twins target change p =
    if is_of_slot slot p.name then
    taken_of slot twins (layout_of target).parts change (part_of target p) else 0

-- the blocks of a partition of the slot in a group, where the one of this name has n
abbrev pub size_in : ℕ → Table → List ℕ → List ℕ → ℕ → Partition → ℕ
size_in slot t group name n p =
    if is_of_slot slot p.name then
    (if bytes_eq (group_at t.groups p.group) group then
    (if bytes_eq p.name name then n else length (blocks_of_partition t p)) else 0) else 0
