-- What the functions of a layout's partitions say of those of its table.
use Rattle.std.proofs.Common.{◌≡◌, ℕ, ◌/◌, Bool, ◌||◌, List, [], ◌∷◌, length, map, sum_by, refl, ap}
use Rattle.std.proofs.Common.{◌∙◌, inl, inr, arith}
use Rattle.std.specs.Str.{bytes_eq}
use Rattle.std.specs.List.{filter, list_any}
use Rattle.std.proofs.lemmas.Bool.{cases_Bool}
use Rattle.std.proofs.lemmas.List.{length-map}
use Rattle.std.proofs.lemmas.List.Concat.{length-flat_map}
use Rattle.std.proofs.lemmas.List.FromFn.{length-range_with_len}
use Rattle.std.proofs.lemmas.List.Sums.{sum_by-cons}
use Rattle.vab_names.specs.Names.{is_of_slot}
use Rattle.vab_tables.specs.declared.entries.Partition.{Partition}
use Rattle.vab_tables.specs.declared.table.Table.{Table}
use Rattle.vab_blocks.specs.Blocks.{blocks_of_extent, extents_of, first_sector_of}
use Rattle.vab_layout.specs.declared.layout.Part.{Part}
use Rattle.vab_layout.specs.Layout.{blocks_of_partition, part_of, layout_of}
use Rattle.vab_layout.specs.Slots.{own_parts}
use Rattle.vab_builder.specs.Sizes.{has_part}

-- ---- the blocks of a partition

sum_same : {X : Type 0} (f g : X → ℕ) (xs : List X) → ((x : X) → f x ≡ g x)
    → sum_by f xs ≡ sum_by g xs
sum_same f g [] h = refl
sum_same f g (x ∷ xs) h =
    omega (arith, sum_by-cons f x xs, sum_by-cons g x xs, h x, sum_same f g xs h)

-- a partition has as many blocks as its extents together
pub partition_long : (t : Table) (p : Partition)
    → length (blocks_of_partition t p) ≡ sum_by (λ e. e.sectors / 8) (extents_of t p)
unfolding blocks_of_partition
partition_long t p =
    length-flat_map (blocks_of_extent (first_sector_of t)) (extents_of t p)
    ∙ sum_same (λ e. length (blocks_of_extent (first_sector_of t) e)) (λ e. e.sectors / 8)
    (extents_of t p) (λ e. length-range_with_len _ (e.sectors / 8))

-- ---- partitions by their names

pub layout_parts : (t : Table) → (layout_of t).parts ≡ map (part_of t) t.partitions
unfolding layout_of
layout_parts t = refl

any_part : (name : List ℕ) (t : Table) (ps : List Partition)
    → has_part name (map (part_of t) ps) ≡ list_any (λ p. bytes_eq p.name name) ps
any_part name t [] = refl
any_part name t (p ∷ ps) = ap (λ (b : Bool). bytes_eq p.name name || b) (any_part name t ps)

pub named_by : (name : List ℕ) (t : Table)
    → has_part name (layout_of t).parts ≡ list_any (λ p. bytes_eq p.name name) t.partitions
named_by name t = ap (has_part name) (layout_parts t) ∙ any_part name t t.partitions

-- ---- a slot's own partitions

own_mapped : (slot : ℕ) (t : Table) (ps : List Partition)
    → own_parts slot (map (part_of t) ps)
    ≡ map (part_of t) (filter (λ p. is_of_slot slot p.name) ps)
own_mapped slot t [] = refl
own_mapped slot t (p ∷ ps) = elim (cases_Bool (is_of_slot slot p.name)) [
  | inl own ↦ rw own (ap (λ (l : List Part). part_of t p ∷ l) (own_mapped slot t ps))
  | inr other ↦ rw other (own_mapped slot t ps)
]

own_by : (slot : ℕ) (t : Table)
    → own_parts slot (layout_of t).parts
    ≡ map (part_of t) (filter (λ p. is_of_slot slot p.name) t.partitions)
own_by slot t = ap (own_parts slot) (layout_parts t) ∙ own_mapped slot t t.partitions

pub own_count : (slot : ℕ) (t : Table)
    → length (own_parts slot (layout_of t).parts)
    ≡ length (filter (λ p. is_of_slot slot p.name) t.partitions)
own_count slot t =
    ap length (own_by slot t)
    ∙ length-map (filter (λ p. is_of_slot slot p.name) t.partitions) (part_of t)
