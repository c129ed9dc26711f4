-- The sums over the partitions of a table and over those of its layout.
use Rattle.std.proofs.Common.{◌≡◌, ℕ, ◌+◌, ◌^◌, ◌<◌, ◌≤◌, Bool, true, false, cond, List, [], ◌∷◌}
use Rattle.std.proofs.Common.{length, map, sum, sum_by, get_or, take, refl, sym, ap, subst, ◌∙◌}
use Rattle.std.proofs.Common.{arith}
use Rattle.std.specs.Prelude.{Contains}
use Rattle.std.specs.List.{filter}
use Rattle.std.proofs.lemmas.List.{take_all}
use Rattle.std.proofs.lemmas.List.Elements.{All-contains}
use Rattle.std.proofs.lemmas.List.Sums.{sum-map, sum_by-cons, sum_by_more_le}
use Rattle.vab_names.specs.Names.{is_of_slot}
use Rattle.vab_tables.specs.declared.entries.Partition.{Partition}
use Rattle.vab_tables.specs.declared.table.Table.{Table}
use Rattle.vab_tables.specs.Rules.{IsPartition, KeepsRules}
use Rattle.vab_layout.specs.declared.layout.Part.{Part}
use Rattle.vab_layout.specs.Layout.{blocks_of_partition, part_of, layout_of}
use Rattle.vab_layout.specs.Slots.{own_parts, IsOwn}
use Rattle.vab_blocks.proofs.Contained.{in_map}
use Rattle.vab_builder.proofs.OwnLaws.{own_rules}
use Rattle.vab_builder.proofs.Bounds.{own_small}
use Rattle.vab_builder.specs.Sums.{own_size}
use Rattle.vab_builder.proofs.PartitionLaws.{layout_parts}

-- ---- a partition of the table

pub listed_rules : (t : Table) (p : Partition) → KeepsRules t → Contains t.partitions p
    → IsPartition t.minor (length t.extents) (length t.groups) p
listed_rules t p keeps c =
    All-contains (IsPartition t.minor (length t.extents) (length t.groups)) t.partitions p
    keeps.partitions c

-- it is one of the layout
pub listed_part : (t : Table) (p : Partition) → Contains t.partitions p
    → Contains (layout_of t).parts (part_of t p)
listed_part t p c =
    subst (λ (ps : List Part). Contains ps (part_of t p)) (sym (layout_parts t))
    (in_map (part_of t) t.partitions p c)

-- one of the slot is small
pub listed_small : (slot : ℕ) (t : Table) (p : Partition)
    → IsOwn slot (layout_of t).parts
    → Contains t.partitions p
    → is_of_slot slot p.name ≡ true
    → length (blocks_of_partition t p) ≤ 2 ^ 28
listed_small slot t p own c of =
    (own_rules slot (layout_of t).parts (part_of t p) own (listed_part t p c) of).size

-- ---- sums

sum_kept : {X : Type 0} (f : X → ℕ) (passes : Bool) (x : X) (xs : List X) (rest : ℕ)
    → sum_by f xs ≡ rest
    → sum_by f (cond passes (x ∷ xs) xs) ≡ cond passes (f x) 0 + rest
sum_kept f true x xs rest h = omega (arith, sum_by-cons f x xs, h)
sum_kept f false x xs rest h = omega (arith, h)

-- a sum of those that pass a test
pub sum_passing : {X : Type 0} (f : X → ℕ) (p : X → Bool) (xs : List X)
    → sum_by f (filter p xs) ≡ sum_by (λ x. cond (p x) (f x) 0) xs
sum_passing f p [] = refl
sum_passing f p (x ∷ xs) =
    sum_kept f (p x) x (filter p xs) (sum_by (λ y. cond (p y) (f y) 0) xs) (sum_passing f p xs)
    ∙ sym (sum_by-cons (λ y. cond (p y) (f y) 0) x xs)

sum_mapped : (f : Part → ℕ) (t : Table) (ps : List Partition)
    → sum_by f (map (part_of t) ps) ≡ sum_by (λ p. f (part_of t p)) ps
sum_mapped f t [] = refl
sum_mapped f t (p ∷ ps) =
    omega (
      arith,
      sum_by-cons f (part_of t p) (map (part_of t) ps),
      sum_by-cons (λ q. f (part_of t q)) p ps,
      sum_mapped f t ps,
    )

-- a sum over the slot's own partitions
pub sum_own : (slot : ℕ) (t : Table) (f : Part → ℕ)
    → sum_by f (own_parts slot (layout_of t).parts)
    ≡ sum_by (λ p. cond (is_of_slot slot p.name) (f (part_of t p)) 0) t.partitions
sum_own slot t f =
    ap (λ (ps : List Part). sum_by f (own_parts slot ps)) (layout_parts t)
    ∙ sum_passing f (λ q. is_of_slot slot q.name) (map (part_of t) t.partitions)
    ∙ sum_mapped (λ q. cond (is_of_slot slot q.name) (f q) 0) t t.partitions

-- ---- blocks of a slot

pub sum_sizes : (slot : ℕ) (t : Table)
    → sum (map (λ p. length p.blocks) (own_parts slot (layout_of t).parts))
    ≡ sum_by (own_size slot t) t.partitions
sum_sizes slot t =
    sum-map (λ p. length p.blocks) (own_parts slot (layout_of t).parts)
    ∙ sum_own slot t (λ p. length p.blocks)

pub sizes_small : (slot : ℕ) (t : Table) → IsOwn slot (layout_of t).parts
    → sum_by (own_size slot t) t.partitions ≤ 2 ^ 34
sizes_small slot t own = omega (arith, sum_sizes slot t, own_small slot (layout_of t).parts own)

-- a sum so far and what the next partition adds are within the whole sum
pub sum_within : (f : Partition → ℕ) (ps listed : List Partition) (i : ℕ) (p : Partition)
    (total more most : ℕ)
    → sum_by f listed ≤ most
    → ps ≡ listed
    → i < length ps
    → p ≡ get_or ps i p
    → total ≡ sum_by f (take i ps)
    → more ≡ f p
    → total + more ≤ most
sum_within f ps listed i p total more most small same lt is so-far adds =
    omega (
      arith,
      small,
      ap (sum_by f) same,
      so-far,
      adds,
      ap f is,
      sum_by_more_le f ps i p lt,
    )

-- a sum over all is that over the table's partitions
pub sum_done : (f : Partition → ℕ) (ps listed : List Partition) (i total : ℕ)
    → ps ≡ listed
    → length ps ≤ i
    → total ≡ sum_by f (take i ps)
    → total ≡ sum_by f listed
sum_done f ps listed i total same past so-far =
    so-far ∙ ap (sum_by f) (take_all i ps past) ∙ ap (sum_by f) same
