-- The blocks in use, by what each partition of the tables takes.
use Rattle.std.proofs.Common.{◌≡◌, ℕ, ◌+◌, ◌^◌, ◌<◌, ◌≤◌, Bool, true, false, cond, List, [], ◌∷◌}
use Rattle.std.proofs.Common.{sum, sum_by, refl, arith}
use Rattle.std.specs.Str.{bytes_eq}
use Rattle.std.proofs.lemmas.List.Sums.{sum_by-cons, sum_by_push}
use Rattle.vab_space.specs.declared.Want.{Want}
use Rattle.vab_space.specs.Space.{growth_of}
use Rattle.vab_tables.specs.declared.table.Table.{Table}
use Rattle.vab_layout.specs.declared.layout.Part.{Part}
use Rattle.vab_layout.specs.declared.layout.Layout.{Layout}
use Rattle.vab_layout.specs.Layout.{layout_of}
use Rattle.vab_layout.specs.Slots.{own_parts}
use Rattle.vab_builder.specs.Sizes.{source_sizes, used_by, want_of, wants_of}
use Rattle.vab_builder.specs.Update.{IsUpdateBeside}
use Rattle.vab_builder.proofs.Bounds.{created_bound, resized_bound, stored_bound}
use Rattle.vab_builder.proofs.ListLaws.{sum_by-map}
use Rattle.vab_builder.specs.declared.wanted.Change.{Change}
use Rattle.vab_builder.specs.declared.wanted.Change.TheVariants.{Nothing, Blocks, Store}
use Rattle.vab_builder.specs.Sums.{changed_want, own_taken, taken_of, wants_changed}
use Rattle.vab_builder.specs.Sums.{IsSmall}
use Rattle.vab_builder.proofs.SumLaws.{sum_own}

-- ---- how many there are

pub used_bound : (slot : ℕ) (twins : List Part) (source target : Layout) (change : Change)
    → IsUpdateBeside slot twins source target
    → IsSmall change
    → used_by slot source.parts (wants_changed slot twins target.parts change) < 2 ^ 63
used_bound slot twins source target Nothing update small =
    let wants : List Want = wants_of slot twins target.parts in
    let new : Want = record { before = 0; blocks = 0; store = 0 } in
    let h = created_bound slot twins source target 0 0 update (omega arith) in
    omega (arith, h, sum_by_push growth_of wants new, sum_by_push (λ w. w.store) wants new)
used_bound slot twins source target (Blocks changed n) update small =
    resized_bound slot twins source target changed.now n update small
used_bound slot twins source target (Store changed n) update small =
    stored_bound slot twins source target changed.now n update small

sum_both : {X : Type 0} (f g : X → ℕ) (xs : List X)
    → sum_by (λ x. f x + g x) xs ≡ sum_by f xs + sum_by g xs
sum_both f g [] = refl
sum_both f g (x ∷ xs) =
    omega (
      arith,
      sum_by-cons f x xs,
      sum_by-cons g x xs,
      sum_by-cons (λ y. f y + g y) x xs,
      sum_both f g xs,
    )

-- ---- what the target's partitions take

pub used_parts : (slot : ℕ) (twins : List Part) (source target : Table) (change : Change)
    → used_by slot (layout_of source).parts
    (wants_changed slot twins (layout_of target).parts change)
    ≡ sum (source_sizes slot (layout_of source).parts)
    + sum_by (own_taken slot twins target change) target.partitions
used_parts slot twins source target change =
    let new : List Part = (layout_of target).parts in
    let own : List Part = own_parts slot new in
    let w : Part → Want = λ p. changed_want change p.name (want_of slot twins new p) in
    omega (
      arith,
      sum_own slot target (taken_of slot twins new change),
      sum_both (λ p. growth_of (w p)) (λ p. (w p).store) own,
      sum_by-map w growth_of own,
      sum_by-map w (λ v. v.store) own,
    )

pub taken_small : (slot : ℕ) (twins : List Part) (source target : Table) (change : Change)
    → IsUpdateBeside slot twins (layout_of source) (layout_of target)
    → IsSmall change
    → sum_by (own_taken slot twins target change) target.partitions ≤ 2 ^ 63
taken_small slot twins source target change update small =
    omega (
      arith,
      used_parts slot twins source target change,
      used_bound slot twins (layout_of source) (layout_of target) change update small,
    )

-- ---- what one of them takes

either_small : (changes : Bool) (w : Want) (n : ℕ)
    → (n ≤ 2 ^ 28) × (w.blocks ≤ 2 ^ 28) × (w.store ≤ 2 ^ 52)
    → ((cond changes (record w { blocks = n }) w).blocks ≤ 2 ^ 28)
    × ((cond changes (record w { blocks = n }) w).store ≤ 2 ^ 52)
either_small true w n h = (h.0, h.2)
either_small false w n h = (h.1, h.2)

either_stored : (changes : Bool) (w : Want) (n : ℕ)
    → (n ≤ 2 ^ 29) × (w.blocks ≤ 2 ^ 28) × (w.store ≤ 2 ^ 52)
    → ((cond changes (record w { store = n }) w).blocks ≤ 2 ^ 28)
    × ((cond changes (record w { store = n }) w).store ≤ 2 ^ 52)
either_stored true w n h = (h.1, omega (arith, h.0))
either_stored false w n h = (h.1, h.2)

pub changed_small : (change : Change) (name : List ℕ) (w : Want)
    → IsSmall change
    → w.blocks ≤ 2 ^ 28
    → w.store ≤ 2 ^ 52
    → ((changed_want change name w).blocks ≤ 2 ^ 28)
    × ((changed_want change name w).store ≤ 2 ^ 52)
changed_small Nothing name w small blocks store = (blocks, store)
changed_small (Blocks changed n) name w small blocks store =
    either_small (bytes_eq name changed.now) w n (small, blocks, store)
changed_small (Store changed n) name w small blocks store =
    either_stored (bytes_eq name changed.now) w n (small, blocks, store)
