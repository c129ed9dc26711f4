-- The tests of a target's rules decide those rules.
use Rattle.std.proofs.Common.{◌≡◌, ℕ, ◌≤◌, ◌^◌, Bool, ◌&&◌, ◌||◌, not, eqb, leb, List}
use Rattle.std.proofs.Common.{length, take, drop, inl, inr, refl}
use Rattle.std.specs.Prelude.{All, Any, Contains, IsTrue}
use Rattle.std.specs.Bool.{Decides}
use Rattle.std.specs.List.{list_all, list_any}
use Rattle.std.specs.Str.{bytes_eq}
use Rattle.std.proofs.lemmas.Bool.{cases_Bool, leb-true, le-leb}
use Rattle.std.proofs.lemmas.Bool.Decides.{Decides-eqb, Decides-not, Decides-and, Decides-or}
use Rattle.std.proofs.lemmas.Bool.Decides.{Decides-like, Decides-by_and, Decides-by_or}
use Rattle.std.proofs.lemmas.List.Elements.{Decides-contains}
use Rattle.std.proofs.lemmas.List.Folds.{Any-from_list_any, list_any-from_Any}
use Rattle.std.proofs.lemmas.Slice.Eq.{bytes_eq-Decides}
use Rattle.vab_names.specs.Names.{is_base, base_of, is_of_slot, in_slot, store_of}
use Rattle.vab_names.specs.Names.{default_name, store_group_name}
use Rattle.vab_blocks.specs.Blocks.{is_distinct}
use Rattle.vab_blocks.proofs.Distinct.{distinct_pairs, pairs_distinct}
use Rattle.vab_layout.specs.declared.layout.Part.{Part}
use Rattle.vab_layout.specs.Layout.{blocks_of_parts}
use Rattle.vab_layout.specs.Slots.{other_slot, own_parts, before_of, is_updated}
use Rattle.vab_layout.specs.Slots.{IsOwnPart, IsTargetPartBeside, IsStorePart}
use Rattle.vab_partitions.specs.Together.{Together, pass_together}
use Rattle.vab_partitions.specs.Target.{KeepsAlone}
use Rattle.vab_partitions.specs.Merging.{IsStoreAlone, KeepsMerging}
use Rattle.vab_partitions.specs.TargetRules.{is_named, are_apart, source_blocks, own_passes}
use Rattle.vab_partitions.specs.TargetRules.{is_unchanged, target_passes, store_stands}
use Rattle.vab_partitions.specs.TargetRules.{store_passes}
use Rattle.vab_partitions.specs.TargetRules.{passes_alone}
use Rattle.vab_partitions.specs.MergingRules.{passes_merging}
use Rattle.vab_partitions.proofs.PartCases.{part_then, then_part, none_named, named_none}

-- ---- lists

any_decides : {X : Type 0} (p : X → Bool) (P : X → Type 0)
    → ((x : X) → Decides (p x) (P x))
    → (xs : List X)
    → Decides (list_any p xs) (Any P xs)
any_decides p P each xs = (
  λ h.
      let a = Any-from_list_any p xs h in
      (a.0, a.1, a.2, a.3, (each a.1).0 a.4),
  λ a. list_any-from_Any p xs (a.0, a.1, a.2, a.3, (each a.1).1 a.4),
)

itself : (b : Bool) → Decides b (IsTrue b)
itself b = (λ t. t, λ t. t)

at_most : (a b : ℕ) → Decides (leb a b) (a ≤ b)
at_most a b = (leb-true a b, le-leb a b)

has_block : (taken : List ℕ) (b : ℕ) → Decides (list_any (λ c. eqb c b) taken) (Contains taken b)
has_block taken b =
    Decides-contains taken b (list_any (λ c. eqb c b) taken)
    (Decides-by_or (λ c. eqb c b) (λ c. c ≡ b) (list_any (λ c. eqb c b)) (λ c. Decides-eqb c b) refl
    (λ _ _. refl) taken)

apart : (taken blocks : List ℕ)
    → Decides (are_apart taken blocks) (All (λ b. Contains taken b → ⊥) blocks)
apart taken blocks =
    Decides-by_and (λ b. not (list_any (λ c. eqb c b) taken)) (λ b. Contains taken b → ⊥)
    (are_apart taken) (λ b. Decides-not (list_any (λ c. eqb c b) taken) (has_block taken b)) refl
    (λ _ _. refl) blocks

-- ---- one partition

own_part : (slot : ℕ) (p : Part) → Decides (own_passes slot p) (IsOwnPart slot p)
own_part slot p =
    let base : Bool = is_base (base_of p.name) in
    let small : Bool = leb (length p.blocks) (2 ^ 28) in
    let group : Bool = bytes_eq p.group default_name || is_of_slot slot p.group in
    Decides-like (base && small && group)
    (λ k. record { base = k.0.0; size = k.0.1; group = k.1 })
    (λ k. ((k.base, k.size), k.group))
    (Decides-and (base && small) group
    (Decides-and base small (itself base) (at_most (length p.blocks) (2 ^ 28))) (itself group))

unchanged : (slot : ℕ) (twins target : List Part) (p : Part)
    → Decides (is_unchanged slot twins target p)
    (Any (λ s. s.name ≡ in_slot (other_slot slot) p.name) twins
    × (p.blocks ≡ before_of slot twins p.name)
    × All (λ s. (s.name ≡ store_of p.name) → ⊥) target)
unchanged slot twins target p =
    let name : List ℕ = in_slot (other_slot slot) p.name in
    let before : List ℕ = before_of slot twins p.name in
    let there : Bool = is_named name twins in
    let same : Bool = bytes_eq p.blocks before in
    let store : Bool = is_named (store_of p.name) target in
    Decides-like (there && same && not store)
    (λ k. (k.0.0, k.0.1, none_named (store_of p.name) target k.1))
    (λ k. ((k.0, k.1), named_none (store_of p.name) target k.2))
    (Decides-and (there && same) (not store)
    (Decides-and there same (part_then name twins, then_part name twins)
    (bytes_eq-Decides p.blocks before))
    (Decides-not store (part_then (store_of p.name) target, then_part (store_of p.name) target)))

target_part : (slot : ℕ) (twins source target : List Part) (p : Part)
    → Decides (target_passes slot twins source target p)
    (IsTargetPartBeside slot twins source target p)
target_part slot twins source target p =
    let before : List ℕ = before_of slot twins p.name in
    let front : List ℕ = take (length before) p.blocks in
    let other : List ℕ = take (length p.blocks) before in
    let taken : List ℕ = source_blocks slot source in
    let rest : List ℕ = drop (length before) p.blocks in
    let kept : Bool = is_updated p || is_unchanged slot twins target p in
    Decides-like (bytes_eq front other && are_apart taken rest && kept)
    (λ k. record { begins = k.0.0; fresh = k.0.1; kept = k.1 })
    (λ k. ((k.begins, k.fresh), k.kept))
    (Decides-and (bytes_eq front other && are_apart taken rest) kept
    (Decides-and (bytes_eq front other) (are_apart taken rest) (bytes_eq-Decides front other)
    (apart taken rest))
    (Decides-or (is_updated p) (is_unchanged slot twins target p) (itself (is_updated p))
    (unchanged slot twins target p)))

store_alone : (slot : ℕ) (target : List Part) (s : Part)
    → Decides (store_stands slot target s) (IsStoreAlone slot target s)
store_alone slot target s =
    let group : Bool = bytes_eq s.group store_group_name in
    let its : Part → Bool = λ p. bytes_eq s.name (store_of p.name) && is_updated p in
    let own : List Part = own_parts slot target in
    Decides-like (group && list_any its own)
    (λ k. record { group = k.0; of_part = k.1 })
    (λ k. (k.group, k.of_part))
    (Decides-and group (list_any its own) (bytes_eq-Decides s.group store_group_name)
    (any_decides its (λ p. (s.name ≡ store_of p.name) × IsTrue (is_updated p))
    (λ p. Decides-and (bytes_eq s.name (store_of p.name)) (is_updated p)
    (bytes_eq-Decides s.name (store_of p.name)) (itself (is_updated p))) own))

store_part : (slot : ℕ) (source target : List Part) (s : Part)
    → Decides (store_passes slot source target s) (IsStorePart slot source target s)
store_part slot source target s =
    let stands : Bool = store_stands slot target s in
    let taken : List ℕ = source_blocks slot source in
    Decides-like (stands && are_apart taken s.blocks)
    (λ k. record { group = k.0.group; of_part = k.0.of_part; apart = k.1 })
    (λ k. (record { group = k.group; of_part = k.of_part }, k.apart))
    (Decides-and stands (are_apart taken s.blocks) (store_alone slot target s)
    (apart taken s.blocks))

pub alone : (slot : ℕ) (twins source target : List Part) (p : Part)
    → Decides (passes_alone slot twins source target p) (KeepsAlone slot twins source target p)
alone slot twins source target p = elim (cases_Bool (is_of_slot slot p.name)) [
  | inl own ↦
      rw own
      (Decides-and (own_passes slot p) (target_passes slot twins source target p) (own_part slot p)
      (target_part slot twins source target p))
  | inr store ↦ rw store (store_part slot source target p)
]

pub merging_alone : (slot : ℕ) (target : List Part) (p : Part)
    → Decides (passes_merging slot target p) (KeepsMerging slot target p)
merging_alone slot target p = elim (cases_Bool (is_of_slot slot p.name)) [
  | inl own ↦ rw own (own_part slot p)
  | inr store ↦ rw store (store_alone slot target p)
]

-- ---- several

pub together_decides : (most slot : ℕ) (passes : Part → Bool) (Keeps : Part → Type 0)
    → ((p : Part) → Decides (passes p) (Keeps p))
    → (these : List Part)
    → Decides (pass_together most slot passes these) (Together most slot Keeps these)
unfolding pass_together
together_decides most slot passes Keeps decides these =
    let each : Bool = list_all passes these in
    let few : Bool = leb (length (own_parts slot these)) most in
    let once : Bool = is_distinct (blocks_of_parts these) in
    Decides-like (each && few && once)
    (λ k. record { each = k.0.0; few = k.0.1; once = k.1 })
    (λ k. ((k.each, k.few), k.once))
    (Decides-and (each && few) once
    (Decides-and each few
    (Decides-by_and passes Keeps (list_all passes) decides refl (λ _ _. refl) these)
    (at_most (length (own_parts slot these)) most))
    (distinct_pairs (blocks_of_parts these), pairs_distinct (blocks_of_parts these)))
