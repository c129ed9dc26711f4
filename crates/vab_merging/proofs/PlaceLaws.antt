-- The place of the partition of the first store that has exceptions.
use Rattle.std.proofs.Common.{◌≡◌, ◌∙◌, ◌⊎◌, inl, inr, ⊎_elim, ℕ, zero, suc, ◌-◌, ◌<◌, ◌≤◌}
use Rattle.std.proofs.Common.{true, List, [], ◌∷◌, ◌++◌, length, get_or, set, take, drop, cond}
use Rattle.std.proofs.Common.{drop-cons}
use Rattle.std.proofs.Common.{refl, sym, ap, subst, arith, append_assoc, length-append}
use Rattle.std.specs.Prelude.{Bool, Option, Some, None, ◌&&◌, map, Contains, nat_lt}
use Rattle.std.specs.List.{filter, position, position_or_len}
use Rattle.std.proofs.lemmas.Bool.Decides.{Decides-eqb}
use Rattle.std.proofs.lemmas.Slice.Eq.{ends_is}
use Rattle.std.specs.Str.{bytes_eq}
use Rattle.std.proofs.lemmas.Bool.{cases_Bool, and_parts, lt-ltb}
use Rattle.std.proofs.lemmas.List.{length-set, append_cancel_right}
use Rattle.std.proofs.lemmas.List.Folds.{position_or_len-set}
use Rattle.std.proofs.lemmas.List.Quantifiers.{position-Some}
use Rattle.vab_names.specs.Names.{suffix_of, store_suffix, is_store}
use Rattle.vab_names.proofs.NameLaws.{length-suffix_of}
use Rattle.vab_tables.specs.declared.table.Table.{Table}
use Rattle.vab_tables.specs.declared.entries.Partition.{Partition}
use Rattle.vab_layout.specs.declared.layout.Part.{Part as PartOfLayout}
use Rattle.vab_layout.specs.Layout.{layout_of, part_of}
use Rattle.vab_blocks.proofs.Contained.{cons_cases, none_in_nil}
use Rattle.vab_names.proofs.NameCases.{same_name, eq_name, ne_name, other_name}
use Rattle.vab_device.specs.declared.device.Part.{Part}
use Rattle.vab_merging.specs.Turns.{stores_in, has_store, has_exceptions, place_of, or_place}
use Rattle.vab_merging.specs.Turns.{first_place, no_part}

-- the store is the partition's, and has exceptions
abbrev pub takes : ℕ → List ℕ → Part → Bool
takes slot store p = has_store slot store p && has_exceptions p

-- ---- one partition of a list is another one

place_set : (slot : ℕ) (ps : List Part) (k : ℕ) (x : Part) (store : List ℕ)
    → takes slot store x ≡ takes slot store (get_or ps k no_part)
    → place_of slot (set ps k x) store ≡ place_of slot ps store
place_set slot ps k x store same =
    let at = position_or_len-set (takes slot store) ps k x no_part same in
    let long = length-set ps k x in
    (λ i. cond (nat_lt (at i) (long i)) (Some (at i)) None)

-- where the tests are the same, so is the place
pub first_set : (slot : ℕ) (ps : List Part) (k : ℕ) (x : Part) (stores : List (List ℕ))
    → ((store : List ℕ) → takes slot store x ≡ takes slot store (get_or ps k no_part))
    → first_place slot (set ps k x) stores ≡ first_place slot ps stores
first_set slot ps k x [] same = refl
first_set slot ps k x (store ∷ stores) same =
    let here = place_set slot ps k x store (same store) in
    let rest = first_set slot ps k x stores same in
    (λ i. or_place (here i) (rest i))

-- ---- the place that is found

or_cases : (o later : Option ℕ) (place : ℕ)
    → or_place o later ≡ Some place
    → (o ≡ Some place) ⊎ (later ≡ Some place)
or_cases None later place is = inr is
or_cases (Some k) later place is = inl is

pub record IsFound (ps : List Part) (place : ℕ) : Type 0 where
  pub within : place < length ps
  pub some : has_exceptions (get_or ps place no_part) ≡ true

pub found_of : (slot : ℕ) (ps : List Part) (stores : List (List ℕ)) (place : ℕ)
    → first_place slot ps stores ≡ Some place
    → IsFound ps place
found_of slot ps [] place is = absurd cc
found_of slot ps (store ∷ stores) place is =
    ⊎_elim
    (λ here.
    let at = position-Some (takes slot store) ps place no_part here in
    record {
      within = at.0;
      some =
          (and_parts (has_store slot store (get_or ps place no_part))
          (has_exceptions (get_or ps place no_part)) at.1).1;
    })
    (λ later. found_of slot ps stores place later)
    (or_cases (place_of slot ps store) (first_place slot ps stores) place is)

-- ---- where none is found

or_none : (o later : Option ℕ) → or_place o later ≡ None → (o ≡ None) × (later ≡ None)
or_none None later is = (refl, is)
or_none (Some k) later is = absurd cc

passes_early : (test : Part → Bool) (ps : List Part) (k : ℕ)
    → k < length ps
    → test (get_or ps k no_part) ≡ true
    → position_or_len test ps ≤ k
passes_early test [] k below is = absurd (omega (arith, below))
passes_early test (p ∷ ps) zero below is = rw is (omega arith)
passes_early test (p ∷ ps) (suc k) below is =
    let rest = passes_early test ps k (omega (arith, below)) is in
    elim (cases_Bool (test p)) [
      | inl passes ↦ rw passes (omega arith)
      | inr fails ↦ rw fails (omega (arith, rest))
    ]

place_there : (slot : ℕ) (ps : List Part) (k : ℕ) (store : List ℕ)
    → k < length ps
    → takes slot store (get_or ps k no_part) ≡ true
    → place_of slot ps store ≡ None
    → ⊥
place_there slot ps k store below is none =
    let early = passes_early (takes slot store) ps k below is in
    let there : nat_lt (position_or_len (takes slot store) ps) (length ps) ≡ true =
    lt-ltb _ _ (omega (arith, early, below)) in
    let bad : Some (position_or_len (takes slot store) ps) ≡ None = rw there at none in
    cc

-- no partition has a store of these that has exceptions
pub none_takes : (slot : ℕ) (ps : List Part) (stores : List (List ℕ)) (k : ℕ) (store : List ℕ)
    → first_place slot ps stores ≡ None
    → Contains stores store
    → k < length ps
    → takes slot store (get_or ps k no_part) ≡ true
    → ⊥
none_takes slot ps [] k store none c below is = none_in_nil store c
none_takes slot ps (s ∷ ss) k store none c below is =
    let both = or_none (place_of slot ps s) (first_place slot ps ss) none in
    elim (cons_cases s ss store c) [
      | inl here ↦
          place_there slot ps k s below
          (subst (λ (n : List ℕ). takes slot n (get_or ps k no_part) ≡ true) (sym here) is) both.0
      | inr later ↦ none_takes slot ps ss k store both.1 later below is
    ]

-- ---- the stores of a table

-- the place for a partition of a table
abbrev pub place_by : ℕ → List Part → List ℕ → Option ℕ
place_by slot parts name = cond (is_store slot name) (place_of slot parts name) None

-- that for the first of these
abbrev pub first_by : ℕ → List Part → List Partition → Option ℕ
first_by slot parts [] = None
first_by slot parts (p ∷ ps) = or_place (place_by slot parts p.name) (first_by slot parts ps)

by_names : (slot : ℕ) (t : Table) (parts : List Part) (ps : List Partition)
    → first_place slot parts
    (map (λ (s : PartOfLayout). s.name)
    (filter (λ (p : PartOfLayout). is_store slot p.name) (map (part_of t) ps)))
    ≡ first_by slot parts ps
by_names slot t parts [] = refl
by_names slot t parts (p ∷ ps) =
    let rest = by_names slot t parts ps in
    elim (cases_Bool (is_store slot p.name)) [
      | inl store ↦ rw store (ap (or_place (place_of slot parts p.name)) rest)
      | inr other ↦ rw other rest
    ]

pub first_is : (slot : ℕ) (t : Table) (parts : List Part)
    → first_place slot parts (stores_in slot (Some t)) ≡ first_by slot parts t.partitions
unfolding layout_of
first_is slot t parts = by_names slot t parts t.partitions

-- where those from an index on have the first place, and this one has it
pub by_here : (slot : ℕ) (parts : List Part) (ps : List Partition) (i : ℕ) (p : Partition) (k : ℕ)
    → i < length ps
    → p ≡ get_or ps i p
    → place_by slot parts p.name ≡ Some k
    → first_by slot parts (drop i ps) ≡ Some k
by_here slot parts ps i p k below is here =
    let split : drop i ps ≡ p ∷ drop (suc i) ps =
    drop-cons ps i p below ∙ ap (λ (x : Partition). x ∷ drop (suc i) ps) (sym is) in
    ap (first_by slot parts) split
    ∙ ap (λ (o : Option ℕ). or_place o (first_by slot parts (drop (suc i) ps))) here

-- where none of no partitions
pub first_none : (slot : ℕ) (stores : List (List ℕ)) → first_place slot [] stores ≡ None
first_none slot [] = refl
first_none slot (store ∷ stores) = first_none slot stores

-- ---- the name of a store

-- behind the base name of its partition stand the slot's suffix and that of a store
abbrev pub behind : ℕ → List ℕ
behind slot = suffix_of slot ++ store_suffix

behind_long : (slot : ℕ) → length (behind slot) ≡ 6
behind_long slot =
    let two = length-suffix_of slot in
    let both = length-append (suffix_of slot) store_suffix in
    let four : length store_suffix ≡ 4 = refl in
    omega (arith, two, both, four)

ends : (slot : ℕ) (store : List ℕ)
    → is_store slot store ≡ true
    → store ≡ take (length store - 6) store ++ behind slot
unfolding is_store
ends slot store is =
    let whole : store ≡ take (length store - length (behind slot)) store ++ behind slot =
    (ends_is Decides-eqb store (behind slot) _ (sym is)).0 refl in
    subst (λ (n : ℕ). store ≡ take (length store - n) store ++ behind slot) (behind_long slot) whole

pub store_long : (slot : ℕ) (store : List ℕ) → is_store slot store ≡ true → 6 ≤ length store
store_long slot store is =
    let long = ap length (ends slot store is) in
    let parts = length-append (take (length store - 6) store) (behind slot) in
    omega (arith, long, parts, behind_long slot)

-- the store is that of a partition of the base name in front of that
pub base_test : (slot : ℕ) (store : List ℕ) (p : Part)
    → is_store slot store ≡ true
    → bytes_eq p.name (take (length store - 6) store) ≡ has_store slot store p
base_test slot store p is =
    let base : List ℕ = take (length store - 6) store in
    let joined : (p.name ++ suffix_of slot) ++ store_suffix ≡ p.name ++ behind slot =
    append_assoc p.name (suffix_of slot) store_suffix in
    elim (cases_Bool (bytes_eq p.name base)) [
      | inl same ↦
          same
          ∙ sym (eq_name ((p.name ++ suffix_of slot) ++ store_suffix) store
          (joined
          ∙ ap (λ (n : List ℕ). n ++ behind slot) (same_name p.name base same)
          ∙ sym (ends slot store is)))
      | inr other ↦
          other
          ∙ sym (ne_name ((p.name ++ suffix_of slot) ++ store_suffix) store
          (λ e.
          other_name p.name base other
          (append_cancel_right p.name base (behind slot)
          (sym joined ∙ e ∙ ends slot store is))))
    ]

-- so is the test of the one and of the other
pub place_is : (slot : ℕ) (parts : List Part) (store : List ℕ)
    → is_store slot store ≡ true
    → position (λ p. bytes_eq p.name (take (length store - 6) store) && has_exceptions p) parts
    ≡ place_of slot parts store
place_is slot parts store is =
    ap (λ (test : Part → Bool). position test parts)
    (λ i p. base_test slot store p is i && has_exceptions p)
