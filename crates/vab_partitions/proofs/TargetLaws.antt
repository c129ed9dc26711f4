-- Where the partitions and stores of a slot keep their rules together, the whole slot does, and
-- back.
use Rattle.std.proofs.Common.{◌≡◌, ℕ, ◌+◌, ◌≤◌, Bool, true, false, cond, ◌||◌, eqb}
use Rattle.std.proofs.Common.{List, [], ◌∷◌, ◌++◌, length, refl, sym, ◌∙◌, ap}
use Rattle.std.proofs.Common.{subst, inl, inr, arith, append_assoc}
use Rattle.std.specs.Prelude.{All, Contains, MatchBool}
use Rattle.std.proofs.lemmas.Bool.{cases_Bool, false_from_ne_true, or_cases}
use Rattle.std.proofs.lemmas.List.{length-append}
use Rattle.std.proofs.lemmas.List.Sums.{sum_by-append}
use Rattle.std.proofs.lemmas.List.Elements.{All-contains}
use Rattle.std.proofs.lemmas.List.Elements.{filter-append}
use Rattle.std.proofs.lemmas.List.Elements.{Contains-append_left}
use Rattle.vab_names.specs.Names.{is_of_slot, is_store, most_partitions}
use Rattle.vab_layout.specs.declared.layout.Part.{Part}
use Rattle.vab_layout.specs.Layout.{blocks_of_parts}
use Rattle.vab_layout.specs.Slots.{own_parts, store_parts, IsDistinct, IsOwnPart}
use Rattle.vab_layout.specs.Slots.{IsTargetPartBeside, IsStorePart, IsTargetBeside}
use Rattle.vab_blocks.proofs.Distinct.{distinct_left, distinct_pairs, pairs_distinct, times}
use Rattle.vab_blocks.proofs.Distinct.{at_most_once, once_each}
use Rattle.vab_partitions.specs.Together.{target_parts, KeepsEither, Together, FirstBad}
use Rattle.vab_partitions.specs.Target.{KeepsAlone, FitsBeside}
use Rattle.vab_partitions.specs.Merging.{IsMerging, IsStoreAlone, FitsMerging, KeepsMerging}
use Rattle.vab_names.proofs.NameCases.{own_or_store}
use Rattle.vab_partitions.proofs.OwnLaws.{blocks_append}
use Rattle.vab_blocks.proofs.Contained.{all_from, of_filter, in_filter}

-- ---- lists

-- ---- the partitions and the stores among them

abbrev pub in_target : ℕ → Part → Bool
in_target slot p = is_of_slot slot p.name || is_store slot p.name

no_store : (slot : ℕ) (p : Part) → is_of_slot slot p.name ≡ true → is_store slot p.name ≡ false
no_store slot p own = false_from_ne_true (is_store slot p.name) (own_or_store slot slot p.name own)

pub own_of_target : (slot : ℕ) (parts : List Part)
    → own_parts slot (target_parts slot parts) ≡ own_parts slot parts
own_of_target slot [] = refl
own_of_target slot (p ∷ ps) =
    let rest = own_of_target slot ps in
    elim (cases_Bool (is_of_slot slot p.name)) [
      | inl own ↦ rw own (rw own (ap (λ (l : List Part). p ∷ l) rest))
      | inr other ↦ elim (cases_Bool (is_store slot p.name)) [
        | inl store ↦ rw (other, store) (rw other rest)
        | inr neither ↦ rw (other, neither) rest
      ]
    ]

pub times_append : (b : ℕ) (xs ys : List ℕ) → times b (xs ++ ys) ≡ times b xs + times b ys
times_append b xs ys = sum_by-append (λ x. cond (eqb x b) 1 0) xs ys

times_target : (slot b : ℕ) (parts : List Part)
    → times b (blocks_of_parts (target_parts slot parts))
    ≡ times b (blocks_of_parts (own_parts slot parts))
    + times b (blocks_of_parts (store_parts slot parts))
times_target slot b [] = refl
times_target slot b (p ∷ ps) =
    let rest = times_target slot b ps in
    let all = times_append b p.blocks (blocks_of_parts (target_parts slot ps)) in
    elim (cases_Bool (is_of_slot slot p.name)) [
      | inl own ↦
          let one = times_append b p.blocks (blocks_of_parts (own_parts slot ps)) in
          rw (own, no_store slot p own) (omega (arith, rest, all, one))
      | inr other ↦ elim (cases_Bool (is_store slot p.name)) [
        | inl store ↦
            let one = times_append b p.blocks (blocks_of_parts (store_parts slot ps)) in
            rw (other, store) (omega (arith, rest, all, one))
        | inr neither ↦ rw (other, neither) rest
      ]
    ]

as_often : (xs ys : List ℕ) → ((b : ℕ) → times b xs ≡ times b ys) → IsDistinct xs → IsDistinct ys
as_often xs ys same h =
    distinct_pairs ys
    (once_each ys (λ b. omega (arith, same b, at_most_once b xs (pairs_distinct xs h))))

-- the blocks, in the order of the table and with the stores behind
times_both : (slot b : ℕ) (parts : List Part)
    → times b (blocks_of_parts (target_parts slot parts))
    ≡ times b (blocks_of_parts (own_parts slot parts ++ store_parts slot parts))
times_both slot b parts =
    let own = own_parts slot parts in
    let stores = store_parts slot parts in
    omega (
      arith,
      times_target slot b parts,
      times_append b (blocks_of_parts own) (blocks_of_parts stores),
      ap (times b) (blocks_append own stores),
    )

store_true : (a b : Bool) → a ≡ false → a || b ≡ true → b ≡ true
store_true a b off either = elim (or_cases a b either) [
  | inl on ↦ absurd (let wrong : true ≡ false = sym on ∙ off in cc)
  | inr store ↦ store
]

-- ---- the whole slot

-- what the partitions and the stores keep, said of each list
record Kept (most slot : ℕ) (Own Store : Part → Type 0) (parts : List Part) : Type 0 where
  own : All Own (own_parts slot parts)
  stores : All Store (store_parts slot parts)
  few : length (own_parts slot parts) ≤ most
  once : IsDistinct (blocks_of_parts (own_parts slot parts ++ store_parts slot parts))

module _ (most slot : ℕ) (Own Store : Part → Type 0) (parts : List Part) where
  own_alone : (p : Part)
      → All (KeepsEither slot Own Store) (target_parts slot parts)
      → Contains (own_parts slot parts) p
      → Own p
  own_alone p each c =
      let f = of_filter (λ q. is_of_slot slot q.name) parts p c in
      let there : Contains (target_parts slot parts) p =
      in_filter (in_target slot) parts p f.0 (ap (λ b. b || is_store slot p.name) f.1) in
      let alone = All-contains (KeepsEither slot Own Store) (target_parts slot parts) p each there
      in
      subst (λ (b : Bool). MatchBool b (Own p) (Store p)) f.1 alone

  store_alone : (s : Part)
      → All (KeepsEither slot Own Store) (target_parts slot parts)
      → Contains (store_parts slot parts) s
      → Store s
  store_alone s each c =
      let f = of_filter (λ q. is_store slot q.name) parts s c in
      let other : is_of_slot slot s.name ≡ false =
      false_from_ne_true (is_of_slot slot s.name) (λ own. own_or_store slot slot s.name own f.1) in
      let either : in_target slot s ≡ true = rw (other, f.1) refl in
      let there : Contains (target_parts slot parts) s =
      in_filter (in_target slot) parts s f.0 either in
      let alone = All-contains (KeepsEither slot Own Store) (target_parts slot parts) s each there
      in
      subst (λ (b : Bool). MatchBool b (Own s) (Store s)) other alone

  together_kept : Together most slot (KeepsEither slot Own Store) (target_parts slot parts)
      → Kept most slot Own Store parts
  together_kept k =
      let own : List Part = own_parts slot parts in
      let stores : List Part = store_parts slot parts in
      record {
        own = all_from Own own (λ p c. own_alone p k.each c);
        stores = all_from Store stores (λ s c. store_alone s k.each c);
        few = subst (λ (l : List Part). length l ≤ most) (own_of_target slot parts) k.few;
        once = as_often (blocks_of_parts (target_parts slot parts))
            (blocks_of_parts (own ++ stores)) (λ b. times_both slot b parts) k.once;
      }

  kept_together : Kept most slot Own Store parts
      → Together most slot (KeepsEither slot Own Store) (target_parts slot parts)
  kept_together k =
      let own : List Part = own_parts slot parts in
      let stores : List Part = store_parts slot parts in
      record {
        each = all_from (KeepsEither slot Own Store) (target_parts slot parts) (λ p c.
            let f = of_filter (in_target slot) parts p c in
            let Told : Bool → Type 0 = λ b. MatchBool b (Own p) (Store p) in
            elim (cases_Bool (is_of_slot slot p.name)) [
              | inl own_is ↦
                  let there = in_filter (λ q. is_of_slot slot q.name) parts p f.0 own_is in
                  subst Told (sym own_is) (All-contains Own own p k.own there)
              | inr other ↦
                  let store =
                  store_true (is_of_slot slot p.name) (is_store slot p.name) other f.1 in
                  let there = in_filter (λ q. is_store slot q.name) parts p f.0 store in
                  subst Told (sym other) (All-contains Store stores p k.stores there)
            ]);
        few = subst (λ (l : List Part). length l ≤ most) (sym (own_of_target slot parts)) k.few;
        once = as_often (blocks_of_parts (own ++ stores))
            (blocks_of_parts (target_parts slot parts)) (λ b. sym (times_both slot b parts)) k.once;
      }

  own_once : Kept most slot Own Store parts → IsDistinct (blocks_of_parts (own_parts slot parts))
  own_once k =
      let own : List Part = own_parts slot parts in
      let stores : List Part = store_parts slot parts in
      distinct_pairs (blocks_of_parts own)
      (distinct_left (blocks_of_parts own) (blocks_of_parts stores)
      (pairs_distinct (blocks_of_parts own ++ blocks_of_parts stores)
      (subst IsDistinct (blocks_append own stores) k.once)))

-- ---- a target beside its source

abbrev OwnRules : (slot : ℕ) → (twins source target : List Part) → Part → Type 0
OwnRules slot twins source target p = IsOwnPart slot p
    × IsTargetPartBeside slot twins source target p

pub together_target : (most slot : ℕ) (twins source target : List Part)
    → most ≤ most_partitions
    → Together most slot (KeepsAlone slot twins source target) (target_parts slot target)
    → FitsBeside most slot twins source target
together_target most slot twins source target small together =
    let Own : Part → Type 0 = OwnRules slot twins source target in
    let own : List Part = own_parts slot target in
    let k = together_kept most slot Own (IsStorePart slot source target) target together in
    record {
      is = record {
        own = record {
          each = all_from (IsOwnPart slot) own (λ p c. (All-contains Own own p k.own c).0);
          few = omega (arith, k.few);
          once = own_once most slot Own (IsStorePart slot source target) target k;
        };
        each = all_from (IsTargetPartBeside slot twins source target) own
            (λ p c. (All-contains Own own p k.own c).1);
        stores = k.stores;
        once = k.once;
      };
      few = k.few;
    }

pub target_together : (most slot : ℕ) (twins source target : List Part)
    → FitsBeside most slot twins source target
    → Together most slot (KeepsAlone slot twins source target) (target_parts slot target)
target_together most slot twins source target fits =
    let is = fits.is in
    let own : List Part = own_parts slot target in
    kept_together most slot (OwnRules slot twins source target) (IsStorePart slot source target)
    target
    (record {
      own = all_from (OwnRules slot twins source target) own (λ p c. (
        All-contains (IsOwnPart slot) own p is.own.each c,
        All-contains (IsTargetPartBeside slot twins source target) own p is.each c,
      ));
      stores = is.stores;
      few = fits.few;
      once = is.once;
    })

-- ---- a slot that is merged

pub together_merging : (most slot : ℕ) (target : List Part)
    → most ≤ most_partitions
    → Together most slot (KeepsMerging slot target) (target_parts slot target)
    → FitsMerging most slot target
together_merging most slot target small together =
    let k = together_kept most slot (IsOwnPart slot) (IsStoreAlone slot target) target together in
    record {
      is = record {
        own = record {
          each = k.own;
          few = omega (arith, k.few);
          once = own_once most slot (IsOwnPart slot) (IsStoreAlone slot target) target k;
        };
        stores = k.stores;
        once = k.once;
      };
      few = k.few;
    }

pub merging_together : (most slot : ℕ) (target : List Part)
    → FitsMerging most slot target
    → Together most slot (KeepsMerging slot target) (target_parts slot target)
merging_together most slot target fits =
    let is = fits.is in
    kept_together most slot (IsOwnPart slot) (IsStoreAlone slot target) target
    (record {
      own = is.own.each;
      stores = is.stores;
      few = fits.few;
      once = is.once;
    })

-- a target that keeps its rules beside a source keeps those of a slot that is merged
pub target_merging : (slot : ℕ) (twins source target : List Part)
    → IsTargetBeside slot twins source target
    → IsMerging slot target
target_merging slot twins source target is = record {
  own = is.own;
  stores = all_from (IsStoreAlone slot target) (store_parts slot target) (λ s c.
      let stores : List Part = store_parts slot target in
      let store = All-contains (IsStorePart slot source target) stores s is.stores c in
      record { group = store.group; of_part = store.of_part });
  once = is.once;
}

-- ---- a front of them

pub front_keeps : (most slot : ℕ) (Keeps : Part → Type 0) (xs ys : List Part)
    → Together most slot Keeps (xs ++ ys)
    → Together most slot Keeps xs
front_keeps most slot Keeps xs ys k = record {
  each = all_from Keeps xs (λ p c.
      All-contains Keeps (xs ++ ys) p k.each (Contains-append_left xs ys p c));
  few = omega (
    arith,
    k.few,
    ap length (filter-append (λ (p : Part). is_of_slot slot p.name) xs ys),
    length-append (own_parts slot xs) (own_parts slot ys),
  );
  once = distinct_pairs (blocks_of_parts xs)
      (distinct_left (blocks_of_parts xs) (blocks_of_parts ys)
      (pairs_distinct (blocks_of_parts xs ++ blocks_of_parts ys)
      (subst IsDistinct (blocks_append xs ys) k.once)));
}

-- where one is bad, they don't keep the rules together
pub bad_not_together : (most slot : ℕ) (Keeps : Part → Type 0) (parts : List Part) (name : List ℕ)
    → FirstBad most slot Keeps parts name
    → Together most slot Keeps (target_parts slot parts)
    → ⊥
bad_not_together most slot Keeps parts name f k =
    let joined = f.split ∙ sym (append_assoc f.before (f.bad ∷ []) f.behind) in
    f.broken
    (front_keeps most slot Keeps (f.before ++ f.bad ∷ []) f.behind
    (subst (Together most slot Keeps) joined k))
