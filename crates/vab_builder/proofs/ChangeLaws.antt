-- Laws of partitions of which one is changed.
use Rattle.std.proofs.Common.{◌≡◌, ℕ, suc, ◌+◌, ◌<◌, ◌≤◌, Bool, true, false, not, cond, take, drop}
use Rattle.std.proofs.Common.{List, [], ◌∷◌, ◌++◌, length, map, get_or, set, refl, sym, ap, ◌∙◌}
use Rattle.std.proofs.Common.{inl, inr, Some, None, arith}
use Rattle.std.specs.Prelude.{All, nat_lt, position}
use Rattle.std.specs.Str.{bytes_eq}
use Rattle.std.specs.List.{position_or_len, filter, remove}
use Rattle.std.proofs.lemmas.Bool.{cases_Bool, cases_eq, cases_order, ltb-false, not_from_true}
use Rattle.std.proofs.lemmas.Bool.{not_from_false}
use Rattle.std.proofs.lemmas.List.{same_lists, length-set, length-map, get_or-map, get_or-set_same}
use Rattle.std.proofs.lemmas.List.{get_or-set_other, get_or_default, get_or-take, get_or-drop}
use Rattle.std.proofs.lemmas.List.{length-take, length-drop, take-append-drop, drop_more}
use Rattle.std.proofs.lemmas.List.Elements.{All-head, All-tail, filter-append}
use Rattle.std.proofs.lemmas.List.Folds.{map_fixed}
use Rattle.std.proofs.lemmas.List.Quantifiers.{position-Some}
use Rattle.std.proofs.lemmas.List.Sums.{fails_before_first}
use Rattle.vab_tables.specs.Rules.{NamesDiffer}
use Rattle.vab_layout.specs.declared.layout.Part.{Part}
use Rattle.vab_builder.specs.Edits.{changed}
use Rattle.vab_names.proofs.NameCases.{same_name, ne_name}

pub changed_at : (name : List ℕ) (f : Part → Part) (parts : List Part) (i : ℕ) (p : Part)
    → NamesDiffer (λ q. q.name) parts → position (λ q. bytes_eq q.name name) parts ≡ Some i
    → p ≡ get_or parts i p → set parts i (f p) ≡ changed name f parts
changed_at name f parts i p differ at is =
    let found = position-Some (λ q. bytes_eq q.name name) parts i p at in
    let here : bytes_eq p.name name ≡ true = ap (λ (q : Part). bytes_eq q.name name) is ∙ found.1 in
    let g : Part → Part = λ q. cond (bytes_eq q.name name) (f q) q in
    let long = length-set parts i (f p) in
    same_lists (set parts i (f p)) (map g parts) (long ∙ sym (length-map parts g)) (λ k d lt.
    let lk : k < length parts = omega (arith, long, lt) in
    elim (cases_eq k i) [
      | inl e ↦
          let there : get_or parts i d ≡ p = get_or_default parts i d p found.0 ∙ sym is in
          let changed-here : g p ≡ f p = rw here refl in
          rw e (get_or-set_same parts i (f p) d found.0
          ∙ sym (get_or-map g parts i d d found.0 ∙ ap g there ∙ changed-here))
      | inr ne ↦
          let other : bytes_eq (get_or parts k d).name name ≡ false =
          ne_name (get_or parts k d).name name (λ named.
          let name-is : p.name ≡ name = same_name p.name name here in
          let there : get_or parts i d ≡ p = get_or_default parts i d p found.0 ∙ sym is in
          let there-named : (get_or parts i d).name ≡ name = ap (λ (q : Part). q.name) there
          ∙ name-is in
          elim (cases_order k i) [
            | inl e ↦ ne e
            | inr apart ↦ elim apart [
              | inl below ↦ differ k i d below found.0 (named ∙ sym there-named)
              | inr above ↦ differ i k d above lk (there-named ∙ sym named)
            ]
          ]) in
          let kept : g (get_or parts k d) ≡ get_or parts k d = rw other refl in
          get_or-set_other parts i k (f p) d ne ∙ sym (get_or-map g parts k d d lk ∙ kept)
    ])

none_found : (p : Part → Bool) (parts : List Part) → position p parts ≡ None
    → length parts ≤ position_or_len p parts
none_found p parts h = elim (cases_Bool (nat_lt (position_or_len p parts) (length parts))) [
  | inl t ↦ let wrong : Some (position_or_len p parts) ≡ None = rw t at h in absurd (cc)
  | inr f ↦ ltb-false _ _ f
]

pub changed_none : (name : List ℕ) (f : Part → Part) (parts : List Part)
    → position (λ q. bytes_eq q.name name) parts ≡ None → parts ≡ changed name f parts
changed_none name f parts h =
    let p : Part → Bool = λ q. bytes_eq q.name name in
    let all = none_found p parts h in
    sym (map_fixed (λ q. cond (p q) (f q) q) parts (λ k d lt.
    let no : p (get_or parts k d) ≡ false =
    fails_before_first p parts k d (omega (arith, all, lt)) in
    rw no refl))

-- ---- of which one is taken out

filter_whole : {X : Type 0} (p : X → Bool) (xs : List X) → All (λ x. p x ≡ true) xs
    → filter p xs ≡ xs
filter_whole p [] h = refl
filter_whole {X} p (x ∷ xs) h = let head = All-head (λ y. p y ≡ true) x xs h in
    rw head (ap (λ (l : List X). x ∷ l) (filter_whole p xs (All-tail (λ y. p y ≡ true) x xs h)))

pub removed_at : (name : List ℕ) (parts : List Part) (i : ℕ) (d : Part)
    → NamesDiffer (λ q. q.name) parts → position (λ q. bytes_eq q.name name) parts ≡ Some i
    → remove parts i ≡ filter (λ q. not (bytes_eq q.name name)) parts
removed_at name parts i d differ at =
    let found = position-Some (λ q. bytes_eq q.name name) parts i d at in
    let p : Part = get_or parts i d in
    let test : Part → Bool = λ q. not (bytes_eq q.name name) in
    let named : p.name ≡ name = same_name p.name name found.1 in
    let ends : test p ≡ false = not_from_true (bytes_eq p.name name) found.1 in
    let next : i + 1 ≡ suc i = omega arith in
    let whole : take i parts ++ p ∷ drop (suc i) parts ≡ parts =
    ap (λ (k : ℕ). take i parts ++ p ∷ drop k parts) (sym next)
    ∙ ap (λ (l : List Part). take i parts ++ l) (sym (drop_more parts i d found.0))
    ∙ take-append-drop i parts in
    let long-take = length-take i parts in
    let long-drop = length-drop (suc i) parts in
    let front : All (λ q. test q ≡ true) (take i parts) = λ k e lt.
    let low : k < i = omega (arith, long-take, lt) in
    let at-k = get_or-take i parts k e low in
    let other : bytes_eq (get_or parts k e).name name ≡ false =
    ne_name (get_or parts k e).name name
    (λ same. differ k i e low found.0 (same ∙ sym named
    ∙ ap (λ (q : Part). q.name) (get_or_default parts i d e found.0))) in
    rw at-k (not_from_false (bytes_eq (get_or parts k e).name name) other) in
    let back : All (λ q. test q ≡ true) (drop (suc i) parts) = λ k e lt.
    let at-k = get_or-drop (suc i) parts k e in
    let in-parts : suc i + k < length parts = omega (arith, long-drop, lt) in
    let other : bytes_eq (get_or parts (suc i + k) e).name name ≡ false =
    ne_name (get_or parts (suc i + k) e).name name
    (λ same. differ i (suc i + k) e (omega arith) in-parts
    (ap (λ (q : Part). q.name) (get_or_default parts i e d found.0) ∙ named ∙ sym same)) in
    rw at-k (not_from_false (bytes_eq (get_or parts (suc i + k) e).name name) other) in
    let out : filter test (p ∷ drop (suc i) parts) ≡ drop (suc i) parts =
    rw ends (filter_whole test (drop (suc i) parts) back) in
    sym (ap (filter test) (sym whole) ∙ filter-append test (take i parts) (p ∷ drop (suc i) parts)
    ∙ ap (λ (l : List Part). l ++ filter test (p ∷ drop (suc i) parts))
    (filter_whole test (take i parts) front) ∙ ap (λ (l : List Part). take i parts ++ l) out)

pub removed_none : (name : List ℕ) (parts : List Part)
    → position (λ q. bytes_eq q.name name) parts ≡ None
    → parts ≡ filter (λ q. not (bytes_eq q.name name)) parts
removed_none name parts h =
    let p : Part → Bool = λ q. bytes_eq q.name name in
    let all = none_found p parts h in
    sym (filter_whole (λ q. not (p q)) parts (λ k d lt.
    let no : p (get_or parts k d) ≡ false =
    fails_before_first p parts k d (omega (arith, all, lt)) in
    not_from_false (p (get_or parts k d)) no))
