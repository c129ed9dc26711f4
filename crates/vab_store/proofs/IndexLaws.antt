-- Searches of an index.
use Rattle.std.proofs.Common.{◌≡◌, ◌≢◌, ◌⊎◌, inl, inr, ⊎_elim, ℕ, zero, suc, ◌+◌, ◌-◌, ◌*◌, ◌^◌}
use Rattle.std.proofs.Common.{◌≤◌, ◌<◌, List, [], ◌∷◌, length, take, refl, sym, ◌∙◌, ap, subst}
use Rattle.std.proofs.Common.{arith, true, false, ◌==◌, add-one, length-take-le}
use Rattle.std.specs.Prelude.{Some, None, nat_lt}
use Rattle.std.specs.Ordering.{nat_cmp}
use Rattle.std.specs.declared.cmp.Ordering.TheVariants.{Less, Equal, Greater}
use Rattle.std.proofs.lemmas.Bool.{cases_Bool, cases_lt, ltb-true, ltb-false, eqb-false, ne_eqb}
use Rattle.std.proofs.lemmas.Bool.{eq-eqb}
use Rattle.std.proofs.lemmas.List.{get_or-take}
use Rattle.std.specs.List.{remove}
use Rattle.std.proofs.lemmas.List.Edits.{get_or-remove_below, get_or-remove_above, length-remove}
use Rattle.vab_exceptions.specs.declared.area.Exception.{Exception}
use Rattle.vab_store.specs.declared.index.Place.{Place}
use Rattle.vab_store.specs.View.{no_exception, exception_at, view_of}
use Rattle.std.specs.Prelude.{slice_index}
use Rattle.std.specs.List.Sorted.{IsStrictlyIncreasing}
use Rattle.std.proofs.lemmas.List.Kept.{AllPairs-from_increasing}
use Rattle.vab_space.specs.declared.Chunk.{Chunk}
use Rattle.vab_exceptions.specs.Entries.{firsts}
use Rattle.vab_exceptions.proofs.EntryLaws.{length-firsts, get_or-firsts}
use Rattle.vab_store.specs.Writing.{planned_at}
use Rattle.vab_store.specs.Index.{place_at, Ascends, HasPlace, LacksKey, Points, IsIndexed, key_of}
use Rattle.vab_store.specs.declared.index.Key.TheVariants.{Old}
use Rattle.std.proofs.Math.Nat.{mul-le-mul_left, pow-suc}

-- ---- what an index says of its list

view_none : (es : List Exception) (old : ℕ)
    → ((j : ℕ) → j < length es → (exception_at es j).old_chunk ≢ old)
    → view_of es old ≡ None
view_none [] old none = refl
view_none (e ∷ es) old none =
    let here : (e.old_chunk == old) ≡ false = ne_eqb e.old_chunk old (none 0 (omega arith)) in
    rw here (view_none es old (λ j below. none (suc j) (omega (arith, below))))

view_some : (es : List Exception) (old k : ℕ)
    → k < length es
    → (exception_at es k).old_chunk ≡ old
    → ((j : ℕ) → j < k → (exception_at es j).old_chunk ≢ old)
    → view_of es old ≡ Some (exception_at es k).new_chunk
view_some [] old k below is first = absurd (omega (arith, below))
view_some (e ∷ es) old zero below is first =
    let here : (e.old_chunk == old) ≡ true = eq-eqb e.old_chunk old is in
    rw here refl
view_some (e ∷ es) old (suc k) below is first =
    let here : (e.old_chunk == old) ≡ false = ne_eqb e.old_chunk old (first 0 (omega arith)) in
    rw here (view_some es old k (omega (arith, below)) is
    (λ j lt. first (suc j) (omega (arith, lt))))

-- an exception of a list in which no two have one old chunk
pub view_found : (es : List Exception) (k : ℕ)
    → ((i j : ℕ) → i < j → j < length es
    → (exception_at es i).old_chunk ≢ (exception_at es j).old_chunk)
    → k < length es
    → view_of es (exception_at es k).old_chunk ≡ Some (exception_at es k).new_chunk
view_found es k once below =
    view_some es (exception_at es k).old_chunk k below refl (λ j lt. once j k lt below)

pub view_lacks : (es : List Exception) (old : ℕ)
    → ((j : ℕ) → j < length es → (exception_at es j).old_chunk ≢ old)
    → view_of es old ≡ None
view_lacks es old none = view_none es old none

-- two places of an index with one key are one
same_key : (ps : List Place) (i j : ℕ)
    → Ascends ps
    → i < length ps
    → j < length ps
    → (place_at ps i).key ≡ (place_at ps j).key
    → i ≡ j
same_key ps i j ascends i_below j_below is =
    elim (cases_lt i j) [
      | inl before ↦ absurd (omega (arith, ascends i j before j_below, is))
      | inr behind ↦ elim (cases_lt j i) [
        | inl after ↦ absurd (omega (arith, ascends j i after i_below, is))
        | inr other ↦ omega (arith, behind, other)
      ]
    ]

-- no two exceptions of an indexed list have one old chunk
pub indexed_once : (es : List Exception) (ps : List Place)
    → IsIndexed Old es ps
    → (a b : ℕ)
    → a < b
    → b < length es
    → (exception_at es a).old_chunk ≢ (exception_at es b).old_chunk
indexed_once es ps is a b order below same =
    let at_a = is.complete a (omega (arith, order, below)) in
    let at_b = is.complete b below in
    let key_a : (place_at ps at_a.index).key ≡ (exception_at es a).old_chunk =
    (is.points at_a.index at_a.within).key_is
    ∙ ap (λ (k : ℕ). (exception_at es k).old_chunk) at_a.at_is in
    let key_b : (place_at ps at_b.index).key ≡ (exception_at es b).old_chunk =
    (is.points at_b.index at_b.within).key_is
    ∙ ap (λ (k : ℕ). (exception_at es k).old_chunk) at_b.at_is in
    let one : at_a.index ≡ at_b.index =
    same_key ps at_a.index at_b.index is.ascends at_a.within at_b.within
    (key_a ∙ same ∙ sym key_b) in
    let both : a ≡ b =
    sym at_a.at_is ∙ ap (λ (i : ℕ). (place_at ps i).at) one ∙ at_b.at_is in
    omega (arith, both, order)

pub indexed_lacks : (es : List Exception) (ps : List Place) (old : ℕ)
    → IsIndexed Old es ps
    → LacksKey ps old
    → view_of es old ≡ None
indexed_lacks es ps old is lacks =
    view_lacks es old (λ k below same.
    let at_k = is.complete k below in
    lacks at_k.index at_k.within
    ((is.points at_k.index at_k.within).key_is
    ∙ ap (λ (j : ℕ). (exception_at es j).old_chunk) at_k.at_is
    ∙ same))

-- where a key is found
pub indexed_at : (es : List Exception) (ps : List Place) (old at : ℕ)
    → IsIndexed Old es ps
    → HasPlace ps old at
    → (at < length es) × ((exception_at es at).old_chunk ≡ old)
indexed_at es ps old at is has =
    let points = is.points has.index has.within in (
      omega (arith, points.within, has.at_is),
      ap (λ (j : ℕ). (exception_at es j).old_chunk) (sym has.at_is)
          ∙ sym points.key_is
          ∙ has.key_is,
    )

pub indexed_has : (es : List Exception) (ps : List Place) (old at : ℕ)
    → IsIndexed Old es ps
    → HasPlace ps old at
    → view_of es old ≡ Some (exception_at es at).new_chunk
indexed_has es ps old at is has =
    let there = indexed_at es ps old at is has in
    ap (view_of es) (sym there.1)
    ∙ view_found es at (indexed_once es ps is) there.0

-- ---- an index without one place

-- which place of the longer index stands at i
without_at : (ps : List Place) (r i : ℕ)
    → r < length ps
    → i < length (remove ps r)
    → (k : ℕ) × (k < length ps) × (k ≢ r) × (place_at (remove ps r) i ≡ place_at ps k)
    × (((i < r) × (k ≡ i)) ⊎ ((r ≤ i) × (k ≡ i + 1)))
without_at ps r i within below =
    let shorter = length-remove ps r within in
    elim (cases_lt i r) [
      | inl before ↦ (
        i,
        omega (arith, before, within),
        (λ is. omega (arith, is, before)),
        get_or-remove_below ps r (record { key = 0; at = 0 }) i before within,
        inl (before, refl),
      )
      | inr behind ↦ (
        i + 1,
        omega (arith, below, shorter),
        (λ is. omega (arith, is, behind)),
        get_or-remove_above ps r (record { key = 0; at = 0 }) i behind within,
        inr (behind, refl),
      )
    ]

front_at : (es : List Exception) (n j : ℕ)
    → j < n
    → exception_at (take n es) j ≡ exception_at es j
front_at es n j below = get_or-take n es j no_exception below

-- the list without its last exception, and the index without the place of it
pub indexed_front : (es : List Exception) (ps : List Place) (r n : ℕ)
    → IsIndexed Old es ps
    → r < length ps
    → (place_at ps r).at ≡ n
    → length es ≡ n + 1
    → IsIndexed Old (take n es) (remove ps r)
indexed_front es ps r n is within last long =
    let shorter = length-remove ps r within in
    let front : length (take n es) ≡ n = length-take-le n es (omega (arith, long)) in
    record {
      counted = omega (arith, shorter, front, is.counted, long);
      ascends = λ i j order below.
          let a = without_at ps r i within (omega (arith, order, below)) in
          let b = without_at ps r j within below in
          let rise : a.0 < b.0 = ⊎_elim
          (λ low. ⊎_elim (λ l. omega (arith, low.0, low.1, l.0, l.1, order))
          (λ h. omega (arith, low.0, low.1, h.0, h.1, order)) b.4)
          (λ high. ⊎_elim (λ l. omega (arith, high.0, high.1, l.0, l.1, order))
          (λ h. omega (arith, high.0, high.1, h.0, h.1, order)) b.4)
          a.4 in
          omega (
            arith,
            is.ascends a.0 b.0 rise b.1,
            ap (λ (p : Place). p.key) a.3,
            ap (λ (p : Place). p.key) b.3,
          );
      points = λ i below.
          let a = without_at ps r i within below in
          let point = is.points a.0 a.1 in
          let other : (place_at ps a.0).at ≢ n =
          λ at_n.
          let keys : (place_at ps a.0).key ≡ (place_at ps r).key =
          point.key_is
          ∙ ap (λ (k : ℕ). (exception_at es k).old_chunk) (at_n ∙ sym last)
          ∙ sym (is.points r within).key_is in
          a.2 (same_key ps a.0 r is.ascends a.1 within keys) in
          let small : (place_at ps a.0).at < n = omega (arith, point.within, long, other) in
          let here : Points (key_of Old) (take n es) (place_at ps a.0) = record {
            within = omega (arith, small, front);
            key_is =
                point.key_is
                ∙ ap (λ (e : Exception). e.old_chunk)
                (sym (front_at es n (place_at ps a.0).at small));
          } in
          subst (Points (key_of Old) (take n es)) (sym a.3) here;
      complete = λ k below.
          let held = is.complete k (omega (arith, below, front, long)) in
          elim (cases_lt held.index r) [
            | inl before ↦ record {
              index = held.index;
              within = omega (arith, before, within, shorter);
              at_is =
                  ap (λ (p : Place). p.at)
                  (get_or-remove_below ps r (record { key = 0; at = 0 }) held.index before within)
                  ∙ held.at_is;
            }
            | inr behind ↦
                let other : held.index ≢ r =
                λ same.
                let at_n : k ≡ n = sym held.at_is ∙ ap (λ (i : ℕ). (place_at ps i).at) same
                ∙ last in
                omega (arith, at_n, below, front) in
                let back : held.index - 1 + 1 ≡ held.index = omega (arith, behind, other) in
                record {
                  index = held.index - 1;
                  within = omega (arith, held.within, shorter, behind, other);
                  at_is =
                      ap (λ (p : Place). p.at)
                      (get_or-remove_above ps r (record { key = 0; at = 0 }) (held.index - 1)
                      (omega (arith, behind, other)) within)
                      ∙ ap (λ (i : ℕ). (place_at ps i).at) back
                      ∙ held.at_is;
                }
          ];
    }

-- ---- the order of two numbers

pub less_of : (a b : ℕ) → Less ≡ nat_cmp a b → a < b
less_of a b is = elim (cases_Bool (nat_lt a b)) [
  | inl less ↦ ltb-true a b less
  | inr not_less ↦ elim (cases_Bool (a == b)) [
    | inl same ↦
        let failed : Less ≡ Equal = is ∙ (rw not_less (rw same refl)) in
        absurd (cc)
    | inr other ↦
        let failed : Less ≡ Greater = is ∙ (rw not_less (rw other refl)) in
        absurd (cc)
  ]
]

pub greater_of : (a b : ℕ) → Greater ≡ nat_cmp a b → b < a
greater_of a b is = elim (cases_Bool (nat_lt a b)) [
  | inl less ↦
      let failed : Greater ≡ Less = is ∙ (rw less refl) in
      absurd (cc)
  | inr not_less ↦ elim (cases_Bool (a == b)) [
    | inl same ↦
        let failed : Greater ≡ Equal = is ∙ (rw not_less (rw same refl)) in
        absurd (cc)
    | inr other ↦
        let le : b ≤ a = ltb-false a b not_less in
        let ne : a ≢ b = eqb-false a b other in
        omega (arith, le, ne)
  ]
]

-- ---- steps of a search by halves

pub halves_more : (s t m half n : ℕ)
    → t ≡ s + 1
    → 2 ^ s * m ≤ n
    → 2 * half ≤ m
    → 2 ^ t * half ≤ n
halves_more s t m half n is so_far less =
    let twice : 2 ^ t ≡ 2 ^ s * 2 = ap (λ (k : ℕ). 2 ^ k) is ∙ (rw add-one (pow-suc 2 s)) in
    let whole : 2 ^ t * half ≡ 2 ^ s * 2 * half = ap (λ (k : ℕ). k * half) twice in
    omega (arith, whole, mul-le-mul_left (2 ^ s) less, so_far)

pub cost_more : (s t m n : ℕ)
    → t ≡ s + 1
    → 2 ^ s * m ≤ n
    → 0 < m
    → 2 ^ t ≤ 2 * n + 1
cost_more s t m n is so_far some =
    let twice : 2 ^ t ≡ 2 ^ s * 2 = ap (λ (k : ℕ). 2 ^ k) is ∙ (rw add-one (pow-suc 2 s)) in
    let one : 1 ≤ m = omega (arith, some) in
    omega (arith, twice, mul-le-mul_left (2 ^ s) one, so_far)

-- ---- the index of planned exceptions

abbrev pub place_for : List ℕ → ℕ → Place
place_for olds j = record { key = slice_index olds j; at = j }

pub planned_indexed : (size : Chunk) (olds : List ℕ) (es : List Exception) (ps : List Place) (n : ℕ)
    → IsStrictlyIncreasing olds
    → n ≡ length olds
    → es ≡ firsts (planned_at size olds) n
    → ps ≡ firsts (place_for olds) n
    → IsIndexed Old es ps
planned_indexed size olds es ps n ascend all es_is ps_is =
    let none : Place = record { key = 0; at = 0 } in
    let e_long : length es ≡ n = ap length es_is ∙ length-firsts (planned_at size olds) n in
    let p_long : length ps ≡ n = ap length ps_is ∙ length-firsts (place_for olds) n in
    let e_at : (k : ℕ) → k < n → exception_at es k ≡ planned_at size olds k =
    λ k below.
    ap (λ (l : List Exception). exception_at l k) es_is
    ∙ get_or-firsts (planned_at size olds) n k no_exception below in
    let p_at : (k : ℕ) → k < n → place_at ps k ≡ place_for olds k =
    λ k below.
    ap (λ (l : List Place). place_at l k) ps_is ∙ get_or-firsts (place_for olds) n k none below in
    record {
      counted = omega (arith, e_long, p_long);
      ascends = λ i j order below.
          let in_n : j < n = omega (arith, below, p_long) in
          omega (
            arith,
            AllPairs-from_increasing olds ascend i j 0 order (omega (arith, in_n, all)),
            ap (λ (p : Place). p.key) (p_at i (omega (arith, order, in_n))),
            ap (λ (p : Place). p.key) (p_at j in_n),
          );
      points = λ i below.
          let in_n : i < n = omega (arith, below, p_long) in
          subst (Points (key_of Old) es) (sym (p_at i in_n))
          (record {
            within = omega (arith, in_n, e_long);
            key_is = ap (λ (e : Exception). e.old_chunk) (sym (e_at i in_n));
          });
      complete = λ k below.
          let in_n : k < n = omega (arith, below, e_long) in
          record {
            index = k;
            within = omega (arith, in_n, p_long);
            at_is = ap (λ (p : Place). p.at) (p_at k in_n);
          };
    }
