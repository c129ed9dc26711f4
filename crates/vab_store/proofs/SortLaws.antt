-- Exceptions sorted by a key.
use Rattle.std.proofs.Common.{◌≡◌, ◌≢◌, ◌⊎◌, inl, inr, ⊎_elim, ℕ, zero, suc, ◌+◌, ◌-◌, ◌≤◌, ◌<◌}
use Rattle.std.proofs.Common.{List, [], ◌∷◌, length, get_or, refl, sym, ◌∙◌, ap, subst, arith, Bool}
use Rattle.std.proofs.Common.{true, false, ◌==◌, ◌||◌, ◌&&◌}
use Rattle.std.specs.Prelude.{nat_lt, All, Contains, IsPermutation, Option, Some, None}
use Rattle.std.specs.Ordering.{is_lt, ordering_then, nat_cmp}
use Rattle.std.specs.List.{IsDistinct}
use Rattle.std.proofs.lemmas.Bool.{cases_lt, cases_eq, lt-ltb, le-ltb, eq-eqb, ne_eqb, eqb-false}
use Rattle.std.proofs.lemmas.Bool.{eqb-true, ltb-true, cases_Bool, and_parts}
use Rattle.std.proofs.lemmas.List.{get_or_read, get_or_default}
use Rattle.std.proofs.lemmas.List.Elements.{recursion_from_All, All-from_recursion}
use Rattle.std.proofs.lemmas.List.Sorted.{length_permutation, All-permutation, Contains-permutation}
use Rattle.std.proofs.lemmas.Map.Keys.{IsDistinct-IsPermutation}
use Rattle.vab_exceptions.specs.declared.area.Exception.{Exception}
use Rattle.vab_exceptions.specs.Entries.{firsts}
use Rattle.vab_exceptions.proofs.EntryLaws.{length-firsts, get_or-firsts}
use Rattle.vab_store.specs.declared.index.Key.{Key}
use Rattle.vab_store.specs.declared.index.Place.{Place}
use Rattle.vab_store.specs.View.{exception_at}
use Rattle.vab_store.specs.Index.{place_at, Points, key_of, IsBefore, IsSortedBy, IsOnceBy}
use Rattle.vab_store.specs.Index.{IsRepeatBy, IsIndexed, HasNoTie, IsFirstTie, TellsTie}
use Rattle.vab_store.specs.Index.{TellsRepeat, earlier_of}
use Rattle.vab_store.specs.declared.index.Key.TheVariants.{Old, New}
use Rattle.vab_store.specs.Scan.{share, repeat_of}
use Rattle.vab_store.proofs.ScanLaws.{others_share, none_repeated, repeat_is}

-- the place of the i-th exception
abbrev pub place_by : Key → List Exception → ℕ → Place
place_by key es i = record { key = key_of key (exception_at es i); at = i }

-- ---- what a sort leaves

abbrev same_at : Place → Place → Bool
same_at a b = a.at == b.at

abbrev AreDistinct : List Place → Type 0
AreDistinct ps = (i j : ℕ) → i < j → j < length ps → (place_at ps i).at ≢ (place_at ps j).at

distinct_of : (ps : List Place) → AreDistinct ps → IsDistinct same_at ps
unfolding IsDistinct
distinct_of [] pairs = tt
distinct_of (p ∷ ps) pairs = (
  recursion_from_All (λ y. same_at p y ≡ false) ps
      (λ k d below.
      let read : get_or ps k d ≡ place_at ps k =
      get_or_default ps k d (record { key = 0; at = 0 }) below in
      subst (λ (y : Place). same_at p y ≡ false) (sym read)
      (ne_eqb p.at (place_at ps k).at (pairs 0 (suc k) (omega arith) (omega (arith, below))))),
  distinct_of ps (λ i j order below.
      pairs (suc i) (suc j) (omega (arith, order)) (omega (arith, below))),
)

of_distinct : (ps : List Place) → IsDistinct same_at ps → AreDistinct ps
unfolding IsDistinct
of_distinct [] all i j order below = absurd (omega (arith, below))
of_distinct (p ∷ ps) all zero zero order below = absurd (omega (arith, order))
of_distinct (p ∷ ps) all zero (suc j) order below =
    eqb-false p.at (place_at ps j).at
    (All-from_recursion (λ y. same_at p y ≡ false) ps all.0 j (record { key = 0; at = 0 })
    (omega (arith, below)))
of_distinct (p ∷ ps) all (suc i) zero order below = absurd (omega (arith, order))
of_distinct (p ∷ ps) all (suc i) (suc j) order below =
    of_distinct ps all.1 i j (omega (arith, order)) (omega (arith, below))

flipped : (x y : Place) → same_at x y ≡ same_at y x
flipped x y = elim (cases_eq x.at y.at) [
  | inl same ↦ eq-eqb x.at y.at same ∙ sym (eq-eqb y.at x.at (sym same))
  | inr other ↦ ne_eqb x.at y.at other ∙ sym (ne_eqb y.at x.at (λ is. other (sym is)))
]

-- the order of two neighbours
before_next : (a b : Place)
    → is_lt (ordering_then (nat_cmp b.key a.key) (nat_cmp b.at a.at)) ≡ false
    → a.at ≢ b.at
    → IsBefore a b
before_next a b not_less other = elim (cases_lt a.key b.key) [
  | inl less ↦ inl less
  | inr le ↦ elim (cases_eq a.key b.key) [
    | inr differ ↦
        let less : nat_lt b.key a.key ≡ true = lt-ltb b.key a.key (omega (arith, le, differ)) in
        let failed : true ≡ false = (rw less at not_less) in
        absurd (cc)
    | inl same ↦
        let no : nat_lt b.key a.key ≡ false = le-ltb b.key a.key (omega (arith, same)) in
        let eq : (b.key == a.key) ≡ true = eq-eqb b.key a.key (sym same) in
        let ats : is_lt (nat_cmp b.at a.at) ≡ false = (rw eq at (rw no at not_less)) in
        elim (cases_lt b.at a.at) [
          | inl less ↦
              let test : nat_lt b.at a.at ≡ true = lt-ltb b.at a.at less in
              let failed : true ≡ false = (rw test at ats) in
              absurd (cc)
          | inr at_le ↦ inr (same, omega (arith, at_le, other))
        ]
  ]
]

before_then : (a b c : Place) → IsBefore a b → IsBefore b c → IsBefore a c
before_then a b c ab bc =
    ⊎_elim
    (λ less. ⊎_elim (λ more. inl (omega (arith, less, more)))
    (λ tie. inl (omega (arith, less, tie.0))) bc)
    (λ tie.
    ⊎_elim
    (λ more. inl (omega (arith, tie.0, more)))
    (λ next. inr (tie.0 ∙ next.0, omega (arith, tie.1, next.1)))
    bc)
    ab

-- each later one, where each next one
all_before : (ps : List Place)
    → ((k : ℕ) → k + 1 < length ps → IsBefore (place_at ps k) (place_at ps (k + 1)))
    → (i more : ℕ)
    → i + suc more < length ps
    → IsBefore (place_at ps i) (place_at ps (i + suc more))
all_before ps next i zero below =
    let one : i + suc zero ≡ i + 1 = omega arith in
    subst (λ (k : ℕ). IsBefore (place_at ps i) (place_at ps k)) (sym one)
    (next i (omega (arith, below)))
all_before ps next i (suc more) below =
    let one : i + suc (suc more) ≡ i + suc more + 1 = omega arith in
    subst (λ (k : ℕ). IsBefore (place_at ps i) (place_at ps k)) (sym one)
    (before_then (place_at ps i) (place_at ps (i + suc more)) (place_at ps (i + suc more + 1))
    (all_before ps next i more (omega (arith, below)))
    (next (i + suc more) (omega (arith, below))))

pub sorted_is : (key : Key) (es : List Exception) (was ps : List Place) (n : ℕ)
    → n ≡ length es
    → was ≡ firsts (place_by key es) n
    → IsPermutation was ps
    → ((k : ℕ)
    → k + 1 < length ps
    → is_lt (ordering_then
    (nat_cmp (place_at ps (k + 1)).key (place_at ps k).key)
    (nat_cmp (place_at ps (k + 1)).at (place_at ps k).at)) ≡ false)
    → IsSortedBy key es ps
sorted_is key es was ps n all was_is moved rises =
    let none : Place = record { key = 0; at = 0 } in
    let long : length was ≡ n = ap length was_is ∙ length-firsts (place_by key es) n in
    let same : length ps ≡ length was = length_permutation was ps moved in
    let was_at : (k : ℕ) (d : Place) → k < n → get_or was k d ≡ place_by key es k =
    λ k d below.
    ap (λ (l : List Place). get_or l k d) was_is ∙ get_or-firsts (place_by key es) n k d below in
    let distinct : AreDistinct was =
    λ i j order below is.
    let in_n : j < n = omega (arith, below, long) in
    let one : i ≡ j =
    ap (λ (p : Place). p.at) (sym (was_at i none (omega (arith, order, in_n))))
    ∙ is
    ∙ ap (λ (p : Place). p.at) (was_at j none in_n) in
    omega (arith, one, order) in
    let still : AreDistinct ps =
    of_distinct ps (IsDistinct-IsPermutation same_at flipped was ps moved
    (distinct_of was distinct)) in
    let next : (k : ℕ) → k + 1 < length ps → IsBefore (place_at ps k) (place_at ps (k + 1)) =
    λ k below.
    before_next (place_at ps k) (place_at ps (k + 1)) (rises k below)
    (still k (k + 1) (omega arith) below) in
    let points : All (Points (key_of key) es) ps =
    All-permutation (Points (key_of key) es) was ps moved
    (λ k d below.
    let in_n : k < n = omega (arith, below, long) in
    subst (Points (key_of key) es) (sym (was_at k d in_n))
    (record { within = omega (arith, in_n, all); key_is = refl })) in
    record {
      counted = omega (arith, same, long, all);
      sorted = λ i j order below.
          let steps : i + suc (j - suc i) ≡ j = omega (arith, order) in
          subst (λ (k : ℕ). IsBefore (place_at ps i) (place_at ps k)) steps
          (all_before ps next i (j - suc i) (omega (arith, steps, below)));
      points = λ i below. points i none below;
      complete = λ k below.
          let in_n : k < n = omega (arith, below, all) in
          let found : Contains ps (place_by key es k) =
          Contains-permutation was ps (place_by key es k) moved
          (k, omega (arith, in_n, long), was_at k (place_by key es k) in_n) in
          let here : place_by key es k ≡ place_at ps found.0 =
          get_or_read ps found.0 (place_by key es k) found.1 (sym found.2) none in
          record {
            index = found.0;
            within = found.1;
            at_is = ap (λ (p : Place). p.at) (sym here);
          };
    }

-- ---- neighbours with one key

same_neighbour : (key : Key) (es : List Exception) (ps : List Place) (a b : ℕ)
    → IsSortedBy key es ps
    → a < b
    → b < length es
    → key_of key (exception_at es a) ≡ key_of key (exception_at es b)
    → (m : ℕ) × (m + 1 < length ps) × ((place_at ps m).key ≡ (place_at ps (m + 1)).key)
    × ((place_at ps (m + 1)).at ≡ b)
same_neighbour key es ps a b is order below same =
    let at_a = is.complete a (omega (arith, order, below)) in
    let at_b = is.complete b below in
    let key_a : (place_at ps at_a.index).key ≡ key_of key (exception_at es a) =
    (is.points at_a.index at_a.within).key_is
    ∙ ap (λ (k : ℕ). key_of key (exception_at es k)) at_a.at_is in
    let key_b : (place_at ps at_b.index).key ≡ key_of key (exception_at es b) =
    (is.points at_b.index at_b.within).key_is
    ∙ ap (λ (k : ℕ). key_of key (exception_at es k)) at_b.at_is in
    let tie : (place_at ps at_a.index).key ≡ (place_at ps at_b.index).key =
    key_a ∙ same ∙ sym key_b in
    let i : ℕ = at_a.index in
    let j : ℕ = at_b.index in
    let up : i < j = elim (cases_lt i j) [
      | inl before ↦ before
      | inr behind ↦ elim (cases_eq j i) [
        | inl one ↦
            let both : a ≡ b = sym at_a.at_is ∙ ap (λ (n : ℕ). (place_at ps n).at) (sym one)
            ∙ at_b.at_is in
            absurd (omega (arith, both, order))
        | inr other ↦
            ⊎_elim
            (λ less. absurd (omega (arith, less, tie)))
            (λ both. absurd (omega (arith, both.1, at_a.at_is, at_b.at_is, order)))
            (is.sorted j i (omega (arith, behind, other)) at_a.within)
      ]
    ] in
    let m : ℕ = j - 1 in
    let next : m + 1 ≡ j = omega (arith, up) in
    let key_m : (place_at ps m).key ≡ (place_at ps j).key = elim (cases_eq i m) [
      | inl one ↦ ap (λ (n : ℕ). (place_at ps n).key) (sym one) ∙ tie
      | inr other ↦
          let low : IsBefore (place_at ps i) (place_at ps m) =
          is.sorted i m (omega (arith, up, other)) (omega (arith, at_b.within, up)) in
          let high : IsBefore (place_at ps m) (place_at ps j) =
          is.sorted m j (omega (arith, up)) at_b.within in
          ⊎_elim
          (λ less. ⊎_elim (λ more. absurd (omega (arith, less, more, tie))) (λ eq. eq.0) high)
          (λ eq_low. ⊎_elim (λ more. absurd (omega (arith, eq_low.0, more, tie))) (λ eq. eq.0) high)
          low
    ] in (
      m,
      omega (arith, next, at_b.within),
      key_m ∙ ap (λ (n : ℕ). (place_at ps n).key) (sym next),
      ap (λ (n : ℕ). (place_at ps n).at) next ∙ at_b.at_is,
    )

-- at the end of the index
pub tie_ends : (ps : List Place) (i : ℕ) (r : Option (ℕ × ℕ))
    → length ps ≤ i
    → i ≤ length ps + 1
    → (1 ≤ length ps → i ≤ length ps)
    → TellsTie ps i r
    → TellsTie ps (length ps) r
tie_ends ps i None all few ends none = λ m below. none m (omega (arith, below, all))
tie_ends ps i (Some (j, k)) all few ends tie = record {
  index = tie.index;
  within = elim (cases_lt 0 (length ps)) [
    | inl some ↦ omega (arith, tie.within, ends (omega (arith, some)))
    | inr empty ↦ omega (arith, tie.within, few, empty)
  ];
  tie = tie.tie;
  first = tie.first;
  second = tie.second;
  least = λ m below. tie.least m (omega (arith, below, all));
}

-- no neighbours with one key: no two exceptions with it
pub once_of : (key : Key) (es : List Exception) (ps : List Place)
    → IsSortedBy key es ps
    → HasNoTie ps (length ps)
    → IsOnceBy key es
once_of key es ps is none a b order below same =
    let tie = same_neighbour key es ps a b is order below same in
    none tie.0 tie.1 tie.2

pub repeat_by_of : (key : Key) (es : List Exception) (ps : List Place) (j k : ℕ)
    → IsSortedBy key es ps
    → IsFirstTie ps (length ps) j k
    → IsRepeatBy key es j k
repeat_by_of key es ps j k is tie =
    let i : ℕ = tie.index in
    let first = is.points i (omega (arith, tie.within)) in
    let second = is.points (i + 1) tie.within in
    record {
      order = ⊎_elim
          (λ less. absurd (omega (arith, less, tie.tie)))
          (λ both. omega (arith, both.1, tie.first, tie.second))
          (is.sorted i (i + 1) (omega arith) tie.within);
      within = omega (arith, second.within, tie.second);
      same =
          ap (λ (n : ℕ). key_of key (exception_at es n)) (sym tie.first)
          ∙ sym first.key_is ∙ tie.tie ∙ second.key_is
          ∙ ap (λ (n : ℕ). key_of key (exception_at es n)) tie.second;
      least = λ a b order below same.
          let other = same_neighbour key es ps a b is order below same in
          omega (arith, tie.least other.0 other.1 other.2, other.3);
    }

pub tells_of : (key : Key) (es : List Exception) (ps : List Place) (r : Option (ℕ × ℕ))
    → IsSortedBy key es ps
    → TellsTie ps (length ps) r
    → TellsRepeat key es r
tells_of key es ps None is none = once_of key es ps is none
tells_of key es ps (Some (j, k)) is tie = repeat_by_of key es ps j k is tie

pub sorted_indexed : (key : Key) (es : List Exception) (ps : List Place)
    → IsSortedBy key es ps
    → HasNoTie ps (length ps)
    → IsIndexed key es ps
sorted_indexed key es ps is none = record {
  counted = is.counted;
  ascends = λ i j order below.
      ascending ps is.sorted none i (j - suc i)
      (let steps : i + suc (j - suc i) ≡ j = omega (arith, order) in omega (arith, steps, below))
      j (omega (arith, order));
  points = is.points;
  complete = is.complete;
}
  where
    ascending : (ps : List Place)
        → ((i j : ℕ) → i < j → j < length ps → IsBefore (place_at ps i) (place_at ps j))
        → HasNoTie ps (length ps)
        → (i more : ℕ)
        → i + suc more < length ps
        → (j : ℕ)
        → j ≡ i + suc more
        → (place_at ps i).key < (place_at ps j).key
    ascending ps sorted none i zero below j is =
        let one : j ≡ i + 1 = omega (arith, is) in
        let next : (place_at ps i).key < (place_at ps (i + 1)).key =
        ⊎_elim (λ less. less) (λ tie. absurd (none i (omega (arith, below)) tie.0))
        (sorted i (i + 1) (omega arith) (omega (arith, below))) in
        subst (λ (n : ℕ). (place_at ps i).key < (place_at ps n).key) (sym one) next
    ascending ps sorted none i (suc more) below j is =
        let last : j ≡ i + suc more + 1 = omega (arith, is) in
        let so_far = ascending ps sorted none i more (omega (arith, below)) (i + suc more) refl in
        let le : (place_at ps (i + suc more)).key ≤ (place_at ps (i + suc more + 1)).key =
        ⊎_elim (λ less. omega (arith, less)) (λ tie. omega (arith, tie.0))
        (sorted (i + suc more) (i + suc more + 1) (omega arith) (omega (arith, below))) in
        subst (λ (n : ℕ). (place_at ps i).key < (place_at ps n).key) (sym last)
        (omega (arith, so_far, le))

-- ---- the earlier of two repeats is the first

-- up to these two, no two exceptions have this key in common
record IsClear (key : Key) (es : List Exception) (j k : ℕ) : Type 0 where
  before : (a b : ℕ)
      → a < b
      → b < k
      → key_of key (exception_at es a) ≢ key_of key (exception_at es b)
  here : (a : ℕ) → a < j → key_of key (exception_at es a) ≢ key_of key (exception_at es k)

clear_none : (key : Key) (es : List Exception) (j k : ℕ)
    → IsOnceBy key es
    → j < k
    → k < length es
    → IsClear key es j k
clear_none key es j k once order below = record {
  before = λ a b ab bk. once a b ab (omega (arith, bk, below));
  here = λ a aj. once a k (omega (arith, aj, order)) below;
}

clear_some : (key : Key) (es : List Exception) (j k j' k' : ℕ)
    → IsRepeatBy key es j' k'
    → (k < k') ⊎ ((k ≡ k') × (j ≤ j'))
    → j < k
    → k < length es
    → IsClear key es j k
clear_some key es j k j' k' is up order below = record {
  before = λ a b ab bk same.
      let least = is.least a b ab (omega (arith, bk, below)) same in
      ⊎_elim (λ less. omega (arith, least, less, bk)) (λ tie. omega (arith, least, tie.0, bk)) up;
  here = λ a aj same.
      ⊎_elim
      (λ less. omega (arith, is.least a k (omega (arith, aj, order)) below same, less))
      (λ tie.
      let whole : key_of key (exception_at es a) ≡ key_of key (exception_at es j') =
      same ∙ ap (λ (n : ℕ). key_of key (exception_at es n)) tie.0 ∙ sym is.same in
      omega (
        arith,
        is.least a j' (omega (arith, aj, tie.1))
            (omega (arith, is.order, is.within)) whole,
        is.order,
      ))
      up;
}

first_of : (es : List Exception) (j k : ℕ)
    → j < k
    → k < length es
    → share (exception_at es j) (exception_at es k) ≡ true
    → IsClear Old es j k
    → IsClear New es j k
    → repeat_of es ≡ Some (j, k)
first_of es j k order below shared old new =
    repeat_is es j k (record {
      order = order;
      within = below;
      shared = shared;
      none_before = λ a b ab bk.
          others_share (exception_at es a) (exception_at es b)
          (record { old_chunk = old.before a b ab bk; new_chunk = new.before a b ab bk });
      none_here = λ a aj.
          others_share (exception_at es a) (exception_at es k)
          (record { old_chunk = old.here a aj; new_chunk = new.here a aj });
    })

share_old : (a b : Exception) → a.old_chunk ≡ b.old_chunk → share a b ≡ true
share_old a b same =
    let test : (a.old_chunk == b.old_chunk) ≡ true = eq-eqb a.old_chunk b.old_chunk same in
    rw test refl

share_new : (a b : Exception) → a.new_chunk ≡ b.new_chunk → share a b ≡ true
share_new a b same =
    let test : (a.new_chunk == b.new_chunk) ≡ true = eq-eqb a.new_chunk b.new_chunk same in
    elim (cases_Bool (a.old_chunk == b.old_chunk)) [
      | inl yes_old ↦ rw yes_old refl
      | inr no_old ↦ rw no_old test
    ]

pub repeat_is_earlier : (es : List Exception) (a b : Option (ℕ × ℕ))
    → TellsRepeat Old es a
    → TellsRepeat New es b
    → repeat_of es ≡ earlier_of a b
repeat_is_earlier es None None old new =
    none_repeated es (λ j k order below.
    record { old_chunk = old j k order below; new_chunk = new j k order below })
repeat_is_earlier es (Some (j, k)) None old new =
    first_of es j k old.order old.within
    (share_old (exception_at es j) (exception_at es k) old.same)
    (clear_some Old es j k j k old (inr (refl, omega arith)) old.order old.within)
    (clear_none New es j k new old.order old.within)
repeat_is_earlier es None (Some (j, k)) old new =
    first_of es j k new.order new.within
    (share_new (exception_at es j) (exception_at es k) new.same)
    (clear_none Old es j k old new.order new.within)
    (clear_some New es j k j k new (inr (refl, omega arith)) new.order new.within)
repeat_is_earlier es (Some (j, k)) (Some (j', k')) old new =
    elim (cases_Bool (nat_lt k' k || ((k' == k) && nat_lt j' j))) [
      | inl later ↦
          let up : (k' < k) ⊎ ((k' ≡ k) × (j' ≤ j)) = later_is later in
          rw later
          (first_of es j' k' new.order new.within
          (share_new (exception_at es j') (exception_at es k') new.same)
          (clear_some Old es j' k' j k old up new.order new.within)
          (clear_some New es j' k' j' k' new (inr (refl, omega arith)) new.order new.within))
      | inr sooner ↦
          let up : (k < k') ⊎ ((k ≡ k') × (j ≤ j')) = sooner_is sooner in
          rw sooner
          (first_of es j k old.order old.within
          (share_old (exception_at es j) (exception_at es k) old.same)
          (clear_some Old es j k j k old (inr (refl, omega arith)) old.order old.within)
          (clear_some New es j k j' k' new up old.order old.within))
    ]
  where
    later_is : (nat_lt k' k || ((k' == k) && nat_lt j' j)) ≡ true → (k' < k) ⊎ ((k' ≡ k) × (j' ≤ j))
    later_is is = elim (cases_Bool (nat_lt k' k)) [
      | inl less ↦ inl (ltb-true k' k less)
      | inr not_less ↦
          let rest : ((k' == k) && nat_lt j' j) ≡ true = (rw not_less at is) in
          let both = and_parts (k' == k) (nat_lt j' j) rest in
          let less : j' < j = ltb-true j' j both.1 in
          inr (eqb-true k' k both.0, omega (arith, less))
    ]

    sooner_is : (nat_lt k' k || ((k' == k) && nat_lt j' j)) ≡ false
        → (k < k') ⊎ ((k ≡ k') × (j ≤ j'))
    sooner_is is = elim (cases_lt k k') [
      | inl less ↦ inl less
      | inr le ↦ elim (cases_eq k k') [
        | inr other ↦
            let less : nat_lt k' k ≡ true = lt-ltb k' k (omega (arith, le, other)) in
            let failed : true ≡ false = (rw less at is) in
            absurd (cc)
        | inl same ↦ elim (cases_lt j' j) [
          | inr fine ↦ inr (same, fine)
          | inl less ↦
              let no : nat_lt k' k ≡ false = le-ltb k' k (omega (arith, same)) in
              let eq : (k' == k) ≡ true = eq-eqb k' k (sym same) in
              let lt : nat_lt j' j ≡ true = lt-ltb j' j less in
              let failed : true ≡ false = (rw lt at (rw eq at (rw no at is))) in
              absurd (cc)
        ]
      ]
    ]

-- ---- an index by old chunks, and repeats by both

pub repeat_told : (es : List Exception) (ps : List Place) (a b : Option (ℕ × ℕ))
    → IsSortedBy Old es ps
    → TellsTie ps (length ps) a
    → TellsRepeat New es b
    → repeat_of es ≡ earlier_of a b
repeat_told es ps a b is ties new = repeat_is_earlier es a b (tells_of Old es ps a is ties) new

pub indexed_told : (es : List Exception) (ps : List Place) (a b : Option (ℕ × ℕ))
    → IsSortedBy Old es ps
    → TellsTie ps (length ps) a
    → None ≡ earlier_of a b
    → IsIndexed Old es ps
indexed_told es ps None b is ties none = sorted_indexed Old es ps is ties
indexed_told es ps (Some x) None is ties none = absurd (cc)
indexed_told es ps (Some (j, k)) (Some (j', k')) is ties none =
    elim (cases_Bool (nat_lt k' k || ((k' == k) && nat_lt j' j))) [
      | inl later ↦
          let failed : None ≡ Some (j', k') = none ∙ (rw later refl) in
          absurd (cc)
      | inr sooner ↦
          let failed : None ≡ Some (j, k) = none ∙ (rw sooner refl) in
          absurd (cc)
    ]
