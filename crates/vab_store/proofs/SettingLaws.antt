-- A list of exceptions in which a block gets a new chunk, and its index.
use Rattle.std.proofs.Common.{◌≡◌, ◌≢◌, ◌⊎◌, inl, inr, ⊎_elim, ℕ, zero, suc, ◌+◌, ◌≤◌, ◌<◌}
use Rattle.std.proofs.Common.{List, []}
use Rattle.std.proofs.Common.{◌∷◌, ◌++◌, length, refl, sym, ◌∙◌, ap, subst, arith, true, false}
use Rattle.std.proofs.Common.{◌==◌, ◌-◌, set}
use Rattle.std.specs.Prelude.{Some}
use Rattle.std.specs.List.{insert}
use Rattle.std.proofs.lemmas.Bool.{cases_lt, cases_eq, cases_Bool, eq-eqb, ne_eqb, eqb-true}
use Rattle.std.proofs.lemmas.Bool.{eqb-false}
use Rattle.std.proofs.lemmas.List.{length-set, get_or-set_same, get_or-set_other}
use Rattle.std.proofs.lemmas.List.{length-append, get_or_append_left, get_or-append_right}
use Rattle.std.proofs.lemmas.List.Edits.{length-insert, get_or-insert_below, get_or-insert_at}
use Rattle.std.proofs.lemmas.List.Edits.{get_or-insert_above}
use Rattle.vab_exceptions.specs.declared.area.Exception.{Exception}
use Rattle.vab_store.specs.declared.index.Key.TheVariants.{Old}
use Rattle.vab_store.specs.declared.index.Place.{Place}
use Rattle.vab_store.specs.Index.{place_at, Ascends, LacksKey, Points, IsIndexed}
use Rattle.vab_store.specs.Index.{key_of, IsRank}
use Rattle.vab_store.specs.Setting.{entry_place, set_entry}
use Rattle.vab_store.specs.View.{no_exception, exception_at, view_of}
use Rattle.vab_store.proofs.IndexLaws.{indexed_once}

abbrev pub exception_of : ℕ → ℕ → Exception
exception_of old new = record { old_chunk = old; new_chunk = new }

-- no exception has this old chunk
abbrev pub LacksOld : List Exception → ℕ → Type 0
LacksOld es old = (j : ℕ) → j < length es → (exception_at es j).old_chunk ≢ old

-- ---- the place of an old chunk

pub place_there : (es : List Exception) (old k : ℕ)
    → k < length es
    → (exception_at es k).old_chunk ≡ old
    → ((j : ℕ) → j < k → (exception_at es j).old_chunk ≢ old)
    → entry_place es old ≡ k
unfolding entry_place
place_there [] old k below is first = absurd (omega (arith, below))
place_there (e ∷ es) old zero below is first =
    let here : (e.old_chunk == old) ≡ true = eq-eqb e.old_chunk old is in
    rw here refl
place_there (e ∷ es) old (suc k) below is first =
    let here : (e.old_chunk == old) ≡ false = ne_eqb e.old_chunk old (first 0 (omega arith)) in
    rw here (ap suc (place_there es old k (omega (arith, below)) is
    (λ j lt. first (suc j) (omega (arith, lt)))))

pub place_behind : (es : List Exception) (old : ℕ)
    → LacksOld es old
    → entry_place es old ≡ length es
unfolding entry_place
place_behind [] old none = refl
place_behind (e ∷ es) old none =
    let here : (e.old_chunk == old) ≡ false = ne_eqb e.old_chunk old (none 0 (omega arith)) in
    rw here (ap suc (place_behind es old (λ j below. none (suc j) (omega (arith, below)))))

-- the first exception that has it
pub record IsHeld (es : List Exception) (old : ℕ) : Type 0 where
  pub within : entry_place es old < length es
  pub old_is : (exception_at es (entry_place es old)).old_chunk ≡ old

-- it stands somewhere, or nowhere
pub held_or_not : (es : List Exception) (old : ℕ)
    → IsHeld es old ⊎ (LacksOld es old × (entry_place es old ≡ length es))
unfolding entry_place
held_or_not [] old = inr ((λ j below. absurd (omega (arith, below))), refl)
held_or_not (e ∷ es) old = elim (cases_Bool (e.old_chunk == old)) [
  | inl here ↦
      let first : entry_place (e ∷ es) old ≡ 0 = rw here refl in
      inl (record {
        within = omega (arith, first);
        old_is =
            ap (λ (k : ℕ). (exception_at (e ∷ es) k).old_chunk) first
            ∙ eqb-true e.old_chunk old here;
      })
  | inr other ↦
      let later : entry_place (e ∷ es) old ≡ suc (entry_place es old) = rw other refl in
      ⊎_elim
      (λ held. inl (record {
        within = omega (arith, later, held.within);
        old_is =
            ap (λ (k : ℕ). (exception_at (e ∷ es) k).old_chunk) later
            ∙ held.old_is;
      }))
      (λ none. inr (
        (λ j below. lacks_more e es old other none.0 j below),
        later ∙ ap suc none.1,
      ))
      (held_or_not es old)
]
  where
    lacks_more : (e : Exception) (es : List Exception) (old : ℕ)
        → (e.old_chunk == old) ≡ false
        → LacksOld es old
        → LacksOld (e ∷ es) old
    lacks_more e es old other none zero below = eqb-false e.old_chunk old other
    lacks_more e es old other none (suc j) below = none j (omega (arith, below))

pub place_most : (es : List Exception) (old : ℕ) → entry_place es old ≤ length es
place_most es old =
    ⊎_elim (λ held. omega (arith, held.within)) (λ none. omega (arith, none.1)) (held_or_not es old)

pub place_held : (es : List Exception) (old : ℕ)
    → entry_place es old < length es
    → (exception_at es (entry_place es old)).old_chunk ≡ old
place_held es old below =
    ⊎_elim (λ held. held.old_is) (λ none. absurd (omega (arith, none.1, below)))
    (held_or_not es old)

pub place_lacks : (es : List Exception) (old : ℕ)
    → length es ≤ entry_place es old
    → LacksOld es old
place_lacks es old le =
    ⊎_elim (λ held. absurd (omega (arith, held.within, le))) (λ none. none.0) (held_or_not es old)

-- ---- the list

pub set_in_place : (es : List Exception) (old new : ℕ)
    → entry_place es old < length es
    → set_entry es old new ≡ set es (entry_place es old) (exception_of old new)
unfolding entry_place set_entry
set_in_place [] old new below = absurd (omega (arith, below))
set_in_place (e ∷ es) old new below = elim (cases_Bool (e.old_chunk == old)) [
  | inl here ↦ rw here refl
  | inr other ↦
      let later : entry_place (e ∷ es) old ≡ suc (entry_place es old) = rw other refl in
      rw other (ap (λ (l : List Exception). e ∷ l)
      (set_in_place es old new (omega (arith, below, later))))
]

pub set_behind : (es : List Exception) (old new : ℕ)
    → LacksOld es old
    → set_entry es old new ≡ es ++ exception_of old new ∷ []
unfolding set_entry
set_behind [] old new none = refl
set_behind (e ∷ es) old new none =
    let here : (e.old_chunk == old) ≡ false = ne_eqb e.old_chunk old (none 0 (omega arith)) in
    rw here (ap (λ (l : List Exception). e ∷ l)
    (set_behind es old new (λ j below. none (suc j) (omega (arith, below)))))

-- how long it is: as long as before, or one longer
pub length-set_held : (es : List Exception) (old new : ℕ)
    → entry_place es old < length es
    → length (set_entry es old new) ≡ length es
length-set_held es old new below =
    ap length (set_in_place es old new below)
    ∙ length-set es (entry_place es old) (exception_of old new)

pub length-set_behind : (es : List Exception) (old new : ℕ)
    → length es ≤ entry_place es old
    → length (set_entry es old new) ≡ length es + 1
length-set_behind es old new le =
    ap length (set_behind es old new (place_lacks es old le))
    ∙ length-append es (exception_of old new ∷ [])

-- what stands at its place
pub set_entry-here : (es : List Exception) (old new : ℕ)
    → exception_at (set_entry es old new) (entry_place es old) ≡ exception_of old new
set_entry-here es old new =
    ⊎_elim
    (λ held.
    ap (λ (l : List Exception). exception_at l (entry_place es old))
    (set_in_place es old new held.within)
    ∙ get_or-set_same es (entry_place es old) (exception_of old new) no_exception held.within)
    (λ none.
    ap (λ (l : List Exception). exception_at l (entry_place es old)) (set_behind es old new none.0)
    ∙ get_or-append_right es (exception_of old new ∷ []) (length es) (entry_place es old)
    no_exception refl (omega (arith, none.1))
    ∙ ap (exception_at (exception_of old new ∷ []))
    (let zeroth : entry_place es old - length es ≡ 0 = omega (arith, none.1) in zeroth))
    (held_or_not es old)

-- and at another
pub set_entry-there : (es : List Exception) (old new j : ℕ)
    → j ≢ entry_place es old
    → j < length es
    → exception_at (set_entry es old new) j ≡ exception_at es j
set_entry-there es old new j other below =
    ⊎_elim
    (λ held.
    ap (λ (l : List Exception). exception_at l j) (set_in_place es old new held.within)
    ∙ get_or-set_other es (entry_place es old) j (exception_of old new) no_exception other)
    (λ none.
    ap (λ (l : List Exception). exception_at l j) (set_behind es old new none.0)
    ∙ get_or_append_left es (exception_of old new ∷ []) no_exception j below)
    (held_or_not es old)

-- ---- what it says

pub view_set : (es : List Exception) (old new : ℕ) → view_of (set_entry es old new) old ≡ Some new
unfolding set_entry
view_set [] old new =
    let here : (old == old) ≡ true = eq-eqb old old refl in
    rw here refl
view_set (e ∷ es) old new = elim (cases_Bool (e.old_chunk == old)) [
  | inl here ↦
      let same : (old == old) ≡ true = eq-eqb old old refl in
      rw (here, same) refl
  | inr other ↦ rw (other, other) (view_set es old new)
]

pub view_set_other : (es : List Exception) (old new block : ℕ)
    → block ≢ old
    → view_of (set_entry es old new) block ≡ view_of es block
unfolding set_entry
view_set_other [] old new block other =
    let not : (old == block) ≡ false = ne_eqb old block (λ same. other (sym same)) in
    rw not refl
view_set_other (e ∷ es) old new block other = elim (cases_Bool (e.old_chunk == old)) [
  | inl here ↦
      let not : (old == block) ≡ false = ne_eqb old block (λ same. other (sym same)) in
      let not_e : (e.old_chunk == block) ≡ false =
      ne_eqb e.old_chunk block (λ same. other (sym same ∙ eqb-true e.old_chunk old here)) in
      rw (here, not, not_e) refl
  | inr differs ↦ rw differs (elim (cases_Bool (e.old_chunk == block)) [
    | inl is ↦ rw is refl
    | inr not ↦ rw not (view_set_other es old new block other)
  ])
]

-- ---- its index

-- a key that the place of its rank doesn't have is in no place
pub rank_lacks : (ps : List Place) (key rank : ℕ)
    → Ascends ps
    → IsRank ps key rank
    → (rank < length ps → (place_at ps rank).key ≢ key)
    → LacksKey ps key
rank_lacks ps key rank ascends is here i below same =
    elim (cases_lt i rank) [
      | inl before ↦ omega (arith, same, is.below i before)
      | inr behind ↦
          let inside : rank < length ps = omega (arith, behind, below) in
          let less : key ≤ (place_at ps rank).key = is.rest rank (omega arith) inside in
          let other : (place_at ps rank).key ≢ key = here inside in
          elim (cases_eq rank i) [
            | inl one ↦ other (ap (λ (k : ℕ). (place_at ps k).key) one ∙ same)
            | inr two ↦
                let rise : (place_at ps rank).key < (place_at ps i).key =
                ascends rank i (omega (arith, behind, two)) below in
                omega (arith, rise, less, same)
          ]
    ]

pub indexed_lacks_old : (es : List Exception) (ps : List Place) (old : ℕ)
    → IsIndexed Old es ps
    → LacksKey ps old
    → LacksOld es old
indexed_lacks_old es ps old is lacks k below same =
    let held = is.complete k below in
    lacks held.index held.within
    ((is.points held.index held.within).key_is
    ∙ ap (λ (j : ℕ). (exception_at es j).old_chunk) held.at_is
    ∙ same)

-- the place that the index has of an old chunk
pub indexed_place : (es : List Exception) (ps : List Place) (old i : ℕ)
    → IsIndexed Old es ps
    → i < length ps
    → (place_at ps i).key ≡ old
    → (place_at ps i).at ≡ entry_place es old
indexed_place es ps old i is below key =
    let points = is.points i below in
    let old_is : (exception_at es (place_at ps i).at).old_chunk ≡ old = sym points.key_is ∙ key in
    sym (place_there es old (place_at ps i).at points.within old_is
    (λ j lt same.
    indexed_once es ps is j (place_at ps i).at lt points.within (same ∙ sym old_is)))

-- an exception is replaced by one with its old chunk
pub indexed_set : (es : List Exception) (ps : List Place) (k old new : ℕ)
    → IsIndexed Old es ps
    → k < length es
    → (exception_at es k).old_chunk ≡ old
    → IsIndexed Old (set es k (exception_of old new)) ps
indexed_set es ps k old new is below old_is =
    let now : List Exception = set es k (exception_of old new) in
    let long : length now ≡ length es = length-set es k (exception_of old new) in
    let olds : (j : ℕ) → (exception_at now j).old_chunk ≡ (exception_at es j).old_chunk =
    λ j. elim (cases_eq j k) [
      | inl here ↦
          ap (λ (i : ℕ). (exception_at now i).old_chunk) here
          ∙ ap (λ (e : Exception). e.old_chunk)
          (get_or-set_same es k (exception_of old new) no_exception below)
          ∙ sym old_is
          ∙ ap (λ (i : ℕ). (exception_at es i).old_chunk) (sym here)
      | inr other ↦
          ap (λ (e : Exception). e.old_chunk)
          (get_or-set_other es k j (exception_of old new) no_exception other)
    ] in
    record {
      counted = is.counted ∙ sym long;
      ascends = is.ascends;
      points = λ i lt.
          let points = is.points i lt in
          record {
            within = omega (arith, points.within, long);
            key_is = points.key_is ∙ sym (olds (place_at ps i).at);
          };
      complete = λ j lt. is.complete j (omega (arith, lt, long));
    }

-- an exception more, behind the others
module _ (es : List Exception) (ps : List Place) (rank old new : ℕ) (is : IsIndexed Old es ps)
    (ranked : IsRank ps old rank) (lacks : LacksOld es old) where
  abbrev pub one : Place
  one = record { key = old; at = length es }

  abbrev none : Place
  none = record { key = 0; at = 0 }

  longer : length (insert ps rank one) ≡ length ps + 1
  longer = length-insert ps rank one ranked.within

  long_list : length (es ++ exception_of old new ∷ []) ≡ length es + 1
  long_list = length-append es (exception_of old new ∷ [])

  last_is : exception_at (es ++ exception_of old new ∷ []) (length es) ≡ exception_of old new
  last_is =
      let zeroth : length es - length es ≡ 0 = omega arith in
      get_or-append_right es (exception_of old new ∷ []) (length es) (length es) no_exception refl
      (omega arith)
      ∙ ap (exception_at (exception_of old new ∷ [])) zeroth

  front_is : (j : ℕ)
      → j < length es
      → exception_at (es ++ exception_of old new ∷ []) j ≡ exception_at es j
  front_is j below = get_or_append_left es (exception_of old new ∷ []) no_exception j below

  before_at : (i : ℕ) → i < rank → place_at (insert ps rank one) i ≡ place_at ps i
  before_at i lt = get_or-insert_below ps rank one none i lt ranked.within

  here_at : place_at (insert ps rank one) rank ≡ one
  here_at = get_or-insert_at ps rank one none ranked.within

  behind_at : (i : ℕ)
      → rank ≤ i
      → place_at (insert ps rank one) (i + 1) ≡ place_at ps i
  behind_at i le = get_or-insert_above ps rank one none i le ranked.within

  -- the key that follows isn't the new one
  above : (i : ℕ) → rank ≤ i → i < length ps → old < (place_at ps i).key
  above i le below =
      let points = is.points i below in
      let other : (place_at ps i).key ≢ old = λ same.
      lacks (place_at ps i).at points.within (sym points.key_is ∙ same) in
      omega (arith, ranked.rest i le below, other)

  point_kept : (i : ℕ)
      → i < length ps
      → Points (key_of Old) (es ++ exception_of old new ∷ []) (place_at ps i)
  point_kept i below =
      let points = is.points i below in
      record {
        within = omega (arith, points.within, long_list);
        key_is =
            points.key_is
            ∙ ap (λ (e : Exception). e.old_chunk) (sym (front_is (place_at ps i).at points.within));
      }

  -- where a place of the longer index stood, if it isn't the new one
  record Stood (i : ℕ) : Type 0 where
    from : ℕ
    inside : from < length ps
    same : place_at (insert ps rank one) i ≡ place_at ps from
    order : ((i < rank) × (from ≡ i)) ⊎ ((rank < i) × (from + 1 ≡ i))

  stood : (i : ℕ) → i < length (insert ps rank one) → i ≢ rank → Stood i
  stood i below other =
      elim (cases_lt i rank) [
        | inl before ↦ record {
          from = i;
          inside = omega (arith, before, ranked.within);
          same = before_at i before;
          order = inl (before, refl);
        }
        | inr behind ↦
            let back : i - 1 + 1 ≡ i = omega (arith, behind, other) in
            record {
              from = i - 1;
              inside = omega (arith, below, longer, behind, other);
              same =
                  ap (place_at (insert ps rank one)) (sym back)
                  ∙ behind_at (i - 1) (omega (arith, behind, other));
              order = inr (omega (arith, behind, other), back);
            }
      ]

  ascends_more : Ascends (insert ps rank one)
  ascends_more i j order below =
      elim (cases_eq i rank) [
        | inl i_here ↦
            let b = stood j below (λ same. omega (arith, same, i_here, order)) in
            let over : old < (place_at ps b.from).key =
            above b.from
            (⊎_elim (λ low. omega (arith, low.0, order, i_here))
            (λ high. omega (arith, high.0, high.1)) b.order) b.inside in
            omega (
              arith,
              over,
              ap (λ (p : Place). p.key) b.same,
              ap (λ (k : ℕ). (place_at (insert ps rank one) k).key) i_here,
              ap (λ (p : Place). p.key) here_at,
            )
        | inr i_other ↦
            let a = stood i (omega (arith, order, below)) i_other in
            elim (cases_eq j rank) [
              | inl j_here ↦
                  let lower : a.from < rank =
                  ⊎_elim (λ low. omega (arith, low.0, low.1))
                  (λ high. omega (arith, high.0, order, j_here)) a.order in
                  omega (
                    arith,
                    ranked.below a.from lower,
                    ap (λ (p : Place). p.key) a.same,
                    ap (λ (k : ℕ). (place_at (insert ps rank one) k).key) j_here,
                    ap (λ (p : Place). p.key) here_at,
                  )
              | inr j_other ↦
                  let b = stood j below j_other in
                  let rise : a.from < b.from =
                  ⊎_elim
                  (λ low. ⊎_elim (λ l. omega (arith, low.1, l.1, order))
                  (λ h. omega (arith, low.0, low.1, h.0, h.1)) b.order)
                  (λ high. ⊎_elim (λ l. omega (arith, high.0, l.0, order))
                  (λ h. omega (arith, high.1, h.1, order)) b.order)
                  a.order in
                  omega (
                    arith,
                    is.ascends a.from b.from rise b.inside,
                    ap (λ (p : Place). p.key) a.same,
                    ap (λ (p : Place). p.key) b.same,
                  )
            ]
      ]

  pub indexed_more : IsIndexed Old (es ++ exception_of old new ∷ []) (insert ps rank one)
  indexed_more = record {
    counted = omega (arith, longer, long_list, is.counted);
    ascends = ascends_more;
    points = λ i below.
        elim (cases_eq i rank) [
          | inl here ↦
              let at_one : Points (key_of Old) (es ++ exception_of old new ∷ []) one = record {
                within = omega (arith, long_list);
                key_is = ap (λ (e : Exception). e.old_chunk) (sym last_is);
              } in
              subst (Points (key_of Old) (es ++ exception_of old new ∷ []))
              (sym (ap (place_at (insert ps rank one)) here ∙ here_at)) at_one
          | inr other ↦
              let a = stood i below other in
              subst (Points (key_of Old) (es ++ exception_of old new ∷ [])) (sym a.same)
              (point_kept a.from a.inside)
        ];
    complete = λ k below.
        elim (cases_lt k (length es)) [
          | inl before ↦
              let held = is.complete k before in
              elim (cases_lt held.index rank) [
                | inl low ↦ record {
                  index = held.index;
                  within = omega (arith, held.within, longer);
                  at_is = ap (λ (p : Place). p.at) (before_at held.index low) ∙ held.at_is;
                }
                | inr high ↦ record {
                  index = held.index + 1;
                  within = omega (arith, held.within, longer);
                  at_is = ap (λ (p : Place). p.at) (behind_at held.index high) ∙ held.at_is;
                }
              ]
          | inr last ↦ record {
            index = rank;
            within = omega (arith, ranked.within, longer);
            at_is =
                ap (λ (p : Place). p.at) here_at
                ∙ (let is_last : length es ≡ k = omega (arith, last, below, long_list) in is_last);
          }
        ];
  }
