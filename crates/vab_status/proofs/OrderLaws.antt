-- Where an element is put into a list by its name.
use Rattle.std.proofs.Common.{◌≡◌, ◌∙◌, ℕ, suc, ◌+◌, ◌-◌, ◌<◌, ◌≤◌, true, false, List, [], ◌∷◌}
use Rattle.std.proofs.Common.{◌++◌, length, map, take, drop, get_or, refl, sym, ap, ap₂, subst}
use Rattle.std.proofs.Common.{arith, add-one, drop-cons, append_assoc, Bor}
use Rattle.std.proofs.lemmas.List.{get_or-map, length-map, map-append, take-map, drop-map}
use Rattle.std.proofs.lemmas.Grind.{take_at_read}
use Rattle.std.specs.Prelude.{All}
use Rattle.std.specs.List.{insert}
use Rattle.vab_status.specs.Page.{is_before, put_by, by_name}

-- ---- in a list of elements

module _ {A : Type 0} (name_of : A → List ℕ) (x : A) (ys : List A) (i : ℕ) where
  -- its place is no earlier than this
  abbrev pub IsBehind : Type 0
  IsBehind = take i ys ++ put_by name_of x (drop i ys) ≡ put_by name_of x ys

  module _ (y : A) (here : get_or ys i x ≡ y) (lt : i < length ys) (behind : IsBehind) where
    cut : drop i ys ≡ y ∷ drop (suc i) ys
    cut = drop-cons ys i x lt ∙ ap (λ (a : A). a ∷ drop (suc i) ys) here

    -- the next one doesn't: this is the place
    pub placed : is_before (name_of y) (name_of x) ≡ false → insert ys i x ≡ put_by name_of x ys
    placed next =
        let first : put_by name_of x (drop i ys) ≡ x ∷ drop i ys = rw cut (rw next refl) in
        ap (λ (t : List A). take i ys ++ t) (sym first) ∙ behind

    -- the next one does
    pub further : is_before (name_of y) (name_of x) ≡ true
        → take (i + 1) ys ++ put_by name_of x (drop (i + 1) ys) ≡ put_by name_of x ys
    further next =
        let first : put_by name_of x (drop i ys) ≡ y ∷ put_by name_of x (drop (suc i) ys) =
        rw cut (rw next refl) in
        let front : take (i + 1) ys ≡ take i ys ++ y ∷ [] =
        (take_at_read ys i x lt).1 ∙ ap (λ (a : A). take i ys ++ a ∷ []) here in
        rw (front, append_assoc, add-one)
        (ap (λ (t : List A). take i ys ++ t) (sym first) ∙ behind)

-- ---- in a list of references

abbrev pub targets : {A : Type 0} → List (Bor A) → List A
targets refs = map (λ r. r.now) refs

module _
    {A : Type 0} (name_of : A → List ℕ) (x : A) (refs : List (Bor A)) (i : ℕ) (r : Bor A)
    (is : r ≡ get_or refs i r) (lt : i < length refs)
    (behind : IsBehind name_of x (targets refs) i) where
  here : get_or (targets refs) i x ≡ r.now
  here = get_or-map (λ (p : Bor A). p.now) refs i r x lt ∙ ap (λ (p : Bor A). p.now) (sym is)

  within : i < length (targets refs)
  within = rw length-map lt

  pub placed_there : is_before (name_of r.now) (name_of x) ≡ false
      → insert (targets refs) i x ≡ put_by name_of x (targets refs)
  placed_there = placed name_of x (targets refs) i r.now here within behind

  pub further_there : is_before (name_of r.now) (name_of x) ≡ true
      → IsBehind name_of x (targets refs) (i + 1)
  further_there = further name_of x (targets refs) i r.now here within behind

-- ---- all of a list

-- one more, from the end of a list
pub one_more : {A : Type 0} (name_of : A → List ℕ) (xs : List A) (i : ℕ) (d : A)
    → i < length xs
    → put_by name_of (get_or xs i d) (by_name name_of (drop (i + 1) xs))
    ≡ by_name name_of (drop i xs)
one_more name_of xs i d lt = rw (add-one, drop-cons xs i d lt) refl

-- a reference is put among others
pub put_there : {A : Type 0} (refs : List (Bor A)) (i : ℕ) (r : Bor A)
    → targets (insert refs i r) ≡ insert (targets refs) i r.now
put_there {A} refs i r =
    let now : Bor A → A = λ p. p.now in
    map-append now (take i refs) (r ∷ drop i refs)
    ∙ ap₂ (λ (f b : List A). f ++ r.now ∷ b) (sym (take-map now i refs)) (sym (drop-map now i refs))

-- The last of those that are left is put in.
pub put_last : {A : Type 0} (name_of : A → List ℕ) (xs : List A) (k place : ℕ)
    (refs new : List (Bor A)) (r : Bor A)
    → 0 < k
    → k ≤ length xs
    → r.now ≡ get_or xs (k - 1) r.now
    → targets refs ≡ by_name name_of (drop k xs)
    → insert (targets refs) place r.now ≡ put_by name_of r.now (targets refs)
    → new ≡ insert refs place r
    → targets new ≡ by_name name_of (drop (k - 1) xs)
put_last {A} name_of xs k place refs new r some few is sorted puts made =
    let back : k - 1 + 1 ≡ k = omega arith in
    let more = one_more name_of xs (k - 1) r.now (omega arith) in
    ap targets made
    ∙ put_there refs place r
    ∙ puts
    ∙ ap₂ (put_by name_of) is sorted
    ∙ (rw back at more)

-- ---- one of many

-- what holds of all that are referred to holds of one
pub all_there : {A : Type 0} (P : A → Type 0) (refs : List (Bor A)) (i : ℕ) (r : Bor A)
    → i < length refs
    → r ≡ get_or refs i r
    → All P (targets refs)
    → P r.now
all_there {A} P refs i r lt is all =
    let now : Bor A → A = λ p. p.now in
    subst P (get_or-map now refs i r r.now lt ∙ ap now (sym is)) (all i r.now (rw length-map lt))
