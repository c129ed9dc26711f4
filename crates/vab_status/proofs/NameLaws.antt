-- A list by its names is the same list, in the order of the names.
use Rattle.std.proofs.Common.{◌≡◌, ℕ, zero, suc, ◌<◌, inl, inr, Bool, false, List, [], ◌∷◌}
use Rattle.std.proofs.Common.{length, get_or, arith, add-one}
use Rattle.std.specs.Prelude.{All}
use Rattle.std.specs.Cmp.{IsStrictWeakOrder}
use Rattle.std.specs.Cmp.Lexicographic.{nat_list_cmp_total}
use Rattle.std.specs.List.Sorted.{IsPermutation}
use Rattle.std.proofs.lemmas.Bool.{cases_Bool}
use Rattle.std.proofs.lemmas.List.Elements.{All-cons, All-nil, All-weaker}
use Rattle.std.proofs.lemmas.List.Sorted.{ranks_by, IsPermutation-refl, IsPermutation-cons}
use Rattle.std.proofs.lemmas.List.Sorted.{IsPermutation-middle, IsPermutation-trans}
use Rattle.vab_status.specs.Page.{is_before, put_by, by_name}
use Rattle.vab_status.specs.Order.{AreOrdered}
use Rattle.vab_status.proofs.PageLaws.{all_put}

module _ {A : Type 0} (name_of : A → List ℕ) where
  -- ---- the same elements

  put_same : (x : A) (ys : List A) → IsPermutation (x ∷ ys) (put_by name_of x ys)
  put_same x [] = IsPermutation-refl (x ∷ [])
  put_same x (y ∷ ys) = elim (cases_Bool (is_before (name_of y) (name_of x))) [
    | inl h ↦ rw h
        (IsPermutation-trans (x ∷ y ∷ ys) (y ∷ x ∷ ys) (y ∷ put_by name_of x ys)
        (IsPermutation-middle (x ∷ []) y ys)
        (IsPermutation-cons y (x ∷ ys) (put_by name_of x ys) (put_same x ys)))
    | inr h ↦ rw h (IsPermutation-refl (x ∷ y ∷ ys))
  ]

  all_same : (xs : List A) → IsPermutation xs (by_name name_of xs)
  all_same [] = IsPermutation-refl []
  all_same (x ∷ xs) =
      IsPermutation-trans (x ∷ xs) (x ∷ by_name name_of xs) (put_by name_of x (by_name name_of xs))
      (IsPermutation-cons x xs (by_name name_of xs) (all_same xs))
      (put_same x (by_name name_of xs))

  -- ---- in order

  abbrev before : A → A → Bool
  before x y = is_before (name_of x) (name_of y)

  weak : IsStrictWeakOrder before
  weak = ranks_by nat_list_cmp_total name_of

  -- none that follows stands before one
  abbrev AreSorted : List A → Type 0
  AreSorted [] = Unit {0}
  AreSorted (x ∷ xs) = All (λ y. before y x ≡ false) xs × AreSorted xs

  put_sorted : (x : A) (ys : List A) → AreSorted ys → AreSorted (put_by name_of x ys)
  put_sorted x [] sorted = (All-nil (λ y. before y x ≡ false), tt)
  put_sorted x (y ∷ ys) sorted = elim (cases_Bool (is_before (name_of y) (name_of x))) [
    | inl h ↦ rw h (
      all_put (λ z. before z y ≡ false) name_of x ys (weak.one_way y x h) sorted.0,
      put_sorted x ys sorted.1,
    )
    | inr h ↦ rw h (
      All-cons (λ z. before z x ≡ false) y ys h
          (All-weaker (λ z. before z y ≡ false) (λ z. before z x ≡ false)
          (λ z not_before. weak.chain z y x not_before h) ys sorted.0),
      sorted,
    )
  ]

  all_sorted : (xs : List A) → AreSorted (by_name name_of xs)
  all_sorted [] = tt
  all_sorted (x ∷ xs) = put_sorted x (by_name name_of xs) (all_sorted xs)

  neighbours : (xs : List A) (k : ℕ) (d : A)
      → AreSorted xs
      → suc k < length xs
      → before (get_or xs (suc k) d) (get_or xs k d) ≡ false
  neighbours [] k d sorted lt = absurd (omega (arith, lt))
  neighbours (x ∷ xs) zero d sorted lt = sorted.0 0 d (omega (arith, lt))
  neighbours (x ∷ xs) (suc k) d sorted lt = neighbours xs k d sorted.1 (omega (arith, lt))

  pub ordered : (xs : List A) → AreOrdered name_of xs
  ordered xs = record {
    same = all_same xs;
    sorted = λ k d from lt.
        rw add-one (neighbours (by_name name_of xs) k d (all_sorted xs) (omega (arith, lt)));
  }
