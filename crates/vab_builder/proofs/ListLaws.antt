-- Laws of lists: what a filter keeps, pairs of elements, and what stands in a list.
use Rattle.std.proofs.Common.{◌≡◌, ℕ, zero, suc, ◌+◌, ◌<◌, ◌≤◌, Bool, true, false, List, [], ◌∷◌}
use Rattle.std.proofs.Common.{◌++◌, length, get_or, map, refl, sym, ap, subst, ◌∙◌, ◌⊎◌, inl, inr}
use Rattle.std.proofs.Common.{arith}
use Rattle.std.specs.Prelude.{not, All, AllPairs, Any, Contains}
use Rattle.std.specs.List.{filter, flat_map, sum_by}
use Rattle.std.proofs.lemmas.Bool.{cases_Bool}
use Rattle.std.proofs.lemmas.List.{length-map, get_or-map}
use Rattle.std.proofs.lemmas.List.Elements.{All-head, All-tail, All-append, All-map}
use Rattle.std.proofs.lemmas.List.Filters.{length-filter_both, sum_by-filter_both}
use Rattle.std.proofs.lemmas.List.Kept.{AllPairs-cons}
use Rattle.std.proofs.lemmas.List.Sums.{sum_by-cons}

-- ---- filters

pub filter_all : {X : Type 0} (p : X → Bool) (xs : List X) → All (λ x. p x ≡ true) xs
    → filter p xs ≡ xs
filter_all p [] h = refl
filter_all p (x ∷ xs) h =
    let here : p x ≡ true = All-head (λ y. p y ≡ true) x xs h in
    rw here (ap (λ (l : List _). x ∷ l) (filter_all p xs (All-tail (λ y. p y ≡ true) x xs h)))

pub filter_none : {X : Type 0} (p : X → Bool) (xs : List X) → All (λ x. p x ≡ false) xs
    → filter p xs ≡ []
filter_none p [] h = refl
filter_none p (x ∷ xs) h =
    let here : p x ≡ false = All-head (λ y. p y ≡ false) x xs h in
    rw here (filter_none p xs (All-tail (λ y. p y ≡ false) x xs h))

pub length-filter-le : {X : Type 0} (p : X → Bool) (xs : List X) → length (filter p xs) ≤ length xs
length-filter-le p xs = omega (arith, length-filter_both p (λ x. not (p x)) (λ _. refl) xs)

pub sum_by-filter-le : {X : Type 0} (p : X → Bool) (f : X → ℕ) (xs : List X)
    → sum_by f (filter p xs) ≤ sum_by f xs
sum_by-filter-le p f xs = omega (arith, sum_by-filter_both p (λ x. not (p x)) (λ _. refl) f xs)

-- ---- a map that keeps what is asked of its elements

pub map_keeps : {X Y Z : Type 0} (f : X → Y) (g : Y → Z) (h : X → Z) → ((x : X) → g (f x) ≡ h x)
    → (xs : List X) → map g (map f xs) ≡ map h xs
map_keeps f g h e [] = refl
map_keeps f g h e (x ∷ xs) = let here = e x in let rest = map_keeps f g h e xs in cc

pub flat_map-map : {X Y Z : Type 0} (f : X → Y) (g : Y → List Z) (xs : List X)
    → flat_map g (map f xs) ≡ flat_map (λ x. g (f x)) xs
flat_map-map f g [] = refl
flat_map-map f g (x ∷ xs) = ap (λ (l : List _). g (f x) ++ l) (flat_map-map f g xs)

pub sum_by-map : {X Y : Type 0} (f : X → Y) (g : Y → ℕ) (xs : List X)
    → sum_by g (map f xs) ≡ sum_by (λ x. g (f x)) xs
sum_by-map f g [] = refl
sum_by-map f g (x ∷ xs) = sum_by-cons g (f x) (map f xs)
    ∙ ap (λ (n : ℕ). g (f x) + n) (sum_by-map f g xs) ∙ sym (sum_by-cons (λ y. g (f y)) x xs)

-- ---- pairs

pub pairs_head : {X : Type 0} (R : X → X → Type 0) (x : X) (xs : List X) → AllPairs R (x ∷ xs)
    → All (R x) xs
pairs_head R x xs h = λ (k : ℕ) (d : _) lt. h 0 (suc k) d (omega arith) (omega (arith, lt))

pub pairs_tail : {X : Type 0} (R : X → X → Type 0) (x : X) (xs : List X) → AllPairs R (x ∷ xs)
    → AllPairs R xs
pairs_tail R x xs h =
    λ (i j : ℕ) (d : _) lt le. h (suc i) (suc j) d (omega (arith, lt)) (omega (arith, le))

pub pairs_append : {X : Type 0} (R : X → X → Type 0) (xs ys : List X) → AllPairs R xs
    → AllPairs R ys → All (λ x. All (R x) ys) xs → AllPairs R (xs ++ ys)
pairs_append R [] ys a b c = b
pairs_append R (x ∷ xs) ys a b c =
    AllPairs-cons R x (xs ++ ys)
    (All-append (R x) xs ys (pairs_head R x xs a) (All-head (λ y. All (R y) ys) x xs c))
    (pairs_append R xs ys (pairs_tail R x xs a) b (All-tail (λ y. All (R y) ys) x xs c))

pub pairs_map : {X Y : Type 0} (R : Y → Y → Type 0) (f : X → Y) (xs : List X)
    → AllPairs (λ a b. R (f a) (f b)) xs → AllPairs R (map f xs)
pairs_map R f [] h = λ i j d lt le. absurd (omega (arith, le))
pairs_map {X} R f (x ∷ xs) h =
    let S : X → X → Type 0 = λ a b. R (f a) (f b) in
    AllPairs-cons R (f x) (map f xs) (All-map (R (f x)) f xs (pairs_head S x xs h))
    (pairs_map R f xs (pairs_tail S x xs h))

-- what follows for each pair of elements that have P
pub pairs_weaker : {X : Type 0} (P : X → Type 0) (R S : X → X → Type 0)
    → ((a b : X) → P a → P b → R a b → S a b) → (xs : List X) → All P xs → AllPairs R xs
    → AllPairs S xs
pairs_weaker P R S f xs all h =
    λ (i j : ℕ) (d : _) lt le. f (get_or xs i d) (get_or xs j d) (all i d (omega (arith, lt, le)))
    (all j d le) (h i j d lt le)

-- ---- what stands in a list

in_place : {X : Type 0} (x : X) (xs : List X) (y : X) (k : ℕ) → k < length (x ∷ xs)
    → get_or (x ∷ xs) k y ≡ y → (x ≡ y) ⊎ Contains xs y
in_place x xs y zero l e = inl e
in_place x xs y (suc k) l e = inr (k, omega arith, e)

pub cons_cases : {X : Type 0} (x : X) (xs : List X) (y : X) → Contains (x ∷ xs) y
    → (x ≡ y) ⊎ Contains xs y
cons_cases x xs y c = in_place x xs y c.0 c.1 c.2

pub contains_first : {X : Type 0} (x : X) (xs : List X) → Contains (x ∷ xs) x
contains_first x xs = (0, omega arith, refl)

pub contains_later : {X : Type 0} (x : X) (xs : List X) (y : X) → Contains xs y
    → Contains (x ∷ xs) y
contains_later x xs y c = (suc c.0, omega (arith, c.1), c.2)

pub contains_filter : {X : Type 0} (p : X → Bool) (xs : List X) (y : X) → Contains xs y → p y ≡ true
    → Contains (filter p xs) y
contains_filter p [] y c t = absurd (omega (arith, c.1))
contains_filter p (x ∷ xs) y c t = elim (cons_cases x xs y c) [
  | inl e ↦ let px : p x ≡ true = ap p e ∙ t in
      rw px (subst (λ (z : _). Contains (x ∷ filter p xs) z) e (contains_first x (filter p xs)))
  | inr d ↦ elim (cases_Bool (p x)) [
    | inl px ↦ rw px (contains_later x (filter p xs) y (contains_filter p xs y d t))
    | inr px ↦ rw px (contains_filter p xs y d t)
  ]
]

pub contains_map : {X Y : Type 0} (f : X → Y) (xs : List X) (x : X) → Contains xs x
    → Contains (map f xs) (f x)
contains_map f xs x c =
    (c.0, omega (arith, c.1, length-map xs f), get_or-map f xs c.0 x (f x) c.1 ∙ ap f c.2)

-- what stands in a list that was mapped comes from an element
pub mapped_from : {X Y : Type 0} (f : X → Y) (xs : List X) (y : Y) → Contains (map f xs) y
    → Any (λ x. f x ≡ y) xs
mapped_from f [] y c = absurd (omega (arith, c.1))
mapped_from f (x ∷ xs) y c = elim (cons_cases (f x) (map f xs) y c) [
  | inl e ↦ (0, x, omega arith, refl, e)
  | inr d ↦ let a = mapped_from f xs y d in (suc a.0, a.1, omega (arith, a.2), a.3, a.4)
]
