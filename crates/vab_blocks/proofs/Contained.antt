-- What a list contains.
use Rattle.std.proofs.Common.{◌≡◌, ℕ, zero, suc, ◌+◌, ◌<◌, Bool, true}
use Rattle.std.proofs.Common.{List, [], ◌∷◌, length, map, get_or, take, drop, refl, sym}
use Rattle.std.proofs.Common.{ap, subst, ◌∙◌, ◌⊎◌, inl, inr, arith}
use Rattle.std.specs.Prelude.{All, Contains}
use Rattle.std.specs.List.{flat_map, filter}
use Rattle.std.proofs.lemmas.Bool.{cases_Bool}
use Rattle.std.proofs.lemmas.List.{get_or-take, length-take, get_or-drop, length-drop}
use Rattle.std.proofs.lemmas.List.Elements.{All-contains, All-filter, All-contains_itself}
use Rattle.std.proofs.lemmas.List.Elements.{filter_passes}
use Rattle.std.proofs.lemmas.List.Elements.{Contains-get_or, Contains-append_left}
use Rattle.std.proofs.lemmas.List.Elements.{Contains-append_right, Contains-append_cases}

cons_at : {X : Type 0} (x : X) (xs : List X) (y : X) (k : ℕ) → k < length (x ∷ xs)
    → get_or (x ∷ xs) k y ≡ y → (x ≡ y) ⊎ Contains xs y
cons_at x xs y zero l e = inl e
cons_at x xs y (suc k) l e = inr (k, omega arith, e)

pub cons_cases : {X : Type 0} (x : X) (xs : List X) (y : X) → Contains (x ∷ xs) y
    → (x ≡ y) ⊎ Contains xs y
cons_cases x xs y c = cons_at x xs y c.0 c.1 c.2

pub later : {X : Type 0} (x : X) (xs : List X) (y : X) → Contains xs y → Contains (x ∷ xs) y
later x xs y c = (suc c.0, omega (arith, c.1), c.2)

pub first : {X : Type 0} (x : X) (xs : List X) → Contains (x ∷ xs) x
first x xs = (0, omega arith, refl)

pub none_in_nil : {X : Type 0} (y : X) → Contains [] y → ⊥
none_in_nil y c = absurd (omega (arith, c.1))

pub all_from : {X : Type 0} (P : X → Type 0) (xs : List X) → ((x : X) → Contains xs x → P x)
    → All P xs
all_from P xs h = λ k d lt. h (get_or xs k d) (Contains-get_or xs k d lt)

pub of_take : {X : Type 0} (n : ℕ) (xs : List X) (y : X) → Contains (take n xs) y → Contains xs y
of_take n xs y c = let long = length-take n xs in
    (c.0, omega (arith, long, c.1), sym (get_or-take n xs c.0 y (omega (arith, long, c.1))) ∙ c.2)

pub of_drop : {X : Type 0} (n : ℕ) (xs : List X) (y : X) → Contains (drop n xs) y → Contains xs y
of_drop n xs y c = let long = length-drop n xs in
    (n + c.0, omega (arith, long, c.1), sym (get_or-drop n xs c.0 y) ∙ c.2)

pub of_filter : {X : Type 0} (p : X → Bool) (xs : List X) (y : X) → Contains (filter p xs) y
    → Contains xs y × (p y ≡ true)
of_filter p xs y c = (
  All-contains (Contains xs) (filter p xs) y
      (All-filter p (Contains xs) xs (All-contains_itself xs)) c,
  All-contains (λ x. p x ≡ true)
      (filter p xs) y (filter_passes p xs) c,
)

pub in_filter : {X : Type 0} (p : X → Bool) (xs : List X) (y : X) → Contains xs y → p y ≡ true
    → Contains (filter p xs) y
in_filter p [] y c t = absurd (none_in_nil y c)
in_filter p (x ∷ xs) y c t = elim (cons_cases x xs y c) [
  | inl e ↦ let px : p x ≡ true = ap p e ∙ t in
      rw px (subst (λ (z : _). Contains (x ∷ filter p xs) z) e (first x (filter p xs)))
  | inr d ↦ elim (cases_Bool (p x)) [
    | inl px ↦ rw px (later x (filter p xs) y (in_filter p xs y d t))
    | inr px ↦ rw px (in_filter p xs y d t)
  ]
]

pub in_map : {X Y : Type 0} (f : X → Y) (xs : List X) (x : X) → Contains xs x
    → Contains (map f xs) (f x)
in_map f [] x c = absurd (none_in_nil x c)
in_map f (z ∷ xs) x c = elim (cons_cases z xs x c) [
  | inl e ↦ subst (λ (w : _). Contains (f z ∷ map f xs) (f w)) e (first (f z) (map f xs))
  | inr d ↦ later (f z) (map f xs) (f x) (in_map f xs x d)
]

pub of_map : {X Y : Type 0} (f : X → Y) (xs : List X) (y : Y) → Contains (map f xs) y
    → (x : X) × Contains xs x × (f x ≡ y)
of_map f [] y c = absurd (none_in_nil y c)
of_map f (z ∷ xs) y c = elim (cons_cases (f z) (map f xs) y c) [
  | inl e ↦ (z, first z xs, e)
  | inr d ↦ let r = of_map f xs y d in (r.0, later z xs r.0 r.1, r.2)
]

pub in_piece : {X A : Type 0} (f : X → List A) (xs : List X) (x : X) (y : A) → Contains xs x
    → Contains (f x) y → Contains (flat_map f xs) y
in_piece f [] x y c d = absurd (none_in_nil x c)
in_piece f (z ∷ xs) x y c d = elim (cons_cases z xs x c) [
  | inl e ↦
      Contains-append_left (f z) (flat_map f xs) y (subst (λ (w : _). Contains (f w) y) (sym e) d)
  | inr t ↦ Contains-append_right (f z) (flat_map f xs) y (in_piece f xs x y t d)
]

pub some_piece : {X A : Type 0} (f : X → List A) (xs : List X) (y : A) → Contains (flat_map f xs) y
    → (x : X) × Contains xs x × Contains (f x) y
some_piece f [] y c = absurd (none_in_nil y c)
some_piece f (x ∷ xs) y c = elim (Contains-append_cases (f x) (flat_map f xs) y c) [
  | inl h ↦ (x, first x xs, h)
  | inr t ↦ let r = some_piece f xs y t in (r.0, later x xs r.0 r.1, r.2)
]
