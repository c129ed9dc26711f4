-- Laws of lists: what they contain, what stands in them once, and how many numbers are free.
use Rattle.std.proofs.Common.{◌≡◌, ◌≢◌, ℕ, zero, suc, ◌+◌, ◌<◌, ◌≤◌, Bool, true, false, cond, not}
use Rattle.std.proofs.Common.{eqb, List, [], ◌∷◌, ◌++◌, length, map, get_or, take, drop, refl, sym}
use Rattle.std.proofs.Common.{ap, subst, ◌∙◌, inl, inr, arith}
use Rattle.std.specs.Prelude.{◌↔◌, All, AllPairs, Contains}
use Rattle.std.specs.List.{flat_map, filter, list_any, range_with_len}
use Rattle.std.specs.List.Sorted.{IsStrictlyIncreasing}
use Rattle.std.proofs.lemmas.Bool.{cases_Bool, cases_eq, not-true, ne_eqb, eqb-false, both_ways}
use Rattle.std.proofs.lemmas.List.{get_or-take, length-take, get_or-drop, length-drop}
use Rattle.std.proofs.lemmas.List.Elements.{All-contains, All-cons}
use Rattle.std.proofs.lemmas.List.Elements.{All-append, All-head, All-tail}
use Rattle.std.proofs.lemmas.List.Elements.{filter_agree, Contains-append_left}
use Rattle.std.proofs.lemmas.List.Elements.{Contains-append_right}
use Rattle.std.proofs.lemmas.List.FromFn.{length-range_with_len, get_or-range_with_len}
use Rattle.std.proofs.lemmas.List.Kept.{AllPairs-cons, AllPairs-filter, AllPairs-from_increasing}
use Rattle.vab_blocks.specs.Blocks.{free_below}
use Rattle.vab_blocks.proofs.BlockLaws.{listed_once, listed_then}
use Rattle.vab_layout.specs.Slots.{IsDistinct}
use Rattle.vab_blocks.proofs.Contained.{cons_cases, later, first, none_in_nil, all_from, of_filter}
use Rattle.vab_blocks.proofs.Contained.{of_map, in_piece, some_piece}

-- ---- what is contained

-- ---- pairs

pub pairs_head : {X : Type 0} (R : X → X → Type 0) (x : X) (xs : List X) → AllPairs R (x ∷ xs)
    → All (R x) xs
pairs_head R x xs h = λ k d lt. h 0 (suc k) d (omega arith) (omega arith)

pub pairs_tail : {X : Type 0} (R : X → X → Type 0) (x : X) (xs : List X) → AllPairs R (x ∷ xs)
    → AllPairs R xs
pairs_tail R x xs h = λ i j d ij lj. h (suc i) (suc j) d (omega arith) (omega arith)

pub pairs_nil : {X : Type 0} (R : X → X → Type 0) → AllPairs R []
pairs_nil R = λ i j d ij lj. absurd (omega arith)

pub pairs_append : {X : Type 0} (R : X → X → Type 0) (xs ys : List X) → AllPairs R xs
    → AllPairs R ys → ((x y : X) → Contains xs x → Contains ys y → R x y) → AllPairs R (xs ++ ys)
pairs_append R [] ys hx hy across = hy
pairs_append R (x ∷ xs) ys hx hy across =
    AllPairs-cons R x (xs ++ ys)
    (All-append (R x) xs ys (pairs_head R x xs hx)
    (all_from (R x) ys (λ y c. across x y (first x xs) c)))
    (pairs_append R xs ys (pairs_tail R x xs hx) hy (λ z y c d. across z y (later x xs z c) d))

pub pairs_left : {X : Type 0} (R : X → X → Type 0) (xs ys : List X) → AllPairs R (xs ++ ys)
    → AllPairs R xs
pairs_left R [] ys h = pairs_nil R
pairs_left R (x ∷ xs) ys h =
    let head = pairs_head R x (xs ++ ys) h in
    AllPairs-cons R x xs
    (all_from (R x) xs
    (λ z c. All-contains (R x) (xs ++ ys) z head (Contains-append_left xs ys z c)))
    (pairs_left R xs ys (pairs_tail R x (xs ++ ys) h))

pub pairs_right : {X : Type 0} (R : X → X → Type 0) (xs ys : List X) → AllPairs R (xs ++ ys)
    → AllPairs R ys
pairs_right R [] ys h = h
pairs_right R (x ∷ xs) ys h = pairs_right R xs ys (pairs_tail R x (xs ++ ys) h)

pub pairs_across : {X : Type 0} (R : X → X → Type 0) (xs ys : List X) (x y : X)
    → AllPairs R (xs ++ ys) → Contains xs x → Contains ys y → R x y
pairs_across R [] ys x y h c d = absurd (none_in_nil x c)
pairs_across R (z ∷ xs) ys x y h c d = elim (cons_cases z xs x c) [
  | inl e ↦
      subst (λ (w : _). R w y) e
      (All-contains (R z) (xs ++ ys) y (pairs_head R z (xs ++ ys) h)
      (Contains-append_right xs ys y d))
  | inr t ↦ pairs_across R xs ys x y (pairs_tail R z (xs ++ ys) h) t d
]

pub pairs_map : {X Y : Type 0} (R : Y → Y → Type 0) (f : X → Y) (xs : List X)
    → AllPairs (λ x y. R (f x) (f y)) xs → AllPairs R (map f xs)
pairs_map R f [] h = pairs_nil R
pairs_map {X} R f (x ∷ xs) h =
    let Q : X → X → Type 0 = λ x y. R (f x) (f y) in
    let head = pairs_head Q x xs h in
    AllPairs-cons R (f x) (map f xs)
    (all_from (R (f x)) (map f xs) (λ y c. let r = of_map f xs y c in
    subst (R (f x)) r.2 (All-contains (Q x) xs r.0 head r.1)))
    (pairs_map R f xs (pairs_tail Q x xs h))

pub pairs_weaker : {X : Type 0} (R Q : X → X → Type 0) (xs : List X)
    → ((x y : X) → Contains xs x → Contains xs y → R x y → Q x y) → AllPairs R xs → AllPairs Q xs
pairs_weaker R Q [] weaker h = pairs_nil Q
pairs_weaker R Q (x ∷ xs) weaker h =
    let head = pairs_head R x xs h in
    AllPairs-cons Q x xs
    (all_from (Q x) xs
    (λ y c. weaker x y (first x xs) (later x xs y c) (All-contains (R x) xs y head c)))
    (pairs_weaker R Q xs (λ y z c d r. weaker y z (later x xs y c) (later x xs z d) r)
    (pairs_tail R x xs h))

-- ---- blocks that stand once

-- no number stands in both
abbrev pub Apart : List ℕ → List ℕ → Type 0
Apart xs ys = (b : ℕ) → Contains xs b → Contains ys b → ⊥

pub once_append : (xs ys : List ℕ) → IsDistinct xs → IsDistinct ys → Apart xs ys
    → IsDistinct (xs ++ ys)
once_append xs ys hx hy apart =
    pairs_append (λ a b. a ≢ b) xs ys hx hy (λ x y c d e. apart y (subst (Contains xs) e c) d)

pub apart_parts : (xs ys : List ℕ) → IsDistinct (xs ++ ys) → Apart xs ys
apart_parts xs ys h = λ b c d. pairs_across (λ a b. a ≢ b) xs ys b b h c d refl

pub once_pieces : {X : Type 0} (f : X → List ℕ) (xs : List X) → All (λ x. IsDistinct (f x)) xs
    → AllPairs (λ x y. Apart (f x) (f y)) xs → IsDistinct (flat_map f xs)
once_pieces f [] each apart = pairs_nil (λ a b. a ≢ b)
once_pieces {X} f (x ∷ xs) each apart =
    let R : X → X → Type 0 = λ x y. Apart (f x) (f y) in
    let head = pairs_head R x xs apart in
    once_append (f x) (flat_map f xs) (All-head (λ x. IsDistinct (f x)) x xs each)
    (once_pieces f xs (All-tail (λ x. IsDistinct (f x)) x xs each) (pairs_tail R x xs apart))
    (λ b c d. let r = some_piece f xs b d in All-contains (R x) xs r.0 head r.1 b c r.2)

pub pieces_once : {X : Type 0} (f : X → List ℕ) (xs : List X) → IsDistinct (flat_map f xs)
    → All (λ x. IsDistinct (f x)) xs
pieces_once f [] h = λ k d lt. absurd (omega arith)
pieces_once f (x ∷ xs) h =
    All-cons (λ x. IsDistinct (f x)) x xs (pairs_left (λ a b. a ≢ b) (f x) (flat_map f xs) h)
    (pieces_once f xs (pairs_right (λ a b. a ≢ b) (f x) (flat_map f xs) h))

pub pieces_apart : {X : Type 0} (f : X → List ℕ) (xs : List X) → IsDistinct (flat_map f xs)
    → AllPairs (λ x y. Apart (f x) (f y)) xs
pieces_apart f [] h = pairs_nil (λ x y. Apart (f x) (f y))
pieces_apart f (x ∷ xs) h =
    AllPairs-cons (λ x y. Apart (f x) (f y)) x xs
    (all_from (λ y. Apart (f x) (f y)) xs
    (λ y c b d e. apart_parts (f x) (flat_map f xs) h b d (in_piece f xs y b c e)))
    (pieces_apart f xs (pairs_right (λ a b. a ≢ b) (f x) (flat_map f xs) h))

pub once_take : (n : ℕ) (xs : List ℕ) → IsDistinct xs → IsDistinct (take n xs)
once_take n xs h = λ i j d ij lj.
    let long = length-take n xs in
    let at-i = get_or-take n xs i d (omega (arith, long, lj, ij)) in
    let at-j = get_or-take n xs j d (omega (arith, long, lj)) in
    λ e. h i j d ij (omega (arith, long, lj)) (sym at-i ∙ e ∙ at-j)

pub once_drop : (n : ℕ) (xs : List ℕ) → IsDistinct xs → IsDistinct (drop n xs)
once_drop n xs h = λ i j d ij lj.
    let long = length-drop n xs in
    λ e. h (n + i) (n + j) d (omega (arith, ij)) (omega (arith, long, lj))
    (sym (get_or-drop n xs i d) ∙ e ∙ get_or-drop n xs j d)

pub once_ascending : (xs : List ℕ) → IsStrictlyIncreasing xs → IsDistinct xs
once_ascending xs up = λ i j d ij lj.
    let below : get_or xs i d < get_or xs j d = AllPairs-from_increasing xs up i j d ij lj in
    λ e. absurd (omega (arith, below, e))

-- ---- counting

filter_same : (p q : ℕ → Bool) (xs : List ℕ) → All (λ b. q b ≡ p b) xs → filter p xs ≡ filter q xs
filter_same p q [] h = refl
filter_same p q (x ∷ xs) h =
    let head : q x ≡ p x = All-head (λ b. q b ≡ p b) x xs h in
    let rest = filter_same p q xs (All-tail (λ b. q b ≡ p b) x xs h) in
    rw (head, rest) refl

filter_whole : (p : ℕ → Bool) (xs : List ℕ) → ((b : ℕ) → p b ≡ true) → filter p xs ≡ xs
filter_whole p [] h = refl
filter_whole p (x ∷ xs) h = let head = h x in
    rw head (ap (λ (l : List ℕ). x ∷ l) (filter_whole p xs h))

length_more : (b : Bool) (x : ℕ) (xs : List ℕ) → length (cond b (x ∷ xs) xs) ≤ length xs + 1
length_more true x xs = omega arith
length_more false x xs = omega arith

length_same : (b : Bool) (x : ℕ) (xs ys : List ℕ) → length xs ≤ length ys + 1
    → length (cond b (x ∷ xs) xs) ≤ length (cond b (x ∷ ys) ys) + 1
length_same true x xs ys h = omega arith
length_same false x xs ys h = omega arith

no_fewer : (b : Bool) (x : ℕ) (ys : List ℕ) → length ys ≤ length (cond b (x ∷ ys) ys)
no_fewer true x ys = omega arith
no_fewer false x ys = omega arith

-- two tests that agree but at one number keep as many, but for one
pub one_fewer : (p q : ℕ → Bool) (t : ℕ) (xs : List ℕ) → IsDistinct xs
    → ((b : ℕ) → (t ≡ b → ⊥) → q b ≡ p b) → length (filter p xs) ≤ length (filter q xs) + 1
one_fewer p q t [] once agree = omega arith
one_fewer p q t (x ∷ xs) once agree =
    let head = pairs_head (λ a b. a ≢ b) x xs once in
    let tail = pairs_tail (λ a b. a ≢ b) x xs once in
    elim (cases_eq t x) [
      | inl e ↦
          let others : All (λ b. q b ≡ p b) xs =
          all_from (λ b. q b ≡ p b) xs
          (λ b c. agree b (λ tb. All-contains (λ b. x ≢ b) xs b head c (sym e ∙ tb))) in
          let same = filter_same p q xs others in
          let long = length_more (p x) x (filter p xs) in
          let few = no_fewer (q x) x (filter q xs) in
          omega (arith, long, few, ap length same)
      | inr ne ↦
          let here : q x ≡ p x = agree x ne in
          rw here (length_same (p x) x (filter p xs) (filter q xs) (one_fewer p q t xs tail agree))
    ]

range_ascends : (n : ℕ) → IsStrictlyIncreasing (range_with_len 0 n)
range_ascends n = λ k lt.
    let len = length-range_with_len 0 n in
    omega (
      arith,
      get_or-range_with_len 0 n k 0 (omega (arith, len, lt)),
      get_or-range_with_len 0 n
          (k + 1) 0 (omega (arith, len, lt)),
    )

-- of the numbers below a bound no more are taken than are listed
pub enough_free : (cap : ℕ) (taken : List ℕ) → cap ≤ length (free_below cap taken) + length taken
unfolding free_below
enough_free cap [] =
    omega (
      arith,
      ap length
          (filter_whole (λ block. not (list_any (λ b. eqb b block) [])) (range_with_len 0 cap)
          (λ b. refl)),
      length-range_with_len 0 cap,
    )
enough_free cap (t ∷ taken) =
    let p : ℕ → Bool = λ block. not (list_any (λ b. eqb b block) taken) in
    let q : ℕ → Bool = λ block. not (list_any (λ b. eqb b block) (t ∷ taken)) in
    let agree : (b : ℕ) → (t ≡ b → ⊥)
    → q b ≡ p b = λ b ne. let no : eqb t b ≡ false = ne_eqb t b ne in rw no refl in
    let one =
    one_fewer p q t (range_with_len 0 cap)
    (once_ascending (range_with_len 0 cap) (range_ascends cap)) agree in
    omega (arith, enough_free cap taken, one)

pub free_same : (cap : ℕ) (xs ys : List ℕ) → ((b : ℕ) → Contains xs b ↔ Contains ys b)
    → free_below cap xs ≡ free_below cap ys
unfolding free_below
free_same cap xs ys same =
    let agree : (block : ℕ)
    → not (list_any (λ b. eqb b block) xs) ≡ not (list_any (λ b. eqb b block) ys) =
    λ block. ap not (elim (cases_Bool (list_any (λ b. eqb b block) xs)) [
      | inl t ↦ t ∙ sym (listed_then ys block ((same block).0 (listed_once xs block t)))
      | inr f ↦ elim (cases_Bool (list_any (λ b. eqb b block) ys)) [
        | inl t ↦
            absurd (both_ways _ f (listed_then xs block ((same block).1 (listed_once ys block t))))
        | inr g ↦ f ∙ sym g
      ]
    ]) in
    filter_agree (λ block. not (list_any (λ b. eqb b block) xs))
    (λ block. not (list_any (λ b. eqb b block) ys)) agree (range_with_len 0 cap)

-- as many numbers below a bound, each once, as the bound says at most
pub few_below : (cap : ℕ) (xs : List ℕ) → IsDistinct xs → All (λ b. b < cap) xs → length xs ≤ cap
few_below zero [] once below = omega arith
few_below zero (x ∷ xs) once below = let lt : x < 0 = All-head (λ b. b < 0) x xs below in
    absurd (omega arith)
few_below (suc cap) xs once below =
    let p : ℕ → Bool = λ b. true in
    let q : ℕ → Bool = λ b. not (eqb cap b) in
    let agree : (b : ℕ) → (cap ≡ b → ⊥)
    → q b ≡ p b = λ b ne. let no : eqb cap b ≡ false = ne_eqb cap b ne in rw no refl in
    let one = one_fewer p q cap xs once agree in
    let whole = filter_whole p xs (λ b. refl) in
    let low : All (λ b. b < cap) (filter q xs) = all_from (λ b. b < cap) (filter q xs) (λ b c.
    let r = of_filter q xs b c in
    let lt : b < suc cap = All-contains (λ b. b < suc cap) xs b below r.0 in
    let ne : cap ≡ b → ⊥ = eqb-false cap b (not-true (eqb cap b) r.1) in
    elim (cases_eq cap b) [ inl e ↦ absurd (ne e) | inr other ↦ omega (arith, lt, other) ]) in
    let few = few_below cap (filter q xs) (AllPairs-filter (λ a b. a ≢ b) q xs once) low in
    omega (arith, one, ap length whole, few)
