-- A plan without one of its partitions.
use Rattle.std.proofs.Common.{◌≡◌, ◌≢◌, inl, inr, ℕ, zero, suc, ◌<◌, ◌≤◌, false, List, []}
use Rattle.std.proofs.Common.{◌∷◌, ◌++◌, length, get_or, take, drop, refl, ap, arith}
use Rattle.std.specs.Prelude.{map, slice_set}
use Rattle.std.specs.Str.{bytes_eq}
use Rattle.std.proofs.lemmas.Bool.{cases_Bool}
use Rattle.vab_names.proofs.NameCases.{ne_name}
use Rattle.vab_device.specs.declared.device.Part.{Part}
use Rattle.vab_edit.specs.Carried.{planned_named}

-- without one of another name the plan has the same under a name
pub planned_without : (name : List ℕ) (plan : List Part) (i : ℕ) (d : Part)
    → i < length plan
    → (get_or plan i d).name ≢ name
    → planned_named name (take i plan ++ drop (suc i) plan) ≡ planned_named name plan
planned_without name [] i d lt differ = absurd (omega (arith, lt))
planned_without name (p ∷ ps) zero d lt differ =
    let other : bytes_eq p.name name ≡ false = ne_name p.name name differ in
    rw other refl
planned_without name (p ∷ ps) (suc i) d lt differ =
    let rest = planned_without name ps i d (omega (arith, lt)) differ in
    elim (cases_Bool (bytes_eq p.name name)) [
      | inl here ↦ rw here refl
      | inr other ↦ rw other rest
    ]

-- ---- a list of which the front is changed

pub at_here : {X : Type 0} (f : X → X) (xs : List X) (i : ℕ) (d : X)
    → i < length xs
    → get_or (map f (take i xs) ++ drop i xs) i d ≡ get_or xs i d
at_here f [] i d lt = absurd (omega (arith, lt))
at_here f (x ∷ xs) zero d lt = refl
at_here f (x ∷ xs) (suc i) d lt = at_here f xs i d (omega (arith, lt))

pub set_next : {X : Type 0} (f : X → X) (xs : List X) (i : ℕ) (d y : X)
    → i < length xs
    → y ≡ f (get_or xs i d)
    → slice_set (map f (take i xs) ++ drop i xs) i y ≡ map f (take (suc i) xs) ++ drop (suc i) xs
set_next f [] i d y lt is = absurd (omega (arith, lt))
set_next f (x ∷ xs) zero d y lt is = ap (λ (z : _). z ∷ xs) is
set_next f (x ∷ xs) (suc i) d y lt is =
    let rest = set_next f xs i d y (omega (arith, lt)) is in
    ap (λ (l : List _). f x ∷ l) rest

pub all_set : {X : Type 0} (f : X → X) (xs : List X) (i : ℕ)
    → length xs ≤ i
    → map f (take i xs) ++ drop i xs ≡ map f xs
all_set f [] zero le = refl
all_set f [] (suc i) le = refl
all_set f (x ∷ xs) zero le = absurd (omega (arith, le))
all_set f (x ∷ xs) (suc i) le =
    let rest = all_set f xs i (omega (arith, le)) in
    ap (λ (l : List _). f x ∷ l) rest

pub at_any : {X : Type 0} (xs : List X) (i : ℕ) (d e : X)
    → i < length xs
    → get_or xs i d ≡ get_or xs i e
at_any [] i d e lt = absurd (omega (arith, lt))
at_any (x ∷ xs) zero d e lt = refl
at_any (x ∷ xs) (suc i) d e lt = at_any xs i d e (omega (arith, lt))
