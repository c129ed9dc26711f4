-- Partitions by their names, of which none stands twice.
use Rattle.std.proofs.Common.{◌≡◌, ◌≢◌, ◌⊎◌, ◌∙◌, inl, inr, ℕ, zero, suc, ◌<◌, true, List}
use Rattle.std.proofs.Common.{[], ◌∷◌, length, get_or, sym, ap, subst, arith}
use Rattle.std.specs.Prelude.{Option, Some, map, Contains}
use Rattle.std.specs.Str.{bytes_eq}
use Rattle.std.proofs.lemmas.Bool.{cases_Bool}
use Rattle.std.proofs.lemmas.List.Elements.{All-contains}
use Rattle.std.proofs.Common.{refl, set, false}
use Rattle.std.specs.Prelude.{All, AllPairs}
use Rattle.std.proofs.lemmas.Bool.{cases_eq}
use Rattle.std.proofs.lemmas.List.{length-set, get_or-set_other}
use Rattle.std.proofs.lemmas.Grind.{get_or-set_at}
use Rattle.vab_blocks.proofs.Contained.{none_in_nil, cons_cases}
use Rattle.vab_builder.proofs.Counting.{pairs_head, pairs_tail}
use Rattle.vab_names.proofs.NameCases.{eq_name, ne_name}
use Rattle.vab_device.specs.declared.device.Part.{Part}
use Rattle.vab_layout.specs.declared.layout.Part.{Part as PartOfLayout}
use Rattle.vab_blocks.proofs.Contained.{first, later}
use Rattle.vab_names.proofs.NameCases.{same_name}
use Rattle.vab_device.specs.Stores.{first_named}

pub named_in : (name : List ℕ) (parts : List PartOfLayout) (p : PartOfLayout)
    → first_named name parts ≡ Some p
    → Contains parts p × (p.name ≡ name)
named_in name [] p h = absurd cc
named_in name (q ∷ qs) p h = elim (cases_Bool (bytes_eq q.name name)) [
  | inl here ↦
      let found : (let o : Option PartOfLayout = Some q in o ≡ Some p) = rw here at h in
      let same : q ≡ p = cc in (
        subst (λ (x : PartOfLayout). Contains (q ∷ qs) x) same (first q qs),
        ap (λ (x : PartOfLayout). x.name) (sym same) ∙ same_name q.name name here,
      )
  | inr other ↦
      let rest = named_in name qs p (rw other at h) in
      (later q qs p rest.0, rest.1)
]

abbrev pub Named : PartOfLayout → PartOfLayout → Type 0
Named a b = a.name ≢ b.name

pub first_is : (ps : List PartOfLayout) (p : PartOfLayout)
    → AllPairs Named ps
    → Contains ps p
    → first_named p.name ps ≡ Some p
first_is [] p differ c = absurd (none_in_nil p c)
first_is (x ∷ xs) p differ c = elim (cons_cases x xs p c) [
  | inl here ↦
      let is : bytes_eq x.name p.name ≡ true =
      eq_name x.name p.name (ap (λ (y : PartOfLayout). y.name) here) in
      rw is (ap (λ (y : PartOfLayout). Some y) here)
  | inr there ↦
      let other : bytes_eq x.name p.name ≡ false =
      ne_name x.name p.name
      (All-contains (λ y. x.name ≢ y.name) xs p (pairs_head Named x xs differ) there) in
      rw other (first_is xs p (pairs_tail Named x xs differ) there)
]

pub one_of_name : (ps : List PartOfLayout) (p q : PartOfLayout)
    → AllPairs Named ps
    → Contains ps p
    → Contains ps q
    → (p ≡ q) ⊎ (p.name ≢ q.name)
one_of_name [] p q differ c d = absurd (none_in_nil p c)
one_of_name (x ∷ xs) p q differ c d = elim (cons_cases x xs p c) [
  | inl xp ↦ elim (cons_cases x xs q d) [
    | inl xq ↦ inl (sym xp ∙ xq)
    | inr in_q ↦
        inr (λ e.
        All-contains (λ y. x.name ≢ y.name) xs q (pairs_head Named x xs differ) in_q
        (ap (λ (y : PartOfLayout). y.name) xp ∙ e))
  ]
  | inr in_p ↦ elim (cons_cases x xs q d) [
    | inl xq ↦
        inr (λ e.
        All-contains (λ y. x.name ≢ y.name) xs p (pairs_head Named x xs differ) in_p
        (ap (λ (y : PartOfLayout). y.name) xq ∙ sym e))
    | inr in_q ↦ one_of_name xs p q (pairs_tail Named x xs differ) in_p in_q
  ]
]

-- the list with another element at a place is that of another function, where this one differs
-- from the first at this element alone
pub set_one : (f g : PartOfLayout → Part) (ps : List PartOfLayout) (k : ℕ) (q d : PartOfLayout)
    → k < length ps
    → get_or ps k d ≡ q
    → AllPairs Named ps
    → ((p : PartOfLayout) → Contains ps p → p.name ≢ q.name → g p ≡ f p)
    → set (map f ps) k (g q) ≡ map g ps
set_one f g [] k q d below is differ others = absurd (omega (arith, below))
set_one f g (p ∷ ps) zero q d below is differ others =
    let rest : map f ps ≡ map g ps =
    same_map f g ps (λ x c.
    sym (others x (later p ps x c)
    (λ e.
    All-contains (λ y. p.name ≢ y.name) ps x (pairs_head Named p ps differ) c
    (ap (λ (y : PartOfLayout). y.name) is ∙ sym e)))) in
    let here : g q ≡ g p = ap g (sym is) in
    (λ i. here i ∷ rest i)
  where
    same_map : (f g : PartOfLayout → Part) (xs : List PartOfLayout)
        → ((x : PartOfLayout) → Contains xs x → f x ≡ g x)
        → map f xs ≡ map g xs
    same_map f g [] same = refl
    same_map f g (x ∷ xs) same =
        (λ i. same x (first x xs) i ∷ same_map f g xs (λ y c. same y (later x xs y c)) i)
set_one f g (p ∷ ps) (suc k) q d below is differ others =
    let within : k < length ps = omega (arith, below) in
    let there : Contains ps q = (k, within, at_place ps k q d within is) in
    let here : g p ≡ f p =
    others p (first p ps)
    (All-contains (λ y. p.name ≢ y.name) ps q (pairs_head Named p ps differ) there) in
    let rest = set_one f g ps k q d within is (pairs_tail Named p ps differ)
    (λ x c. others x (later p ps x c)) in
    let back = sym here in
    (λ i. back i ∷ rest i)
  where
    at_place : (xs : List PartOfLayout) (k : ℕ) (q d : PartOfLayout)
        → k < length xs
        → get_or xs k d ≡ q
        → get_or xs k q ≡ q
    at_place [] k q d below is = refl
    at_place (x ∷ xs) zero q d below is = is
    at_place (x ∷ xs) (suc k) q d below is = at_place xs k q d (omega (arith, below)) is

pub all_set : (P : Part → Type 0) (ps : List Part) (k : ℕ) (x : Part)
    → All P ps
    → P x
    → All P (set ps k x)
all_set P ps k x all px j e below =
    let long : length (set ps k x) ≡ length ps = length-set ps k x in
    elim (cases_eq j k) [
      | inl here ↦
          subst P (sym (get_or-set_at ps k j x e here (omega (arith, below, long, here)))) px
      | inr other ↦
          subst P (sym (get_or-set_other ps k j x e other)) (all j e (omega (arith, below, long)))
    ]
