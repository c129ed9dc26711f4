-- Names of partitions, of groups and of stores: which are of a slot, and which are one.
use Rattle.std.proofs.Common.{◌≡◌, ℕ, ◌-◌, ◌≤◌, true, false, cond, eqb, List, [], ◌∷◌, ◌++◌, length}
use Rattle.std.proofs.Common.{take, refl, sym, ap, subst, ◌∙◌, inl, inr, arith, append_assoc}
use Rattle.std.specs.Str.{bytes_eq}
use Rattle.std.proofs.lemmas.Bool.{cases_Bool, and_parts, false_from_ne_true, both_ways, leb-true}
use Rattle.std.proofs.lemmas.Bool.Decides.{Decides-eqb}
use Rattle.std.proofs.lemmas.Slice.Eq.{bytes_eq-Decides, ends_is}
use Rattle.std.proofs.lemmas.List.{append_cancel_right, same_from_push}
use Rattle.vab_bytes.specs.Name.{is_name, IsName}
use Rattle.vab_bytes.proofs.NameLaws.{name_bytes}
use Rattle.vab_names.specs.Names.{is_base, is_short, suffix_of, is_of_slot, base_of, in_slot}
use Rattle.vab_names.specs.Names.{is_full, is_store, store_of, store_suffix, default_name}
use Rattle.vab_names.specs.Names.{store_group_name}
use Rattle.vab_names.proofs.NameLaws.{of_slot, of_slot_long, is_slot, full_is_name, length-base_of}

-- ---- texts

pub same_name : (a b : List ℕ) → bytes_eq a b ≡ true → a ≡ b
same_name a b h = (bytes_eq-Decides a b).0 h

pub eq_name : (a b : List ℕ) → a ≡ b → bytes_eq a b ≡ true
eq_name a b e = (bytes_eq-Decides a b).1 e

pub ne_name : (a b : List ℕ) → (a ≡ b → ⊥) → bytes_eq a b ≡ false
ne_name a b h = false_from_ne_true (bytes_eq a b) (λ t. h (same_name a b t))

pub other_name : (a b : List ℕ) → bytes_eq a b ≡ false → a ≡ b → ⊥
other_name a b f e = both_ways (bytes_eq a b) f (eq_name a b e)

-- ---- full names

pub full_slot : (slot : ℕ) (name : List ℕ) → is_full slot name ≡ true → is_of_slot slot name ≡ true
unfolding is_full
full_slot slot name h = (and_parts (is_of_slot slot name) (is_base (base_of name)) h).0

pub full_base : (slot : ℕ) (name : List ℕ) → is_full slot name ≡ true
    → is_base (base_of name) ≡ true
unfolding is_full
full_base slot name h = (and_parts (is_of_slot slot name) (is_base (base_of name)) h).1

base_name : (base : List ℕ) → is_base base ≡ true → IsName base
unfolding is_base
base_name base h = (and_parts (is_name base) (is_short base) h).0

pub base_short : (base : List ℕ) → is_base base ≡ true → length base ≤ 30
unfolding is_base
base_short base h =
    let short = (and_parts (is_name base) (is_short base) h).1 in
    leb-true (length base) 30 (and_parts _ _ short).0

pub full_name : (slot : ℕ) (name : List ℕ) → is_of_slot slot name ≡ true
    → is_base (base_of name) ≡ true → IsName name
full_name slot name of base =
    let is =
    full_is_name slot (base_of name) (name_bytes (base_of name) (base_name (base_of name) base))
    (omega (arith, base_short (base_of name) base)) in
    subst IsName (sym (of_slot slot name of)) is

pub full_short : (slot : ℕ) (name : List ℕ) → is_of_slot slot name ≡ true
    → is_base (base_of name) ≡ true → length name ≤ 32
full_short slot name of base =
    omega (arith, base_short (base_of name) base, length-base_of name, of_slot_long slot name of)

-- ---- no name of a slot is one of a store

last_of_slot : (slot : ℕ) (front : List ℕ)
    → (init : List ℕ) × (front ++ suffix_of slot ≡ init ++ (cond (eqb slot 0) 97 98) ∷ [])
last_of_slot slot front = elim (cases_Bool (eqb slot 0)) [
  | inl e ↦ rw e (front ++ 95 ∷ [], sym (append_assoc front (95 ∷ []) (97 ∷ [])))
  | inr e ↦ rw e (front ++ 95 ∷ [], sym (append_assoc front (95 ∷ []) (98 ∷ [])))
]

pub ends_in_cow : (slot : ℕ) (front : List ℕ) → is_of_slot slot (front ++ store_suffix) ≡ true → ⊥
ends_in_cow slot front h =
    let is = of_slot slot (front ++ store_suffix) h in
    let last = last_of_slot slot (base_of (front ++ store_suffix)) in
    let w : front ++ store_suffix ≡ (front ++ 45 ∷ 99 ∷ 111 ∷ []) ++ 119 ∷ [] =
    sym (append_assoc front (45 ∷ 99 ∷ 111 ∷ []) (119 ∷ [])) in
    let same =
    (same_from_push (front ++ 45 ∷ 99 ∷ 111 ∷ []) last.0 119 (cond (eqb slot 0) 97 98) (sym w
    ∙ is ∙ last.1)).1 in
    elim (cases_Bool (eqb slot 0)) [
      | inl e ↦ absurd (let wrong : 119 ≡ 97 = rw e at same in omega (arith, wrong))
      | inr e ↦ absurd (let wrong : 119 ≡ 98 = rw e at same in omega (arith, wrong))
    ]

pub store_ends : (slot : ℕ) (name : List ℕ) → is_store slot name ≡ true
    → (front : List ℕ) × (name ≡ front ++ store_suffix)
unfolding is_store
store_ends slot name h =
    let p : List ℕ = suffix_of slot ++ store_suffix in
    let is : name ≡ take (length name - length p) name ++ p =
    (ends_is Decides-eqb name p _ (sym h)).0 refl in (
      take (length name - length p) name ++ suffix_of slot,
      is
          ∙ sym (append_assoc (take (length name - length p) name) (suffix_of slot) store_suffix),
    )

pub own_or_store : (s t : ℕ) (name : List ℕ) → is_of_slot s name ≡ true → is_store t name ≡ true → ⊥
own_or_store s t name own store =
    let e = store_ends t name store in
    ends_in_cow s e.0 (subst (λ (n : List ℕ). is_of_slot s n ≡ true) e.1 own)

pub store_not_own : (slot : ℕ) (name : List ℕ) → is_of_slot slot (store_of name) ≡ true → ⊥
unfolding store_of
store_not_own slot name h = ends_in_cow slot name h

pub store_is_store : (slot : ℕ) (name : List ℕ) → is_of_slot slot name ≡ true
    → is_store slot (store_of name) ≡ true
unfolding store_of is_store
store_is_store slot name h =
    let p : List ℕ = suffix_of slot ++ store_suffix in
    let e : name ++ store_suffix ≡ base_of name ++ p =
    ap (λ (n : List ℕ). n ++ store_suffix) (of_slot slot name h)
    ∙ append_assoc (base_of name) (suffix_of slot) store_suffix in
    (ends_is Decides-eqb (name ++ store_suffix) p _ refl).1 (base_of name) e

pub store_of_same : (a b : List ℕ) → store_of a ≡ store_of b → a ≡ b
unfolding store_of
store_of_same a b h = append_cancel_right a b store_suffix h

-- ---- names in another slot

pub in_slot_is : (slot : ℕ) (name : List ℕ) → is_of_slot slot (in_slot slot name) ≡ true
unfolding in_slot
in_slot_is slot name = is_slot slot (base_of name)

pub in_slot_same : (s t : ℕ) (a b : List ℕ) → is_of_slot s a ≡ true → is_of_slot s b ≡ true
    → in_slot t a ≡ in_slot t b → a ≡ b
unfolding in_slot
in_slot_same s t a b oa ob h =
    let base = append_cancel_right (base_of a) (base_of b) (suffix_of t) h in
    of_slot s a oa ∙ ap (λ (n : List ℕ). n ++ suffix_of s) base ∙ sym (of_slot s b ob)

-- ---- the groups of no slot

pub default_not_own : (slot : ℕ) → is_of_slot slot default_name ≡ false
unfolding is_of_slot
default_not_own slot = elim (cases_Bool (eqb slot 0)) [ inl e ↦ rw e refl | inr e ↦ rw e refl ]

pub cow_not_own : (slot : ℕ) → is_of_slot slot store_group_name ≡ false
unfolding is_of_slot
cow_not_own slot = elim (cases_Bool (eqb slot 0)) [ inl e ↦ rw e refl | inr e ↦ rw e refl ]

pub full_named : (slot : ℕ) (name : List ℕ) → is_full slot name ≡ true → IsName name
full_named slot name h = full_name slot name (full_slot slot name h) (full_base slot name h)

pub full_few : (slot : ℕ) (name : List ℕ) → is_full slot name ≡ true → length name ≤ 32
full_few slot name h = full_short slot name (full_slot slot name h) (full_base slot name h)
