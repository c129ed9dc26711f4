-- Names of the two slots beside each other, beside the names of exception stores and beside those
-- of no slot.
use Rattle.std.proofs.Common.{◌≡◌, ℕ, zero, suc, [], ◌∷◌, ◌++◌, ◌-◌, ◌<◌, ◌≤◌, true, false, cond}
use Rattle.std.proofs.Common.{eqb, List, length, take, refl, sym, ap, ◌∙◌, inl, inr, arith}
use Rattle.std.proofs.Common.{append_assoc}
use Rattle.std.specs.Prelude.{codes}
use Rattle.std.proofs.lemmas.Bool.{cases_Bool, false_from_ne_true}
use Rattle.std.proofs.lemmas.Bool.Decides.{Decides-eqb}
use Rattle.std.proofs.lemmas.Slice.Eq.{ends_is}
use Rattle.std.proofs.lemmas.List.{same_from_push}
use Rattle.vab_names.specs.Names.{suffix_of, is_of_slot, base_of, in_slot, store_suffix, is_store}
use Rattle.vab_names.specs.Names.{store_of, default_name, store_group_name}
use Rattle.vab_names.proofs.NameLaws.{of_slot, is_slot, base_of-append}
use Rattle.vab_layout.specs.Slots.{other_slot}

-- ---- the slots

pub other_slot_again : (slot : ℕ) → slot < 2 → other_slot (other_slot slot) ≡ slot
other_slot_again slot lt = omega arith

pub other_slot_below : (slot : ℕ) → other_slot slot < 2
other_slot_below slot = omega arith

-- the last byte of a slot's suffix
abbrev pub letter_of : ℕ → ℕ
letter_of slot = cond (eqb slot 0) 97 98

pub letter_low : (slot : ℕ) → letter_of slot ≤ 98
letter_low slot =
    elim (cases_Bool (eqb slot 0)) [ inl e ↦ rw e (omega arith) | inr e ↦ rw e (omega arith) ]

pub letters_apart : (slot : ℕ) → slot < 2 → letter_of slot ≡ letter_of (other_slot slot) → ⊥
letters_apart zero lt e = omega (arith, e)
letters_apart (suc zero) lt e = omega (arith, e)
letters_apart (suc (suc n)) lt e = omega arith

pub suffix_letter : (slot : ℕ) → suffix_of slot ≡ 95 ∷ letter_of slot ∷ []
suffix_letter slot = elim (cases_Bool (eqb slot 0)) [ inl e ↦ rw e refl | inr e ↦ rw e refl ]

-- ---- the last byte of a name

-- a name of a slot ends in the slot's letter
pub of_slot_last : (slot : ℕ) (name front : List ℕ) (last : ℕ) → is_of_slot slot name ≡ true
    → name ≡ front ++ last ∷ [] → last ≡ letter_of slot
of_slot_last slot name front last h e =
    let is : name ≡ base_of name ++ 95 ∷ letter_of slot ∷ [] = of_slot slot name h
    ∙ ap (λ (s : List ℕ). base_of name ++ s) (suffix_letter slot) in
    let cut : base_of name ++ 95 ∷ letter_of slot ∷ [] ≡ (base_of name ++ 95 ∷ [])
    ++ letter_of slot ∷ [] =
    sym (append_assoc (base_of name) (95 ∷ []) (letter_of slot ∷ [])) in
    (same_from_push front (base_of name ++ 95 ∷ []) last (letter_of slot) (sym e ∙ is ∙ cut)).1

-- no other byte ends one
pub of_no_slot : (slot : ℕ) (front : List ℕ) (last : ℕ) → 98 < last
    → is_of_slot slot (front ++ last ∷ []) ≡ false
of_no_slot slot front last high =
    false_from_ne_true _ (λ h. let e = of_slot_last slot (front ++ last ∷ []) front last h refl in
    absurd (omega (arith, e, letter_low slot, high)))

-- a name of one slot is none of the other
pub of_other_slot : (slot : ℕ) (name : List ℕ) → slot < 2 → is_of_slot slot name ≡ true
    → is_of_slot (other_slot slot) name ≡ false
of_other_slot slot name lt h =
    let is : name ≡ (base_of name ++ 95 ∷ []) ++ letter_of slot ∷ [] =
    of_slot slot name h ∙ ap (λ (s : List ℕ). base_of name ++ s) (suffix_letter slot)
    ∙ sym (append_assoc (base_of name) (95 ∷ []) (letter_of slot ∷ [])) in
    false_from_ne_true _
    (λ o. letters_apart slot lt
    (of_slot_last (other_slot slot) name (base_of name ++ 95 ∷ []) (letter_of slot) o is))

-- ---- names of no slot

pub default_of_no_slot : (slot : ℕ) → is_of_slot slot default_name ≡ false
default_of_no_slot slot = of_no_slot slot (codes "defaul") 116 (omega arith)

pub store_group_of_no_slot : (slot : ℕ) → is_of_slot slot store_group_name ≡ false
store_group_of_no_slot slot = of_no_slot slot (codes "co") 119 (omega arith)

pub store_of_no_slot : (slot : ℕ) (name : List ℕ) → is_of_slot slot (store_of name) ≡ false
unfolding store_of
store_of_no_slot slot name = ap (is_of_slot slot) (sym (append_assoc name (codes "-co") (119 ∷ [])))
    ∙ of_no_slot slot (name ++ codes "-co") 119 (omega arith)

-- a name of a slot is no store's
pub of_slot_no_store : (slot other : ℕ) (name : List ℕ) → is_of_slot slot name ≡ true
    → is_store other name ≡ false
unfolding is_store
of_slot_no_store slot other name h =
    let tail : List ℕ = suffix_of other ++ store_suffix in
    false_from_ne_true _ (λ s.
    let n : ℕ = length name - length tail in
    let front : List ℕ = take n name ++ (suffix_of other ++ codes "-co") in
    let is : name ≡ take n name ++ tail = (ends_is Decides-eqb name tail _ (sym s)).0 refl in
    let cut : take n name ++ tail ≡ front ++ 119 ∷ [] =
    ap (λ (t : List ℕ). take n name ++ t)
    (sym (append_assoc (suffix_of other) (codes "-co") (119 ∷ [])))
    ∙ sym (append_assoc (take n name) (suffix_of other ++ codes "-co") (119 ∷ [])) in
    let e = of_slot_last slot name front 119 h (is ∙ cut) in
    absurd (omega (arith, e, letter_low slot)))

-- ---- a name in another slot

pub in_slot_of_slot : (slot : ℕ) (name : List ℕ) → is_of_slot slot (in_slot slot name) ≡ true
unfolding in_slot
in_slot_of_slot slot name = is_slot slot (base_of name)

pub base_of-in_slot : (slot : ℕ) (name : List ℕ) → base_of (in_slot slot name) ≡ base_of name
unfolding in_slot
base_of-in_slot slot name = base_of-append slot (base_of name)

-- in its own slot again it is the name
pub in_slot_again : (slot other : ℕ) (name : List ℕ) → is_of_slot slot name ≡ true
    → in_slot slot (in_slot other name) ≡ name
unfolding in_slot
in_slot_again slot other name h =
    ap (λ (b : List ℕ). b ++ suffix_of slot) (base_of-append other (base_of name))
    ∙ sym (of_slot slot name h)

-- names of one slot that are one in another are one
pub in_slot_one : (slot other : ℕ) (a b : List ℕ) → is_of_slot slot a ≡ true
    → is_of_slot slot b ≡ true → in_slot other a ≡ in_slot other b → a ≡ b
in_slot_one slot other a b ha hb e = sym (in_slot_again slot other a ha) ∙ ap (in_slot slot) e
    ∙ in_slot_again slot other b hb

-- names of the two slots differ
pub slots_apart : (slot : ℕ) (a b : List ℕ) → slot < 2 → is_of_slot slot a ≡ true
    → is_of_slot (other_slot slot) b ≡ true → a ≡ b → ⊥
slots_apart slot a b lt ha hb e =
    cc (sym (of_other_slot slot a lt ha) ∙ ap (is_of_slot (other_slot slot)) e ∙ hb)

pub of_slot_not : (slot : ℕ) (name other : List ℕ) → is_of_slot slot name ≡ true
    → is_of_slot slot other ≡ false → name ≡ other → ⊥
of_slot_not slot name other h none e = cc (sym h ∙ ap (is_of_slot slot) e ∙ none)
