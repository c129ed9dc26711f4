-- What callers need of the names of a slot.
use Rattle.std.proofs.Common.{◌≡◌, ℕ, inl, inr, ◌-◌, ◌+◌, ◌++◌, ◌≤◌, true}
use Rattle.std.proofs.Common.{◌&&◌, eqb, leb, List, length, take, drop, refl, sym}
use Rattle.std.proofs.Common.{ap, ◌∙◌, arith, length-append}
use Rattle.std.specs.List.{list_all}
use Rattle.std.proofs.lemmas.Bool.{le-leb, and_parts, and_from, cases_Bool}
use Rattle.std.proofs.lemmas.Bool.Decides.{Decides-eqb}
use Rattle.std.proofs.lemmas.Slice.Eq.{ends_is}
use Rattle.std.proofs.lemmas.List.{length-take, take_at, take-append-drop}
use Rattle.std.proofs.lemmas.List.Folds.{list_all-append}
use Rattle.vab_bytes.specs.Name.{is_name_byte, is_name, IsName}
use Rattle.vab_bytes.proofs.NameLaws.{name_fits, name_bytes}
use Rattle.vab_names.specs.Names.{suffix_of, is_of_slot, base_of, in_slot}
use Rattle.vab_names.specs.Names.{store_suffix, store_of}

-- two texts of such bytes make a name, where it is not too long
pub joined_name : (a b : List ℕ)
    → list_all is_name_byte a ≡ true
    → list_all is_name_byte b ≡ true
    → 1 ≤ length a + length b
    → length a + length b ≤ 36
    → IsName (a ++ b)
unfolding is_name
joined_name a b pa pb some short =
    let long = length-append a b in
    let low : leb 1 (length (a ++ b)) ≡ true = le-leb _ _ (omega (arith, long, some)) in
    let high : leb (length (a ++ b)) 36 ≡ true = le-leb _ _ (omega (arith, long, short)) in
    and_from _ _ (and_from _ _ low high) (list_all-append is_name_byte a b ∙ and_from _ _ pa pb)

pub suffix_bytes : (slot : ℕ) → list_all is_name_byte (suffix_of slot) ≡ true
suffix_bytes slot = elim (cases_Bool (eqb slot 0)) [ inl e ↦ rw e refl | inr e ↦ rw e refl ]

pub length-suffix_of : (slot : ℕ) → length (suffix_of slot) ≡ 2
length-suffix_of slot = elim (cases_Bool (eqb slot 0)) [ inl e ↦ rw e refl | inr e ↦ rw e refl ]

-- the front of a name has such bytes
pub front_bytes : (n : ℕ) (name : List ℕ)
    → list_all is_name_byte name ≡ true
    → list_all is_name_byte (take n name) ≡ true
front_bytes n name h =
    let whole : list_all is_name_byte (take n name) && list_all is_name_byte (drop n name) ≡ true =
    sym (list_all-append is_name_byte (take n name) (drop n name))
    ∙ ap (list_all is_name_byte) (take-append-drop n name)
    ∙ h in
    (and_parts (list_all is_name_byte (take n name)) (list_all is_name_byte (drop n name)) whole).0

pub length-base_of : (name : List ℕ) → length (base_of name) ≡ length name - 2
unfolding base_of
length-base_of name = omega (arith, length-take (length name - 2) name)

-- a name of a slot is its base name and the suffix
pub of_slot : (slot : ℕ) (name : List ℕ)
    → is_of_slot slot name ≡ true
    → name ≡ base_of name ++ suffix_of slot
unfolding is_of_slot base_of
of_slot slot name h =
    let two = length-suffix_of slot in
    let is : name ≡ take (length name - length (suffix_of slot)) name ++ suffix_of slot =
    (ends_is Decides-eqb name (suffix_of slot) _ (sym h)).0 refl in
    is ∙ ap (λ (k : ℕ). take (length name - k) name ++ suffix_of slot) two

pub of_slot_long : (slot : ℕ) (name : List ℕ) → is_of_slot slot name ≡ true → 2 ≤ length name
of_slot_long slot name h =
    omega (
      arith,
      ap length (of_slot slot name h),
      length-append (base_of name) (suffix_of slot),
      length-suffix_of slot,
    )

-- and what ends so is one
pub is_slot : (slot : ℕ) (front : List ℕ) → is_of_slot slot (front ++ suffix_of slot) ≡ true
unfolding is_of_slot
is_slot slot front =
    (ends_is Decides-eqb (front ++ suffix_of slot) (suffix_of slot) _ refl).1 front refl

pub base_of-append : (slot : ℕ) (front : List ℕ) → base_of (front ++ suffix_of slot) ≡ front
unfolding base_of
base_of-append slot front =
    take_at front (suffix_of slot) (length (front ++ suffix_of slot) - 2)
    (omega (arith, length-append front (suffix_of slot), length-suffix_of slot))

-- ---- names

pub base_name : (name : List ℕ) → IsName name → list_all is_name_byte (base_of name) ≡ true
unfolding base_of
base_name name h = front_bytes (length name - 2) name (name_bytes name h)

pub full_is_name : (slot : ℕ) (front : List ℕ)
    → list_all is_name_byte front ≡ true
    → length front ≤ 34
    → IsName (front ++ suffix_of slot)
full_is_name slot front h short =
    joined_name front (suffix_of slot) h (suffix_bytes slot) (omega (arith, length-suffix_of slot))
    (omega (arith, length-suffix_of slot, short))

pub in_slot_is_name : (slot : ℕ) (name : List ℕ)
    → IsName name
    → 2 ≤ length name
    → IsName (in_slot slot name)
unfolding in_slot
in_slot_is_name slot name h two =
    full_is_name slot (base_of name) (base_name name h)
    (omega (arith, length-base_of name, name_fits name h, two))

pub store_is_name : (name : List ℕ) → IsName name → length name ≤ 32 → IsName (store_of name)
unfolding store_of
store_is_name name h short =
    joined_name name store_suffix (name_bytes name h) refl (omega (arith, name_fits name h))
    (omega (arith, short))
