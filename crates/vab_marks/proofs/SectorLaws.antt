-- Zeros, sums, and the parts of a sector.
use Rattle.std.proofs.Common.{◌≡◌, ℕ, zero, suc, ◌+◌, ◌-◌, ◌^◌, ◌<◌, ◌≤◌, Bool, true, false, not}
use Rattle.std.proofs.Common.{cond, eqb, List, [], ◌∷◌, ◌++◌, length, take, drop, get_or, replicate}
use Rattle.std.proofs.Common.{Option, Some, None, Result, Ok, refl, sym, ap, subst, ◌∙◌, arith}
use Rattle.std.proofs.Common.{lit<}
use Rattle.std.specs.Int.{w32, to_le_bytes}
use Rattle.std.specs.Str.{bytes_eq}
use Rattle.std.proofs.lemmas.Bool.{not-false, eqb-true, eq-eqb, not_from_true, cond-true}
use Rattle.std.proofs.lemmas.Bool.{cond-false, and_parts, not_from_false, false_from_ne_true}
use Rattle.std.proofs.lemmas.Slice.Eq.{bytes_eq-Decides}
use Rattle.std.proofs.lemmas.List.{drop-replicate, take-replicate, length-replicate, take_all}
use Rattle.std.proofs.lemmas.List.{drop_at, take-append-drop, length-drop, length-append, drop-drop}
use Rattle.std.proofs.lemmas.List.{get_or_append_left, drop-append-le, take-append-le, drop_more}
use Rattle.std.proofs.lemmas.List.{drop-take, take-take, get_or-take}
use Rattle.vab_bytes.specs.Number.{IsBytes, field, le_at}
use Rattle.vab_bytes.proofs.NumberLaws.{IsBytes-field, le_at_spelled_32, le_at_is_32}
use Rattle.vab_bytes.specs.Crc.{crc_of}
use Rattle.vab_bytes.proofs.CrcLaws.{crc_fits}
use Rattle.vab_marks.specs.declared.sector.MarkFault.{MarkFault}
use Rattle.vab_marks.specs.declared.sector.MarkFault.TheVariants.{BadMagic, BadVersion, BadSum}
use Rattle.vab_marks.specs.Sector.{zeros, are_zeros, sealed, head_fault, unless}

-- ---- zeros

pub zeros_are : (n : ℕ) → zeros n ≡ replicate n 0
unfolding zeros
zeros_are n = refl

pub length-zeros : (n : ℕ) → length (zeros n) ≡ n
unfolding zeros
length-zeros n = length-replicate n 0

pub field-zeros : (n at m : ℕ) → at + m ≤ n → field (zeros n) at m ≡ zeros m
unfolding zeros
field-zeros n at m h = ap (λ (t : List ℕ). take m t) (drop-replicate at n 0)
    ∙ take-replicate m (n - at) 0 (omega arith)

pub are_zeros-zeros : (n : ℕ) → are_zeros (zeros n) ≡ true
unfolding zeros
are_zeros-zeros zero = refl
are_zeros-zeros (suc n) = are_zeros-zeros n

all_zeros : (xs : List ℕ) → are_zeros xs ≡ true → xs ≡ replicate (length xs) 0
all_zeros [] h = refl
all_zeros (x ∷ xs) h =
    let a = and_parts (eqb x 0) (are_zeros xs) h in
    let first : x ≡ 0 = eqb-true x 0 a.0 in
    let rest : xs ≡ replicate (length xs) 0 = all_zeros xs a.1 in
    cc

pub zeros_from : (xs : List ℕ) (n : ℕ) → length xs ≡ n → are_zeros xs ≡ true → xs ≡ zeros n
unfolding zeros
zeros_from xs n len h = all_zeros xs h ∙ ap (λ (k : ℕ). replicate k 0) len

-- ---- parts

-- a field is two fields, one after the other
pub field-add : (bytes : List ℕ) (at n m : ℕ)
    → field bytes at (n + m) ≡ field bytes at n ++ field bytes (at + n) m
field-add bytes at n m =
    let xs : List ℕ = take (n + m) (drop at bytes) in
    let front : take n xs ≡ take n (drop at bytes) =
    take-take n (n + m) (drop at bytes) (omega arith) in
    let back : drop n xs ≡ field bytes (at + n) m = drop-take n m (drop at bytes)
    ∙ ap (λ (t : List ℕ). take m t) (drop-drop n at bytes) in
    sym (take-append-drop n xs) ∙ ap (λ (t : List ℕ). t ++ drop n xs) front
    ∙ ap (λ (t : List ℕ). take n (drop at bytes) ++ t) back

pub field-one : (bytes : List ℕ) (at : ℕ)
    → at < length bytes
    → field bytes at 1 ≡ get_or bytes at 0 ∷ []
field-one bytes at h = ap (λ (t : List ℕ). take 1 t) (drop_more bytes at 0 h)

-- ---- the sum

-- the sum that stands there is that of the bytes before it
pub sealed_from : (bytes : List ℕ)
    → length bytes ≡ 512
    → IsBytes bytes
    → le_at w32 bytes 508 ≡ crc_of (take 508 bytes)
    → bytes ≡ sealed (take 508 bytes)
unfolding sealed
sealed_from bytes len are h =
    let back : drop 508 bytes ≡ to_le_bytes w32 (crc_of (take 508 bytes)) =
    sym (take_all 4 (drop 508 bytes) (omega (arith, len, length-drop 508 bytes)))
    ∙ sym (le_at_spelled_32 bytes 508 (omega (arith, len)) are) ∙ ap (to_le_bytes w32) h in
    sym (take-append-drop 508 bytes) ∙ ap (λ (t : List ℕ). take 508 bytes ++ t) back

pub length-sealed : (front : List ℕ) → length front ≡ 508 → length (sealed front) ≡ 512
unfolding sealed
length-sealed front len = omega (arith, len, length-append front (to_le_bytes w32 (crc_of front)))

pub take-sealed : (front : List ℕ) (n : ℕ) → n ≤ length front → take n (sealed front) ≡ take n front
unfolding sealed
take-sealed front n h = take-append-le n front _ h

pub get_or-sealed : (front : List ℕ) (k : ℕ)
    → k < length front
    → get_or (sealed front) k 0 ≡ get_or front k 0
unfolding sealed
get_or-sealed front k h = get_or_append_left front _ 0 k h

pub field-sealed : (front : List ℕ) (at n : ℕ)
    → at + n ≤ length front
    → field (sealed front) at n ≡ field front at n
unfolding sealed
field-sealed front at n h =
    let back : List ℕ = to_le_bytes w32 (crc_of front) in
    ap (λ (t : List ℕ). take n t) (drop-append-le at front back (omega arith))
    ∙ take-append-le n (drop at front) back (omega (arith, length-drop at front))

pub sum-sealed : (front : List ℕ)
    → length front ≡ 508
    → crc_of front < 2 ^ 32
    → le_at w32 (sealed front) 508 ≡ crc_of front
unfolding sealed
sum-sealed front len fits =
    let back : List ℕ = to_le_bytes w32 (crc_of front) in
    le_at_is_32 (front ++ back) 508 (crc_of front) fits
    (ap (λ (t : List ℕ). take 4 t) (drop_at front back 508 len))

-- a sum of bytes fits
pub front_sum : (bytes front : List ℕ)
    → length front ≡ 508
    → IsBytes bytes
    → bytes ≡ sealed front
    → crc_of front < 2 ^ 32
front_sum bytes front len are h =
    let same_front : take 508 bytes ≡ front = ap (λ (t : List ℕ). take 508 t) h
    ∙ take-sealed front 508 (omega (arith, len)) ∙ take_all 508 front (omega (arith, len)) in
    let P : List ℕ → Type 0 = λ t. crc_of t < 2 ^ 32 in
    subst P same_front (crc_fits (take 508 bytes) (IsBytes-field bytes 0 508 are))

-- ---- the head

same : (x y : ℕ) → not (eqb x y) ≡ false → x ≡ y
same x y h = eqb-true x y (not-false (eqb x y) h)

apart : (x y : ℕ) → x ≡ y → not (eqb x y) ≡ false
apart x y e = not_from_true (eqb x y) (eq-eqb x y e)

clear : (b : Bool) (d : MarkFault) (x : Option MarkFault)
    → cond b (Some d) x ≡ None
    → (b ≡ false) × (x ≡ None)
clear true d x h = absurd cc
clear false d x h = (refl, h)

pub unless_ok : {A : Type 0} (o : Option MarkFault) (r : Result A MarkFault) (x : A)
    → unless o r ≡ Ok x
    → (o ≡ None) × (r ≡ Ok x)
unless_ok None r x h = (refl, h)
unless_ok (Some fault) r x h = absurd cc

-- a sector with no fault in its head
pub record HasHead (magic : List ℕ) (known : Bool) (bytes : List ℕ) : Type 0 where
  pub first : take 4 bytes ≡ magic
  pub version : known ≡ true
  pub whole : bytes ≡ sealed (take 508 bytes)

pub head_is : (magic : List ℕ) (known : Bool) (bytes : List ℕ)
    → length bytes ≡ 512
    → IsBytes bytes
    → head_fault magic known bytes ≡ None
    → HasHead magic known bytes
unfolding head_fault
head_is magic known bytes len are h =
    let g1 = clear (not (bytes_eq (take 4 bytes) magic)) BadMagic _ h in
    let g2 = clear (not known) BadVersion _ g1.1 in
    let g3 = clear (not (eqb (le_at w32 bytes 508) (crc_of (take 508 bytes)))) BadSum _ g2.1 in
    record {
      first = (bytes_eq-Decides (take 4 bytes) magic).0 (not-false _ g1.0);
      version = not-false known g2.0;
      whole = sealed_from bytes len are (same _ _ g3.0);
    }

pub head_again : (magic : List ℕ) (known : Bool) (front : List ℕ)
    → length front ≡ 508
    → crc_of front < 2 ^ 32
    → take 4 front ≡ magic
    → known ≡ true
    → head_fault magic known (sealed front) ≡ None
unfolding head_fault
head_again magic known front len fits first version =
    let e1 : not (bytes_eq (take 4 (sealed front)) magic) ≡ false =
    not_from_true _ ((bytes_eq-Decides (take 4 (sealed front)) magic).1
    (take-sealed front 4 (omega (arith, len)) ∙ first)) in
    let e2 : not known ≡ false = not_from_true known version in
    let whole : take 508 (sealed front) ≡ front = take-sealed front 508 (omega (arith, len))
    ∙ take_all 508 front (omega (arith, len)) in
    let e3 = apart (le_at w32 (sealed front) 508) (crc_of (take 508 (sealed front)))
    (sum-sealed front len fits ∙ ap crc_of (sym whole)) in
    cond-false _ (Some BadMagic) _ e1 ∙ cond-false _ (Some BadVersion) _ e2
    ∙ cond-false _ (Some BadSum) _ e3

-- a sector whose first byte is zero is neither a mark nor a status
pub zero_head : (first : ℕ) (magic : List ℕ) (known : Bool) (bytes : List ℕ)
    → get_or bytes 0 0 ≡ 0
    → head_fault (suc first ∷ magic) known bytes ≡ Some BadMagic
unfolding head_fault
zero_head first magic known bytes h =
    let test : Bool = bytes_eq (take 4 bytes) (suc first ∷ magic) in
    let differs : test ≡ true → ⊥ = λ t.
    (let e = (bytes_eq-Decides (take 4 bytes) (suc first ∷ magic)).0 t in
    let first_is : get_or bytes 0 0 ≡ suc first = sym (get_or-take 4 bytes 0 0 (lit< tt))
    ∙ ap (λ (xs : List ℕ). get_or xs 0 0) e in omega (arith, h, first_is)) in
    cond-true (not test) (Some BadMagic) _ (not_from_false test (false_from_ne_true test differs))
