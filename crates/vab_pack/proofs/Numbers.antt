-- What `parse` reads of 1 to 20 decimal digits, and the letter behind them.
use Rattle.std.proofs.Common.{◌≡◌, ◌<◌, ◌≤◌, ◌^◌, ◌*◌, ℕ, true, false, List, length, Option, Some}
use Rattle.std.proofs.Common.{◌≢◌, ◌-◌, suc, [], ◌∷◌, ◌++◌, take, ap, eqb}
use Rattle.std.proofs.Math.Seq.{take-suc}
use Rattle.std.proofs.lemmas.List.{take_all, get_or_past}
use Rattle.std.proofs.Common.{None, Ok, Err, arith, rules, refl, sym, ◌∙◌, inl, inr}
use Rattle.std.specs.Prelude.{nat_lt, nat_le, option_and_then}
use Rattle.std.specs.Char.{is_ascii_digit}
use Rattle.std.specs.List.{list_all}
use Rattle.std.specs.Str.Parse.{ParsesUnsigned, digits_value}
use Rattle.std.proofs.lemmas.Bool.{and_parts, cases_Bool, cases_lt, leb-true, eqb-true}
use Rattle.std.proofs.lemmas.Bool.{false_from_ne_true}
use Rattle.std.proofs.lemmas.Bool.Decides.{nat_tests}
use Rattle.std.proofs.lemmas.Str.Parse.{IsDigitsTest, IsNumeralModel, numerals_by_value}
use Rattle.std.proofs.lemmas.Str.Parse.{parse_digits}
use Rattle.vab_pack.specs.Amounts.{is_number, number_of, digits_of, factor_of, scaled_up_to}
use Rattle.vab_pack.specs.Amounts.{amount_up_to, last_of, before_last_of}

abbrev are_digits : List ℕ → Type 0
are_digits text = list_all is_ascii_digit text ≡ true

digits_test : IsDigitsTest are_digits
digits_test = search rules

own : IsNumeralModel are_digits (digits_value 10)
own = numerals_by_value are_digits digits_test

all_digits : (text : List ℕ) → is_number text ≡ true → are_digits text
unfolding is_number
all_digits text e = (and_parts _ _ e).0

some_digits : (text : List ℕ) → is_number text ≡ true → 0 < length text
unfolding is_number
some_digits text e =
    let few : nat_lt 0 (length text) ≡ true =
    (and_parts _ _ (and_parts (list_all is_ascii_digit text) _ e).1).0 in
    grind (arith, nat_tests)

pub no_number : (text : List ℕ) → is_number text ≡ false → None ≡ number_of text
unfolding number_of
no_number text e = rw e refl

low_number : (text : List ℕ)
    → is_number text ≡ true
    → digits_value 10 text < 2 ^ 64
    → Some (digits_value 10 text) ≡ number_of text
unfolding number_of
low_number text e below =
    let test : nat_le (digits_value 10 text) 0xffff_ffff_ffff_ffff ≡ true =
    grind (arith, nat_tests) in
    rw (e, test) refl

high_number : (text : List ℕ)
    → is_number text ≡ true
    → 2 ^ 64 ≤ digits_value 10 text
    → None ≡ number_of text
unfolding number_of
high_number text e above =
    let test : nat_le (digits_value 10 text) 0xffff_ffff_ffff_ffff ≡ false =
    grind (arith, nat_tests) in
    rw (e, test) refl

module _ (text : List ℕ) (is : is_number text ≡ true) where
  pub read : (n : ℕ) → n < 2 ^ 64 → ParsesUnsigned {E = ℕ} 64 10 text (Ok n)
      → Some n ≡ number_of text
  read n fits h =
      let value : n ≡ digits_value 10 text =
      (parse_digits own {E = ℕ} 64 text (Ok n) h (all_digits text is)).1 in
      rw value (low_number text is (rw (← value) fits))

  pub unread : ParsesUnsigned {E = ℕ} 64 10 text (Err 0) → None ≡ number_of text
  unread h =
      let not_small = parse_digits own {E = ℕ} 64 text (Err 0) h (all_digits text is) in
      let some = some_digits text is in
      let over : digits_value 10 text < 2 ^ 64 → ⊥ = λ lt. not_small (some, lt) in
      high_number text is (omega arith)

-- ---- an amount is no more than its most

scaled_fits : (most factor n amount : ℕ) → scaled_up_to most factor n ≡ Some amount → amount ≤ most
scaled_fits most factor n amount e = elim (cases_Bool (nat_le (n * factor) most)) [
  | inl low ↦
      let same : Some (n * factor) ≡ Some amount =
      (let f : scaled_up_to most factor n ≡ Some (n * factor) = rw low refl in sym f ∙ e) in
      let is : n * factor ≡ amount = cc in
      omega (arith, leb-true (n * factor) most low, is)
  | inr high ↦ absurd (let f : None ≡ Some amount = sym (rw high refl) ∙ e in cc)
]

amount_from : (most factor : ℕ) (number : Option ℕ) (amount : ℕ)
    → option_and_then (scaled_up_to most factor) number ≡ Some amount
    → amount ≤ most
amount_from most factor None amount e = absurd cc
amount_from most factor (Some n) amount e = scaled_fits most factor n amount e

pub amount_fits : (most : ℕ) (text : List ℕ) (amount : ℕ)
    → amount_up_to most text ≡ Some amount
    → amount ≤ most
unfolding amount_up_to
amount_fits most text amount e =
    amount_from most (factor_of text) (number_of (digits_of text)) amount e

-- ---- no letter for a factor

whole : (text : List ℕ)
    → 0 < length text
    → text ≡ before_last_of text ++ last_of text ∷ []
whole text long =
    let k : ℕ = length text - 1 in
    let all : take (suc k) text ≡ text = take_all (suc k) text (omega arith) in
    sym all ∙ take-suc text k 0 (omega arith)

not_last : (c : ℕ) (text : List ℕ)
    → 0 < c
    → ((front : List ℕ) → text ≢ front ++ c ∷ [])
    → eqb (last_of text) c ≡ false
not_last c text some none =
    false_from_ne_true (eqb (last_of text) c) (λ t.
    let is : last_of text ≡ c = eqb-true (last_of text) c t in
    elim (cases_lt 0 (length text)) [
      | inl long ↦ none (before_last_of text)
          (whole text long ∙ ap (λ (b : ℕ). before_last_of text ++ b ∷ []) is)
      | inr empty ↦
          let z : last_of text ≡ 0 =
          (let zero : ℕ = 0 in get_or_past text (length text - 1) zero (omega arith)) in
          omega (arith, z, is, some)
    ])

pub record HasNoLetter (text : List ℕ) : Type 0 where
  pub kilo : (front : List ℕ) → text ≢ front ++ 75 ∷ []
  pub mega : (front : List ℕ) → text ≢ front ++ 77 ∷ []
  pub giga : (front : List ℕ) → text ≢ front ++ 71 ∷ []

pub all_digits_of : (text : List ℕ) → HasNoLetter text → text ≡ digits_of text
unfolding digits_of
all_digits_of text is =
    rw (
      not_last 75 text (omega arith) is.kilo,
      not_last 77 text (omega arith) is.mega,
      not_last 71 text (omega arith) is.giga,
    ) refl

pub no_factor : (text : List ℕ) → HasNoLetter text → 1 ≡ factor_of text
unfolding factor_of
no_factor text is =
    rw (
      not_last 75 text (omega arith) is.kilo,
      not_last 77 text (omega arith) is.mega,
      not_last 71 text (omega arith) is.giga,
    ) refl
