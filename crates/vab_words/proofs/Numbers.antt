-- What `parse` reads of 1 to 20 decimal digits.
use Rattle.std.proofs.Common.{◌≡◌, ◌<◌, ◌≤◌, ◌^◌, ℕ, true, false, List, length, Some, None, Ok, Err}
use Rattle.std.proofs.Common.{arith, rules, refl}
use Rattle.std.specs.Prelude.{nat_lt, nat_le}
use Rattle.std.specs.Char.{is_ascii_digit}
use Rattle.std.specs.List.{list_all}
use Rattle.std.specs.Str.Parse.{ParsesUnsigned, digits_value}
use Rattle.std.proofs.lemmas.Bool.Decides.{nat_tests}
use Rattle.std.proofs.lemmas.Str.Parse.{IsDigitsTest, IsNumeralModel, numerals_by_value}
use Rattle.std.proofs.lemmas.Str.Parse.{parse_digits}
use Rattle.clap.proofs.WalkLemmas.{both}
use Rattle.vab_words.specs.Values.{is_number, number_up_to}

abbrev are_digits : List ℕ → Type 0
are_digits text = list_all is_ascii_digit text ≡ true

digits_test : IsDigitsTest are_digits
digits_test = search rules

own : IsNumeralModel are_digits (digits_value 10)
own = numerals_by_value are_digits digits_test

digits_of : (text : List ℕ) → is_number text ≡ true → are_digits text
unfolding is_number
digits_of text e = (both _ _ e).0

some_of : (text : List ℕ) → is_number text ≡ true → 0 < length text
unfolding is_number
some_of text e =
    let few : nat_lt 0 (length text) ≡ true =
    (both _ _ (both (list_all is_ascii_digit text) _ e).1).0 in
    grind (arith, nat_tests)

pub no_number : (most : ℕ) (text : List ℕ) → is_number text ≡ false → None ≡ number_up_to most text
unfolding number_up_to
no_number most text e = rw e refl

up_to : (most : ℕ) (text : List ℕ)
    → is_number text ≡ true
    → digits_value 10 text ≤ most
    → Some (digits_value 10 text) ≡ number_up_to most text
unfolding number_up_to
up_to most text e below =
    let test : nat_le (digits_value 10 text) most ≡ true = grind (arith, nat_tests) in
    rw (e, test) refl

past : (most : ℕ) (text : List ℕ)
    → is_number text ≡ true
    → most < digits_value 10 text
    → None ≡ number_up_to most text
unfolding number_up_to
past most text e above =
    let test : nat_le (digits_value 10 text) most ≡ false = grind (arith, nat_tests) in
    rw (e, test) refl

module _ (most : ℕ) (text : List ℕ) (is : is_number text ≡ true) where
  pub read : (n : ℕ)
      → ParsesUnsigned {E = ℕ} 64 10 text (Ok n)
      → n ≤ most
      → Some n ≡ number_up_to most text
  read n h below =
      let value : n ≡ digits_value 10 text =
      (parse_digits own {E = ℕ} 64 text (Ok n) h (digits_of text is)).1 in
      rw value (up_to most text is (rw (← value) below))

  pub read_past : (n : ℕ)
      → ParsesUnsigned {E = ℕ} 64 10 text (Ok n)
      → most < n
      → None ≡ number_up_to most text
  read_past n h above =
      let value : n ≡ digits_value 10 text =
      (parse_digits own {E = ℕ} 64 text (Ok n) h (digits_of text is)).1 in
      past most text is (rw (← value) above)

  pub unread : ParsesUnsigned {E = ℕ} 64 10 text (Err 0)
      → most < 2 ^ 64
      → None ≡ number_up_to most text
  unread h small =
      let not_small = parse_digits own {E = ℕ} 64 text (Err 0) h (digits_of text is) in
      let some = some_of text is in
      let over : digits_value 10 text < 2 ^ 64 → ⊥ = λ lt. not_small (some, lt) in
      past most text is (omega arith)
