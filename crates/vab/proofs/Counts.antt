-- A count of at most nine decimal digits is read as a number of 32 bits.
use Rattle.std.proofs.Common.{◌≡◌, ℕ, List, true, Err, arith, rules}
use Rattle.std.specs.Char.{is_ascii_digit}
use Rattle.std.specs.List.{list_all}
use Rattle.std.specs.Str.Parse.{ParsesUnsigned, digits_value}
use Rattle.std.proofs.lemmas.Str.Parse.{IsDigitsTest, IsNumeralModel, numerals_by_value}
use Rattle.std.proofs.lemmas.Str.Parse.{parse_digits, digits_value_short}
use Rattle.vab.specs.Word.{IsCount}

abbrev are_digits : List ℕ → Type 0
are_digits text = list_all is_ascii_digit text ≡ true

digits_test : IsDigitsTest are_digits
digits_test = search rules

own : IsNumeralModel are_digits (digits_value 10)
own = numerals_by_value are_digits digits_test

pub is_read : (text : List ℕ) → ParsesUnsigned {E = ℕ} 32 10 text (Err 0) → ¬ IsCount text
is_read text h is =
    let not_small = parse_digits own {E = ℕ} 32 text (Err 0) h is.decimal in
    let short = digits_value_short own text 9 is.decimal is.few in
    not_small (is.some, omega (arith, short))
