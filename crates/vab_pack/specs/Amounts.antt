-- Numbers of bytes, with a letter for a factor.
use Rattle.std.specs.Prelude.{ℕ, ◌-◌, ◌*◌, Bool, ◌&&◌, ◌==◌, nat_lt, nat_le, if◌then◌else◌, List}
use Rattle.std.specs.Prelude.{length, take, slice_index, Option, Some, None, option_and_then}
use Rattle.std.specs.Char.{is_ascii_digit}
use Rattle.std.specs.List.{list_all}
use Rattle.std.specs.Str.Parse.{digits_value}

-- 1 to 20 decimal digits
unfoldable pub is_number : List ℕ → Bool
is_number text = list_all is_ascii_digit text && (nat_lt 0 (length text) && nat_le (length text) 20)

-- the number that they write, where it is below 2^64
unfoldable pub number_of : List ℕ → Option ℕ
number_of text =
    if is_number text && nat_le (digits_value 10 text) 0xffff_ffff_ffff_ffff
    then Some (digits_value 10 text)
    else None

-- the last byte, and what stands before it
abbrev pub last_of : List ℕ → ℕ
last_of text = slice_index text (length text - 1)

abbrev pub before_last_of : List ℕ → List ℕ
before_last_of text = take (length text - 1) text

-- what is behind a number: K, M or G stands for 2^10, 2^20 or 2^30
unfoldable pub factor_of : List ℕ → ℕ
factor_of text =
    if last_of text == 75 then 1024
    else if last_of text == 77 then 1048576
    else if last_of text == 71 then 1073741824
    else 1

unfoldable pub digits_of : List ℕ → List ℕ
digits_of text =
    if last_of text == 75 then before_last_of text
    else if last_of text == 77 then before_last_of text
    else if last_of text == 71 then before_last_of text
    else text

-- so many times this number, up to a most
abbrev pub scaled_up_to : ℕ → ℕ → ℕ → Option ℕ
scaled_up_to most factor n = if nat_le (n * factor) most then Some (n * factor) else None

-- the number of bytes that is written, up to a most
unfoldable pub amount_up_to : ℕ → List ℕ → Option ℕ
amount_up_to most text =
    option_and_then (scaled_up_to most (factor_of text)) (number_of (digits_of text))
