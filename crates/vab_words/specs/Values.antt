-- The values of options and operands.
use Rattle.std.specs.Prelude.{◌≡◌, ◌≤◌, ◌<◌, ℕ, Bool, ◌&&◌, ◌==◌, ◌-◌, ◌%◌, ◌^◌, List, length}
use Rattle.std.specs.Prelude.{Option, Some, None, codes, if◌then◌else◌, nat_lt, nat_le}
use Rattle.std.specs.Prelude.{option_and_then}
use Rattle.std.specs.Char.{is_ascii_digit}
use Rattle.std.specs.List.{list_all}
use Rattle.std.specs.Str.{bytes_eq}
use Rattle.std.specs.Str.Parse.{digits_value}

-- 1 to 20 decimal digits
unfoldable pub is_number : List ℕ → Bool
is_number text = list_all is_ascii_digit text && (nat_lt 0 (length text) && nat_le (length text) 20)

-- the number that 1 to 20 decimal digits write, where it is at most `most`
unfoldable pub number_up_to : ℕ → List ℕ → Option ℕ
number_up_to most text =
    if is_number text && nat_le (digits_value 10 text) most then Some (digits_value 10 text)
    else None

-- the bytes of `--limit`: from 0 to 2^44, and 0 where the option isn't given
unfoldable pub limit_of : Option (List ℕ) → Option ℕ
limit_of None = Some 0
limit_of (Some text) = number_up_to (2 ^ 44) text

-- the bytes of `--metadata-max`: a multiple of 512 from 512 to 65536, and 65536 where the option
-- isn't given
abbrev pub whole_sectors : ℕ → Option ℕ
whole_sectors bytes = if nat_le 512 bytes && bytes % 512 == 0 then Some bytes else None

unfoldable pub metadata_max_of : Option (List ℕ) → Option ℕ
metadata_max_of None = Some 65536
metadata_max_of (Some text) = option_and_then whole_sectors (number_up_to 65536 text)

-- a multiple of 512 from 512 to 65536
abbrev pub IsMetadataMax : ℕ → Type 0
IsMetadataMax bytes = (bytes % 512 ≡ 0) × (512 ≤ bytes) × (bytes ≤ 65536)

-- a number from 1 on
abbrev pub from_one : ℕ → Option ℕ
from_one number = if nat_le 1 number then Some number else None

-- the operand of `merge`: from 1 to 2^32 - 1
unfoldable pub blocks_of : List ℕ → Option ℕ
blocks_of text = option_and_then from_one (number_up_to (2 ^ 32 - 1) text)

-- from 1 to 2^32 - 1
abbrev pub IsBlocks : ℕ → Type 0
IsBlocks blocks = (1 ≤ blocks) × (blocks < 2 ^ 32)

-- the number of `--turns`: from 0 to 2^32 - 1, and 0 where the option isn't given
unfoldable pub turns_of : Option (List ℕ) → Option ℕ
turns_of None = Some 0
turns_of (Some text) = number_up_to (2 ^ 32 - 1) text

-- the operand of `demo`: below 2^64
unfoldable pub seed_of : List ℕ → Option ℕ
seed_of text = number_up_to (2 ^ 64 - 1) text

-- the number of `--scale`: from 1 to 64, and 1 where the option isn't given
unfoldable pub scale_of : Option (List ℕ) → Option ℕ
scale_of None = Some 1
scale_of (Some text) = option_and_then from_one (number_up_to 64 text)

-- from 1 to 64
abbrev pub IsScale : ℕ → Type 0
IsScale scale = (1 ≤ scale) × (scale ≤ 64)

-- the slot of a letter: 0 for a and 1 for b
unfoldable pub slot_of : List ℕ → Option ℕ
slot_of text =
    if bytes_eq text (codes "a") then Some 0 else if bytes_eq text (codes "b") then Some 1 else None
