-- The hello of fastboot over TCP: `FB` and a version of two decimal digits, from 01 on.
use Rattle.std.specs.Prelude.{ℕ, ◌+◌, ◌-◌, ◌*◌, List, Bool, ◌==◌, ◌&&◌, nat_lt, nat_le, slice_index}
use Rattle.std.specs.Prelude.{length}

abbrev pub is_digit : ℕ → Bool
is_digit c = nat_le 48 c && nat_le c 57

-- the number of two digits
abbrev pub version_of : List ℕ → ℕ
version_of hello = 10 * (slice_index hello 2 - 48) + (slice_index hello 3 - 48)

-- `FB`, two digits, and not 00
abbrev pub is_hello : List ℕ → Bool
is_hello hello =
    length hello == 4
    && slice_index hello 0 == 70
    && slice_index hello 1 == 66
    && is_digit (slice_index hello 2)
    && is_digit (slice_index hello 3)
    && nat_lt 0 (version_of hello)
