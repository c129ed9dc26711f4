-- CRC-32: division of the bits, the low bit of each byte first, by the polynomial 0xEDB88320.
use Rattle.std.specs.Prelude.{ℕ, zero, suc, ◌/◌, ◌%◌, ◌==◌, if◌then◌else◌, List, fold, bit_xor}

-- one bit leaves the register, and where it was a one the polynomial is added
abbrev pub crc_step : ℕ → ℕ
crc_step c = if c % 2 == 1 then bit_xor (c / 2) 0xEDB88320 else c / 2

-- that for so many bits
unfoldable pub crc_steps : ℕ → ℕ → ℕ
crc_steps zero c = c
crc_steps (suc n) c = crc_steps n (crc_step c)

-- a byte goes into the register
abbrev pub crc_byte : ℕ → ℕ → ℕ
crc_byte c b = crc_steps 8 (bit_xor c b)

-- the sum of these bytes: the register starts with ones alone, and is complemented at the end
unfoldable pub crc_of : List ℕ → ℕ
crc_of bytes = bit_xor (fold crc_byte 0xFFFF_FFFF bytes) 0xFFFF_FFFF
