-- Numbers and pieces at a place of a list of bytes.
use Rattle.std.specs.Prelude.{ℕ, ◌+◌, ◌<◌, List, ◌++◌, length, take, drop, slice_index}
use Rattle.std.specs.Int.{Width, byte_len, from_le_bytes}

-- each is below 256
abbrev pub IsBytes : List ℕ → Type 0
IsBytes bytes = (i : ℕ) → slice_index bytes i < 256

-- the n bytes from a place on
abbrev pub field : List ℕ → ℕ → ℕ → List ℕ
field bytes at n = take n (drop at bytes)

-- the number that stands at a place, the low byte first
abbrev pub le_at : Width → List ℕ → ℕ → ℕ
le_at w bytes at = from_le_bytes w (field bytes at (byte_len w))

-- the bytes with this piece in the place of as many from a place on
abbrev pub put_at : List ℕ → ℕ → List ℕ → List ℕ
put_at bytes at piece = take at bytes ++ piece ++ drop (at + length piece) bytes
