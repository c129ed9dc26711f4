-- Numbers in hexadecimal.
use Rattle.std.specs.Prelude.{ℕ, true, List}
use Rattle.std.specs.Fmt.{digits}

-- a number in upper-case hexadecimal, without leading zeros
abbrev pub hexadecimal : ℕ → List ℕ
hexadecimal n = digits 16 true n
