-- Numbers that are written out are short.
use Rattle.std.proofs.Common.{ℕ, zero, suc, ◌+◌, ◌≤◌, ◌/◌, ◌%◌, Bool, true, false, eqb, inl, inr}
use Rattle.std.proofs.Common.{List, [], ◌∷◌}
use Rattle.std.proofs.Common.{length, decimal, arith}
use Rattle.std.proofs.lemmas.Bool.{cases_Bool}
use Rattle.vab_fbvars.specs.Hexadecimal.{hexadecimal}
use Rattle.std.specs.Fmt.{digits_onto, digits, digit_glyph}

onto_short : (k base : ℕ) (upper : Bool) (n : ℕ) (acc : List ℕ)
    → length (digits_onto k base upper n acc) ≤ length acc + k
onto_short zero base upper n acc = omega arith
onto_short (suc k) base upper n acc =
    let more = onto_short k base upper (n / base) (digit_glyph upper (n % base) ∷ acc) in
    elim (cases_Bool (eqb (n / base) 0)) [
      | inl h ↦ rw h (omega arith)
      | inr h ↦ rw h (omega (arith, more))
    ]

pub decimal_short : (n : ℕ) → length (decimal n) ≤ 64
unfolding digits
decimal_short n = onto_short 64 10 false n []

pub hexadecimal_short : (n : ℕ) → length (hexadecimal n) ≤ 64
unfolding digits
hexadecimal_short n = onto_short 64 16 true n []
