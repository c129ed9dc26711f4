-- Hexadecimal digits, one at a time.
use Rattle.std.proofs.Common.{◌≡◌, ℕ, suc, ◌<◌, ◌≤◌, ◌/◌, ◌%◌, true, eqb, inl, inr, List, ◌∷◌, refl}
use Rattle.std.proofs.Common.{ap, arith, eq-eqb, eqb-true}
use Rattle.std.proofs.lemmas.Bool.{cases_Bool}
use Rattle.std.specs.Fmt.{digits_onto, digit_glyph}

pub one_more : (k n : ℕ) (acc : List ℕ)
    → 16 ≤ n
    → digits_onto (suc k) 16 true n acc
    ≡ digits_onto k 16 true (n / 16) (digit_glyph true (n % 16) ∷ acc)
one_more k n acc two = elim (cases_Bool (eqb (n / 16) 0)) [
  | inl h ↦ absurd (omega (arith, eqb-true (n / 16) 0 h))
  | inr h ↦ rw h refl
]

pub the_last : (k n : ℕ) (acc : List ℕ)
    → n < 16
    → digits_onto (suc k) 16 true n acc ≡ digit_glyph true n ∷ acc
the_last k n acc one =
    let yes : eqb (n / 16) 0 ≡ true = eq-eqb (n / 16) 0 (omega arith) in
    let same : n % 16 ≡ n = omega arith in
    rw yes (ap (λ (d : ℕ). digit_glyph true d ∷ acc) same)
