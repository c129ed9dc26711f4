use Rattle.std.proofs.Common.{◌≡◌, ℕ, suc, ◌<◌, ◌≤◌, ◌^◌, List, [], ◌∷◌, Option, None, Some, length}
use Rattle.std.proofs.Common.{drop, get_or, refl, sym, ◌∙◌, ap, arith, drop-cons}
use Rattle.std.proofs.Math.Nat.{pow-le-pow_right}
use Rattle.vab_fbproto.specs.Requests.{digit_of, with_digit, digits_behind}
use Rattle.vab_fbproto.proofs.number.digits_value.Goals as goal

few : (i : ℕ) → i < 20 → 16 ^ i ≤ 16 ^ 19
few i small = pow-le-pow_right {n = 16} (omega arith) {i = i} {j = 19} (omega arith)

eight : (i : ℕ) → i ≤ 8 → 16 ^ i ≤ 16 ^ 8
eight i small = pow-le-pow_right {n = 16} (omega arith) {i = i} {j = 8} (omega arith)

pub with_digit-requires-clause-small : goal.with_digit-requires-clause-small
with_digit-requires-clause-small c =
    let l = c.loop-byte in
    omega (
      arith,
      few l.byte-index (omega (arith, c.requires.few, c.loop-byte-test.true)),
      l.invariant.small,
    )

behind_none : (base : ℕ) (cs : List ℕ) → digits_behind base None cs ≡ None
behind_none base [] = refl
behind_none base (c ∷ cs) = refl

none_there : (base value : ℕ) (cs : List ℕ) (i : ℕ)
    → i < length cs
    → with_digit base value (digit_of (get_or cs i 0)) ≡ None
    → digits_behind base (Some value) (drop i cs) ≡ None
none_there base value cs i within none =
    ap (digits_behind base (Some value)) (drop-cons cs i 0 within)
    ∙ ap (λ (v : Option ℕ). digits_behind base v (drop (suc i) cs)) none
    ∙ behind_none base (drop (suc i) cs)

pub returns-in-None-clause-value : goal.returns-in-None-clause-value
returns-in-None-clause-value c =
    let l = c.loop-byte in
    let base = c.args.base in
    let none = sym (ap (with_digit base l.value) c.digit.ensures.value)
    ∙ sym c.with_digit.ensures.value
    ∙ c.in-None.is in
    sym (sym l.invariant.rest
    ∙ none_there base l.value c.args.digits.now l.byte-index c.loop-byte-test.true none)

pub returns-clause-small : goal.returns-clause-small
returns-clause-small c = λ short.
    let l = c.loop-byte in
    omega (
      arith,
      eight l.byte-index (omega (arith, short, l.auto.byte-index-end)),
      l.invariant.small,
    )
