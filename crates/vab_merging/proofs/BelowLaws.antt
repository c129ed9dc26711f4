-- There are no more different numbers below a bound than the bound says.
use Rattle.std.proofs.Common.{◌≡◌, ◌≢◌, ◌∙◌, inl, inr, ℕ, zero, suc, ◌≤◌, ◌<◌, eqb, true, eq-eqb}
use Rattle.std.proofs.Common.{cond, refl, sym, arith}
use Rattle.std.proofs.lemmas.Bool.{cases_Bool, cases_eq, eqb-true}

-- the value n is given the place of another one
moved : (ℕ → ℕ) → ℕ → ℕ → ℕ → ℕ
moved f n other j = cond (eqb (f j) n) other (f j)

moved_here : (f : ℕ → ℕ) (n other j : ℕ) → f j ≡ n → moved f n other j ≡ other
unfolding moved
moved_here f n other j is =
    let test : eqb (f j) n ≡ true = eq-eqb (f j) n is in
    rw test refl

moved_there : (f : ℕ → ℕ) (n other j : ℕ) → f j ≢ n → moved f n other j ≡ f j
unfolding moved
moved_there f n other j not = elim (cases_Bool (eqb (f j) n)) [
  | inl same ↦ absurd (not (eqb-true (f j) n same))
  | inr different ↦ rw different refl
]

-- as many different numbers as are below a bound
pub few_below : (n m : ℕ) (f : ℕ → ℕ)
    → ((j : ℕ) → j < m → f j < n)
    → ((j k : ℕ) → j < k → k < m → f j ≢ f k)
    → m ≤ n
few_below n zero f below differ = omega arith
few_below zero (suc m) f below differ =
    let bad = below 0 (omega arith) in absurd (omega (arith, bad))
few_below (suc n) (suc m) f below differ =
    let last : ℕ = f m in
    let value = λ (j : ℕ). cases_eq (f j) n in
    let fewer : (j : ℕ) → j < m → moved f n last j < n = λ j lt.
    let here = below j (omega (arith, lt)) in
    let end = below m (omega arith) in
    let other = differ j m lt (omega arith) in
    elim (value j) [
      | inl is ↦
          let not_last : last ≢ n = λ e. other (is ∙ sym e) in
          let e = moved_here f n last j is in
          omega (arith, e, end, not_last)
      | inr not ↦
          let e = moved_there f n last j not in
          omega (arith, e, here, not)
    ] in
    let apart : (j k : ℕ) → j < k → k < m → moved f n last j ≢ moved f n last k = λ j k jk lt.
    let pair = differ j k jk (omega (arith, lt)) in
    let first = differ j m (omega (arith, jk, lt)) (omega arith) in
    let second = differ k m lt (omega arith) in
    elim (value j) [
      | inl here ↦ elim (value k) [
        | inl there ↦ absurd (pair (here ∙ sym there))
        | inr not ↦
            λ e. second (sym (moved_there f n last k not) ∙ sym e ∙ moved_here f n last j here)
      ]
      | inr not ↦ elim (value k) [
        | inl there ↦
            λ e. first (sym (moved_there f n last j not) ∙ e ∙ moved_here f n last k there)
        | inr other ↦
            λ e. pair (sym (moved_there f n last j not) ∙ e ∙ moved_there f n last k other)
      ]
    ] in
    let rest = few_below n m (moved f n last) fewer apart in
    omega (arith, rest)
