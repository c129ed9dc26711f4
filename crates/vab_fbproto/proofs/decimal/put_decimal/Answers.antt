use Rattle.std.proofs.Common.{◌≡◌, ℕ, ◌+◌, ◌-◌, ◌/◌, ◌^◌, ◌<◌, ◌≤◌, length, decimal, ap, ◌∙◌, arith}
use Rattle.std.proofs.Common.{rules, set, take, drop, append-nil, append_assoc, length-append}
use Rattle.std.proofs.Common.{length-set, length-drop}
use Rattle.std.proofs.lemmas.Fmt.{decimal_digit, decimal_step, decimal_nonempty, length-decimal-le}
use Rattle.std.proofs.lemmas.List.{drop-set, take_all}
use Rattle.vab_fbproto.proofs.decimal.put_decimal.Goals as goal

-- a number of two digits or more has one digit more than its tenth
one_longer : (n : ℕ) → 10 ≤ n → n < 2 ^ 64 → length (decimal n) ≡ length (decimal (n / 10)) + 1
one_longer n two small = ap length (decimal_step n two small) ∙ length-append _ _

pub loop-left-init : goal.loop-left-init
loop-left-init c = (
  search rules,
  omega arith,
  length-decimal-le 20 c.args.n (omega arith)
      (omega arith) c.ranges.n.fits,
  rw append-nil,
)

pub overflow_sub-at : goal.overflow_sub-at
overflow_sub-at c =
    let l = c.loop-left in
    omega (
      arith,
      one_longer l.left c.loop-left-test.true l.auto.left-fits.fits,
      decimal_nonempty
          (l.left / 10) (omega (arith, l.auto.left-fits.fits)),
    )

pub loop-left-preserved : goal.loop-left-preserved
loop-left-preserved c =
    let l = c.loop-left in
    let two = c.loop-left-test.true in
    let small = l.auto.left-fits.fits in
    let longer = one_longer l.left two small in
    let some = decimal_nonempty (l.left / 10) (omega (arith, small)) in
    let back : l.at - 1 + 1 ≡ l.at = omega arith in (
      search rules,
      omega arith,
      omega arith,
      rw (back, drop-set l.digits l.at _ (omega arith))
          (rw (decimal_step l.left two small, append_assoc) at l.invariant.3),
    )

pub returns-clause-text : goal.returns-clause-text
returns-clause-text c =
    let l = c.loop-left in
    let held = set l.digits l.at (48 + l.left) in
    let used : decimal c.args.n ≡ drop l.at held =
    rw (drop-set l.digits l.at (48 + l.left) (omega arith))
    (rw (decimal_digit l.left c.loop-left-test.false) at l.invariant.3) in
    let part : take (20 - l.at) (drop l.at held) ≡ decimal c.args.n =
    rw used (take_all _ _ (omega (
      arith,
      length-drop l.at held,
      length-set l.digits l.at
          (48 + l.left),
    ))) in
    rw (← part) (search rules)
