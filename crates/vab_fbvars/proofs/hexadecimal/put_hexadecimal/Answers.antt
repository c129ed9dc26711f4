use Rattle.std.proofs.Common.{◌≡◌, ◌∙◌, ℕ, suc, ◌+◌, ◌-◌, ◌/◌, ◌%◌, ◌<◌, ◌^◌, true, ◌∷◌, drop, set}
use Rattle.std.proofs.Common.{refl, sym, ap, arith, rules}
use Rattle.std.proofs.lemmas.List.{drop-set}
use Rattle.std.proofs.Math.Nat.{pow-suc}
use Rattle.std.specs.Fmt.{digits, digits_onto, digit_glyph}
use Rattle.vab_fbvars.proofs.Digits.{one_more}
use Rattle.vab_fbvars.proofs.hexadecimal.put_hexadecimal.Goals as goal

pub loop-left-init : goal.loop-left-init
unfolding digits
loop-left-init c = record {
  long = refl;
  within = omega arith;
  small = c.ranges.n.fits;
  rest = refl;
}

pub loop-left-preserved : goal.loop-left-preserved
loop-left-preserved c =
    let l = c.loop-left in
    let here = l.invariant.within in
    let some : 0 < l.at = search rules in
    let back : l.at - 1 + 1 ≡ l.at = omega arith in
    let one : l.at + 48 ≡ suc (l.at - 1 + 48) = omega arith in
    let more : 16 ^ (l.at + 1) ≡ 16 ^ suc l.at = ap (λ (k : ℕ). 16 ^ k) (omega arith) in
    let same : 16 ^ (l.at - 1 + 1) ≡ 16 ^ l.at = ap (λ (k : ℕ). 16 ^ k) back in
    let put = drop-set l.digits l.at c.digit_text.result (omega (arith, l.invariant.long)) in
    let placed : digit_glyph true (l.left % 16) ∷ drop (l.at + 1) l.digits
    ≡ drop (l.at - 1 + 1) (set l.digits l.at c.digit_text.result) =
    ap (λ (d : ℕ). d ∷ drop (l.at + 1) l.digits) (sym c.digit_text.ensures)
    ∙ sym put
    ∙ ap (λ (k : ℕ). drop k (set l.digits l.at c.digit_text.result)) (sym back) in
    record {
      long = search rules;
      within = omega (arith, here);
      small = omega (arith, pow-suc 16 l.at, more, same, l.invariant.small);
      rest =
          l.invariant.rest
          ∙ one_more (l.at + 48) l.left (drop (l.at + 1) l.digits) c.loop-left-test.true
          ∙ ap (λ (k : ℕ). digits_onto k 16 true (l.left / 16)
          (digit_glyph true (l.left % 16) ∷ drop (l.at + 1) l.digits)) one
          ∙ ap (digits_onto (suc (l.at - 1 + 48)) 16 true (l.left / 16)) placed;
    }
