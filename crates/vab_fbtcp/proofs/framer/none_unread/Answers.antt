use Rattle.std.proofs.Common.{◌≡◌, ◌+◌, ◌-◌, List, [], ◌∷◌, ◌++◌, ℕ, length, drop, refl, ap, arith}
use Rattle.std.proofs.Common.{length-append, length-drop}
use Rattle.std.proofs.lemmas.Bool.Decides.{nat_tests}
use Rattle.vab_fbtcp.proofs.framer.none_unread.Goals as goal

nil_of : (l : List ℕ) → length l ≡ 0 → l ≡ []
nil_of [] none = refl
nil_of (x ∷ l) none = absurd (omega arith)

pub returns : goal.returns
returns c =
    let all = c.args.held.now ++ drop c.args.at c.args.piece.now in
    let long : length all ≡ length c.args.held.now + (length c.args.piece.now - c.args.at) =
    omega (
      arith,
      length-append c.args.held.now (drop c.args.at c.args.piece.now),
      length-drop
          c.args.at c.args.piece.now,
    ) in (
      λ yes. nil_of all (let none : length c.args.held.now + (length c.args.piece.now - c.args.at)
          ≡ 0 = grind (arith, nat_tests) in omega arith),
      λ none. let zero : length all ≡ 0 = ap length none in grind (arith, nat_tests),
    )
