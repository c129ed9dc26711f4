use Rattle.std.proofs.Common.{◌≡◌, ◌+◌, ◌<◌, ◌≤◌, ◌++◌, length, drop, decimal}
use Rattle.vab_fbproto.proofs.decimal.put_decimal.Given as goal

abbrev pub invariant-loop-left : goal.invariant-loop-left
invariant-loop-left l = (length l.digits ≡ 20) × (l.at < 20) × (length (decimal l.left) ≤ l.at + 1)
    × (decimal l.n ≡ decimal l.left ++ drop (l.at + 1) l.digits)

abbrev pub decreases-loop-left : goal.decreases-loop-left
decreases-loop-left l = l.left
