use Rattle.std.proofs.Common.{map}
use Rattle.vab_status.proofs.OrderLaws.{IsBehind}
use Rattle.vab_status.proofs.order.place_of.Given as goal

abbrev pub invariant-loop-i : goal.invariant-loop-i
invariant-loop-i l = IsBehind (λ p. p.name) l.part (map (λ p. p.now) l.sorted) l.i
