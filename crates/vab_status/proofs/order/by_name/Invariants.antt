use Rattle.std.proofs.Common.{◌≡◌, drop}
use Rattle.vab_status.specs.Page.{by_name}
use Rattle.vab_status.proofs.OrderLaws.{targets}
use Rattle.vab_status.proofs.order.by_name.Given as goal

abbrev pub invariant-loop-i : goal.invariant-loop-i
invariant-loop-i l = targets l.sorted.items ≡ by_name (λ p. p.name) (drop l.i l.parts)
