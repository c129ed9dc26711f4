use Rattle.std.proofs.Common.{◌≡◌, ◌+◌}
use Rattle.vab_gen.specs.Draws.{drawn}
use Rattle.vab_gen.specs.Blocks.{joined, filled}
use Rattle.vab_gen.proofs.bytes.filled_blocks.Given as goal

abbrev pub invariant-loop : goal.invariant-loop
invariant-loop l =
    (l.out.items ≡ joined (λ i. filled (drawn (i + 1) l.fn.draws.last)) l.counter)
    × (l.draws.last ≡ drawn l.counter l.fn.draws.last)
