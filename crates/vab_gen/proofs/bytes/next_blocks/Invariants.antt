use Rattle.std.proofs.Common.{◌≡◌, ◌+◌}
use Rattle.vab_gen.specs.Draws.{drawn}
use Rattle.vab_gen.specs.Blocks.{joined, next_block}
use Rattle.vab_gen.proofs.bytes.next_blocks.Given as goal

abbrev pub invariant-loop-index : goal.invariant-loop-index
invariant-loop-index l =
    (l.out.items ≡ joined (λ i. next_block l.old i (drawn (i + 1) l.fn.draws.last)) l.index)
    × (l.draws.last ≡ drawn l.index l.fn.draws.last)
