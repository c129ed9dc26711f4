use Rattle.std.proofs.Common.{◌≡◌, ◌+◌, ◌*◌}
use Rattle.vab_exceptions.specs.Entries.{firsts}
use Rattle.vab_store.specs.Writing.{planned_at}
use Rattle.vab_store.proofs.writer.page_block.Given as goal

abbrev pub invariant-loop-i : goal.invariant-loop-i
invariant-loop-i l =
    l.entries.items ≡ firsts (λ i. planned_at l.chunk l.olds (256 * l.page + i)) l.i
