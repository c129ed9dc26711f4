use Rattle.vab_scan.specs.List.{TakesTo}
use Rattle.vab_scan.proofs.list.take_lying.Given as goal

abbrev pub invariant-loop-exception : goal.invariant-loop-exception
invariant-loop-exception l =
    TakesTo l.chunk l.chunks l.bound l.page l.fn.items.items l.items.items l.exception-index
