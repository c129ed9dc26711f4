use Rattle.vab_store.specs.Free.{AreTaken}
use Rattle.vab_store.proofs.free.taken_chunks.Given as goal

abbrev pub invariant-loop-exception : goal.invariant-loop-exception
invariant-loop-exception l = AreTaken l.chunk l.items l.exception-index l.taken.items
