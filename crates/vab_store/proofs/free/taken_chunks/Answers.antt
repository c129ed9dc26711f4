use Rattle.std.proofs.Common.{◌+◌, List, Bool, sym, subst, arith}
use Rattle.vab_exceptions.specs.declared.area.Exception.{Exception}
use Rattle.vab_space.specs.declared.Chunk.{Chunk}
use Rattle.vab_store.specs.Free.{AreTaken}
use Rattle.vab_store.proofs.FreeLaws.{taken_more, taken_same}
use Rattle.vab_store.proofs.free.taken_chunks.Goals as goal
use Rattle.vab_store.proofs.free.taken_chunks.Goals.{then-number-len, else-number-len}

pub loop-exception-preserved : goal.loop-exception-preserved
loop-exception-preserved c =
    let k : Chunk = c.args.chunk in
    let es : List Exception = c.args.items.now in
    let flags : List Bool = c.loop-exception.taken.items in
    let n = c.loop-exception.exception-index in
    let number = c.entry_of-number.result in
    let below = c.loop-exception-test.true in
    let is = c.requires.chunks n below in
    elim c.if-number-len.branch [
      | then-number-len w ↦
          subst (λ v. AreTaken k es (n + 1) v.items) (sym w.taken-is)
          (taken_more k es n number flags c.loop-exception.invariant below is
          c.entry_of-number.ensures.is (omega (arith, w.if-number-len.true, c.len.ensures)))
      | else-number-len w ↦
          subst (λ v. AreTaken k es (n + 1) v.items) (sym w.taken-is)
          (taken_same k es n number flags c.loop-exception.invariant below is
          c.entry_of-number.ensures.is (omega (arith, w.if-number-len.false, c.len.ensures)))
    ]
