use Rattle.std.proofs.Common.{List, [], ℕ, Result, Vec, Global, subst}
use Rattle.std.proofs.lemmas.Result.{err_from_is_err_and}
use Rattle.vab_sparse.specs.declared.fault.SparseFault.{SparseFault}
use Rattle.vab_sparse.specs.Reading.{Gives, chunks_of}
use Rattle.vab_sparse.proofs.Loop.{goes_on, bad_chunk, bad_image, is_done}
use Rattle.vab_sparse.proofs.image.read_chunks.Goals as goal

pub returns-in_err-chunk : goal.returns-in_err-chunk
returns-in_err-chunk c =
    let p = err_from_is_err_and c.from_residual.result c.from_residual.ensures.1 in
    let total = chunks_of c.args.head.now.chunks c.args.head.now c.args.file.now []
    c.args.head.now.blocks c.args.head.now.size in
    rw (p.1, p.2) (bad_chunk c.in_err-chunk.field-0.0 c.args.head.now c.args.file.now
    c.loop.image.items c.args.head.now.chunks c.loop.counter c.loop.left c.loop.at total
    c.loop-test.true c.in_err-chunk.ensures.read c.loop.invariant.0)

pub returns-in_err-put_chunk : goal.returns-in_err-put_chunk
returns-in_err-put_chunk c =
    let p = err_from_is_err_and c.from_residual-in_err-put_chunk.result
    c.from_residual-in_err-put_chunk.ensures.1 in
    let total = chunks_of c.args.head.now.chunks c.args.head.now c.args.file.now []
    c.args.head.now.blocks c.args.head.now.size in
    rw (p.1, p.2) (bad_image c.in_err-put_chunk.field-0.0 c.args.head.now c.args.file.now
    c.loop.image.items c.args.head.now.chunks c.loop.counter c.loop.left c.loop.at
    c.in_ok-chunk.chunk total c.loop-test.true c.in_ok-chunk.ensures.read
    c.in_err-put_chunk.ensures c.loop.invariant.0)

pub loop-preserved : goal.loop-preserved
loop-preserved c =
    let total = chunks_of c.args.head.now.chunks c.args.head.now c.args.file.now []
    c.args.head.now.blocks c.args.head.now.size in (
      goes_on c.args.head.now c.args.file.now c.loop.image.items c.put_chunk.new.image.items
          c.args.head.now.chunks c.loop.counter c.loop.left c.loop.at c.in_ok-chunk.chunk total
          c.loop-test.true c.in_ok-chunk.ensures.read c.in_ok-put_chunk.ensures c.loop.invariant.0,
      c.in_ok-chunk.ensures.ends,
    )

pub returns : goal.returns
returns c =
    let total = chunks_of c.args.head.now.chunks c.args.head.now c.args.file.now []
    c.args.head.now.blocks c.args.head.now.size in
    let is = is_done c.args.head.now c.args.file.now c.loop.image.items c.args.head.now.chunks
    c.loop.counter c.loop.left c.loop.at total c.loop-test.false c.loop.invariant.0 in
    subst (λ (r : Result (List ℕ) SparseFault).
    Gives (λ (v : Vec ℕ Global). v.items) c.end.result r) is c.end.ensures
