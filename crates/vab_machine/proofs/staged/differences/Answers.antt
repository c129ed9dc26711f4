use Rattle.std.proofs.Common.{◌≡◌, ◌∙◌, ℕ, Bool, length, sym, ap, arith}
use Rattle.vab_space.specs.Chunks.{chunks_for}
use Rattle.vab_space.specs.Differing.{chunk_differs}
use Rattle.vab_space.proofs.DifferingLaws.{passing, chunks_fewest, differing_is}
use Rattle.vab_model.specs.Staged.{differs}
use Rattle.vab_machine.proofs.staged.differences.Goals as goal

pub returns-clause-exact : goal.returns-clause-exact
returns-clause-exact c =
    let other : ℕ → Bool = differs c.args.source.now c.args.image.now in
    let test : ℕ → Bool = chunk_differs c.args.chunk other c.args.blocks in
    let all : c.loop-c.c ≡ chunks_for c.args.chunk c.args.blocks =
    omega (arith, c.chunks_for-c-end.ensures) in
    c.loop-c.invariant.exact
    ∙ ap (λ (n : ℕ). length (passing test n)) all
    ∙ sym (ap length (differing_is c.args.chunk other c.args.blocks))

pub returns-clause-most : goal.returns-clause-most
returns-clause-most c =
    omega (
      arith,
      c.chunks_for-c-end.ensures,
      c.loop-c.invariant.most,
      chunks_fewest c.args.chunk c.args.blocks,
    )
