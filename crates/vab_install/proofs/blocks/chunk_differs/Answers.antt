use Rattle.std.proofs.Common.{ℕ, Bool, [], unwrap_or, option_copied, sym, arith}
use Rattle.vab_space.proofs.DifferingLaws.{chunk_none}
use Rattle.vab_install.specs.Differing.{differs_at}
use Rattle.vab_install.proofs.blocks.chunk_differs.Goals as goal

pub returns-clause-exact : goal.returns-clause-exact
returns-clause-exact g c = λ t.
    let test : ℕ → Bool =
    differs_at (unwrap_or (option_copied c.args.base) []) (g.D.Disk.seen c.args.d.now)
    c.args.image.now in
    sym (chunk_none c.args.chunk test c.args.blocks c.args.number c.requires.within
    (λ r inside below.
    c.loop-place.invariant.same t r
    (omega (arith, inside, c.loop-place-test.false, c.blocks-place-end.ensures.is)) below))
