use Rattle.std.proofs.Common.{ℕ, List, sym, subst}
use Rattle.std.proofs.lemmas.Result.{IfOk-weaker}
use Rattle.vab_space.specs.declared.Chunk.{Chunk}
use Rattle.vab_install.specs.Snapshot.{HoldsNew}
use Rattle.vab_install.proofs.snapshot.write_planned.Goals as goal

pub returns-in-Ok-clause-blocks : goal.returns-in-Ok-clause-blocks
returns-in-Ok-clause-blocks g c = λ t.
    let store : List ℕ = c.args.store.now in
    let olds : List ℕ = c.args.olds.now in
    let image : List ℕ = c.args.image.now in
    let k : Chunk = c.args.chunk in
    let written : HoldsNew k store olds image (g.D.Disk.seen c.write_store.new.d) =
    c.in-Ok.ensures.blocks t in
    IfOk-weaker c.settle.result _ (λ u. HoldsNew k store olds image (g.D.Disk.seen c.settle.new.d))
    (λ u rest. subst (HoldsNew k store olds image) (sym (c.settle.ensures.syncs.seen t)) written)
    (c.settle.ensures.settled t)
