use Rattle.std.proofs.Common.{ℕ, List, sym, subst}
use Rattle.vab_disk.specs.Disk.{Image}
use Rattle.vab_exceptions.specs.declared.area.Exception.{Exception}
use Rattle.vab_space.specs.declared.Chunk.{Chunk}
use Rattle.vab_space.specs.Chunks.{need_at}
use Rattle.vab_store.specs.View.{Fits}
use Rattle.vab_store.proofs.WrittenLaws.{planned_fits}
use Rattle.std.proofs.Common.{length}
use Rattle.vab_install.specs.Snapshot.{HoldsBlocks, EndsInZeros}
use Rattle.vab_install.proofs.SnapshotLaws.{base_stays, holds_blocks, ends_in_zeros}
use Rattle.vab_install.proofs.snapshot.write_snapshot.Goals as goal

pub returns-in-Ok-write_planned-clause-fits : goal.returns-in-Ok-write_planned-clause-fits
returns-in-Ok-write_planned-clause-fits g c = λ blocks below.
    let k : Chunk = c.args.chunk in
    subst (Fits k blocks c.args.store.now) (sym c.in-Ok.ensures)
    (planned_fits k c.args.olds.now c.args.store.now blocks c.requires.room c.requires.ascend below)

pub returns-in-Ok-write_planned-clause-holds : goal.returns-in-Ok-write_planned-clause-holds
returns-in-Ok-write_planned-clause-holds g c = λ t base blocks disjoint listed.
    let k : Chunk = c.args.chunk in
    let store : List ℕ = c.args.store.now in
    let staged : List ℕ = c.args.image.now in
    let olds : List ℕ = c.args.olds.now in
    let old : Image = g.D.Disk.seen c.args.d.now in
    let new : Image = g.D.Disk.seen c.write_planned.new.d in
    subst (λ (es : List Exception). HoldsBlocks k base store es new staged blocks)
    (sym c.in-Ok.ensures)
    (holds_blocks k store olds staged new (c.in-Ok-write_planned.ensures.blocks t) base old blocks
    listed
    (λ i below. base_stays base store (need_at (length olds) k) old new i disjoint c.requires.room
    (c.write_planned.ensures.touches.seen t) below))

pub returns-in-Ok-write_planned-clause-filled : goal.returns-in-Ok-write_planned-clause-filled
returns-in-Ok-write_planned-clause-filled g c = λ t blocks short.
    let k : Chunk = c.args.chunk in
    let new : Image = g.D.Disk.seen c.write_planned.new.d in
    subst (λ (es : List Exception). EndsInZeros k c.args.store.now es new blocks)
    (sym c.in-Ok.ensures)
    (ends_in_zeros k c.args.store.now c.args.olds.now c.args.image.now new
    (c.in-Ok-write_planned.ensures.blocks t) blocks short)
