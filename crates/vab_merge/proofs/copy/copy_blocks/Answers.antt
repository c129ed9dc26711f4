use Rattle.std.proofs.Common.{◌≤◌, ◌<◌, ◌∙◌, ℕ, List, length, refl, arith, subst}
use Rattle.vab_disk.proofs.CallLaws.{touches_none, touches_on}
use Rattle.vab_disk.specs.Calls.{SameBut, InSectors}
use Rattle.vab_disk.specs.Disk.{Image}
use Rattle.vab_space.specs.declared.Chunk.{Chunk}
use Rattle.vab_exceptions.specs.declared.area.Exception.{Exception}
use Rattle.vab_merge.specs.Copied.{InChunk, IsCopied}
use Rattle.vab_merge.proofs.CopyLaws.{MayCopy, copied_more, in_copied}
use Rattle.vab_merge.proofs.copy.copy_blocks.Goals as goal

pub loop-j-init : goal.loop-j-init
loop-j-init g c = record {
  copied = λ t j from below. absurd (omega (arith, from, below));
  touches = touches_none g.D.Disk _ _;
  steady = refl;
}

pub loop-j-preserved : goal.loop-j-preserved
loop-j-preserved g c =
    let i = c.loop-j.invariant in
    let k : Chunk = c.args.chunk in
    let base : List ℕ = c.args.base.now in
    let store : List ℕ = c.args.store.now in
    let es : List Exception = c.args.view.now in
    let first : ℕ = c.args.first in
    let n : ℕ = c.loop-j.j in
    let within : n < length es = omega (arith, c.loop-j-test.true, c.count-j-end.ensures) in
    let behind : first ≤ n = omega arith in
    record {
      copied = λ t.
          let mid : Image = g.D.Disk.seen c.loop-j.d in
          let new : Image = g.D.Disk.seen c.copy_chunk.new.d in
          let may : MayCopy base store = record {
            apart = c.requires.base_apart t;
            disjoint = c.requires.disjoint t;
          } in
          copied_more k base store es first n (g.D.Disk.seen c.args.d.now) mid new may
          c.requires.fits behind within (i.touches.seen t) (i.copied t)
          (subst (λ (e : Exception). SameBut (InSectors (InChunk k base e.old_chunk)) mid new)
          c.at.ensures (c.copy_chunk.ensures.touches.seen t))
          (subst (λ (e : Exception). IsCopied k base store e mid new)
          c.at.ensures (c.in_ok-copy_chunk.ensures.copied t));
      touches = touches_on g.D.Disk _ _ _ _ _ _ i.touches c.copy_chunk.ensures.touches
          (λ s b w. w)
          (λ s b w. in_copied k base es first n s behind within
          (subst (λ (e : Exception). InChunk k base e.old_chunk s) c.at.ensures w));
      steady = c.in_ok-copy_chunk.ensures.faults.steady ∙ i.steady;
    }

pub returns-in_err-copy_chunk-clause-touches : goal.returns-in_err-copy_chunk-clause-touches
returns-in_err-copy_chunk-clause-touches g c =
    let i = c.loop-j.invariant in
    let k : Chunk = c.args.chunk in
    let base : List ℕ = c.args.base.now in
    let es : List Exception = c.args.view.now in
    let first : ℕ = c.args.first in
    let n : ℕ = c.loop-j.j in
    let within : n < length es = omega (arith, c.loop-j-test.true, c.count-j-end.ensures) in
    let behind : first ≤ n = omega arith in
    touches_on g.D.Disk _ _ _ _ _ _ i.touches c.copy_chunk.ensures.touches
    (λ s b w. w)
    (λ s b w. in_copied k base es first n s behind within
    (subst (λ (e : Exception). InChunk k base e.old_chunk s) c.at.ensures w))
