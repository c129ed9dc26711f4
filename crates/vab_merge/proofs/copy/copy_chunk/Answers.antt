use Rattle.std.proofs.Common.{◌≡◌, ◌+◌, ◌<◌, ◌∙◌, ℕ, List, length, ap, arith, rules, subst}
use Rattle.std.specs.Prelude.{slice_index}
use Rattle.vab_disk.proofs.CallLaws.{touches_on, touches_reads, touches_then}
use Rattle.vab_disk.specs.Calls.{Touches, InSectors}
use Rattle.vab_disk.specs.Disk.{Image}
use Rattle.vab_space.specs.declared.Chunk.{Chunk}
use Rattle.vab_space.specs.Chunks.{blocks_in, block_in}
use Rattle.vab_space.proofs.ChunkLaws.{block_inside}
use Rattle.vab_exceptions.specs.declared.area.Exception.{Exception}
use Rattle.vab_gate.specs.Gate.{set_block, IsAmong}
use Rattle.vab_store.specs.Layout.{chunk_bytes}
use Rattle.vab_merge.specs.Copied.{InChunk}
use Rattle.vab_merge.proofs.CopyLaws.{MayCopy, block_next, chunk_more, in_chunk}
use Rattle.vab_merge.proofs.copy.copy_chunk.Goals as goal

pub loop-place-preserved : goal.loop-place-preserved
loop-place-preserved g c =
    let i = c.loop-place.invariant in
    let k : Chunk = c.args.chunk in
    let base : List ℕ = c.args.base.now in
    let store : List ℕ = c.args.store.now in
    let e : Exception = c.args.exception in
    let n : ℕ = c.loop-place.place in
    let bytes : List ℕ = c.read_at.new.out in
    let long : length bytes ≡ 4096 = search rules in
    let inside : n < blocks_in k = omega
    (arith, c.loop-place-test.true, c.min-place-end.ensures, c.blocks-2.ensures.is) in
    let to_is : c.block_in-to.result + n ≡ block_in k e.old_chunk n = omega
    (arith, c.block_in-to.ensures, block_next k e.old_chunk n inside) in
    let from_is : c.block_in-from.result + n ≡ block_in k e.new_chunk n = omega
    (arith, c.block_in-from.ensures, block_next k e.new_chunk n inside) in
    let below : block_in k e.old_chunk n < length base = omega
    (arith, to_is, c.loop-place-test.true, c.min-place-end.ensures, c.len-blocks.ensures.count) in
    let read_touches : Touches g.D.Disk
    (InSectors (InChunk k base e.old_chunk)) c.args.d.now c.read_at.new.d =
    touches_then g.D.Disk _ _ _ _ i.touches
    (touches_reads g.D.Disk _ _ _ c.in_ok-read_at.ensures.reads) in
    record {
      copied = λ t.
          let mid : Image = g.D.Disk.seen c.loop-place.d in
          let may : MayCopy base store = record {
            apart = c.requires.base_apart t;
            disjoint = c.requires.disjoint t;
          } in
          chunk_more k base store e n (g.D.Disk.seen c.args.d.now) mid
          (g.D.Disk.seen c.write_at.new.d) bytes may inside below
          (block_inside k (length store) e.new_chunk n c.requires.new_chunk inside)
          (i.touches.seen t) (i.copied t)
          (c.in_ok-read_at.ensures.bytes t ∙ ap (chunk_bytes store mid) from_is)
          long
          (c.in_ok-write_at.ensures.written t
          ∙ ap (λ (o : Image). set_block o (slice_index base (c.block_in-to.result + n)) bytes)
          (c.in_ok-read_at.ensures.reads.seen t)
          ∙ ap (λ (b : ℕ). set_block mid (slice_index base b) bytes) to_is);
      touches = touches_on g.D.Disk _ _ _ _ _ _ read_touches c.write_at.ensures.touches
          (λ s b w. w)
          (λ s b w. in_chunk k base e.old_chunk n bytes s b inside below
          (subst (λ (m : ℕ). IsAmong 8 (slice_index base m) bytes s b) to_is w));
      steady = c.in_ok-write_at.ensures.faults.steady ∙ c.in_ok-read_at.ensures.faults.steady
          ∙ i.steady;
    }

pub returns-in_err-write_at-clause-touches : goal.returns-in_err-write_at-clause-touches
returns-in_err-write_at-clause-touches g c =
    let i = c.loop-place.invariant in
    let k : Chunk = c.args.chunk in
    let base : List ℕ = c.args.base.now in
    let e : Exception = c.args.exception in
    let n : ℕ = c.loop-place.place in
    let bytes : List ℕ = c.read_at.new.out in
    let inside : n < blocks_in k = omega
    (arith, c.loop-place-test.true, c.min-place-end.ensures, c.blocks-2.ensures.is) in
    let to_is : c.block_in-to.result + n ≡ block_in k e.old_chunk n = omega
    (arith, c.block_in-to.ensures, block_next k e.old_chunk n inside) in
    let below : block_in k e.old_chunk n < length base = omega
    (arith, to_is, c.loop-place-test.true, c.min-place-end.ensures, c.len-blocks.ensures.count) in
    let read_touches : Touches g.D.Disk
    (InSectors (InChunk k base e.old_chunk)) c.args.d.now c.read_at.new.d =
    touches_then g.D.Disk _ _ _ _ i.touches
    (touches_reads g.D.Disk _ _ _ c.in_ok-read_at.ensures.reads) in
    touches_on g.D.Disk _ _ _ _ _ _ read_touches c.write_at.ensures.touches
    (λ s b w. w)
    (λ s b w. in_chunk k base e.old_chunk n bytes s b inside below
    (subst (λ (m : ℕ). IsAmong 8 (slice_index base m) bytes s b) to_is w))
