use Rattle.std.proofs.Common.{◌≡◌, ◌≢◌, ◌<◌, ℕ, List, length, inl, inr, ◌∙◌, arith, rules, subst}
use Rattle.std.proofs.Common.{sym}
use Rattle.std.proofs.lemmas.Bool.{cases_lt}
use Rattle.vab_disk.proofs.CallLaws.{touches_on, touches_reads, touches_then}
use Rattle.vab_store.specs.Layout.{chunk_bytes}
use Rattle.vab_store.proofs.ChunkLaws.{apart_of, chunk_here, chunk_there, in_first}
use Rattle.vab_physical.proofs.CopyLaws.{other_same}
use Rattle.vab_physical.proofs.copying.copy_blocks.Goals as goal

pub returns-in_err-write_at-clause-touches : goal.returns-in_err-write_at-clause-touches
returns-in_err-write_at-clause-touches g c =
    let n = c.loop-block.block in
    let to = c.args.to.now in
    let below : n < length to =
    omega (arith, c.loop-block-test.true, c.len-block-end.ensures.count) in
    touches_on g.D.Disk _ _ _ _ _ _ c.loop-block.invariant.touches
    (touches_then g.D.Disk _ _ _ _ (touches_reads g.D.Disk _ _ _ c.in_ok-read_at.ensures.reads)
    c.write_at.ensures.touches)
    (λ s b w. w)
    (λ s b w. in_first to _ n c.read_at.new.out s b below w)

pub loop-block-preserved : goal.loop-block-preserved
loop-block-preserved g c =
    let n = c.loop-block.block in
    let from = c.args.from.now in
    let to = c.args.to.now in
    let bytes : List ℕ = c.read_at.new.out in
    let first = g.D.Disk.seen c.args.d.now in
    let start = g.D.Disk.seen c.loop-block.d in
    let mid = g.D.Disk.seen c.read_at.new.d in
    let new = g.D.Disk.seen c.write_at.new.d in
    let below : n < length to =
    omega (arith, c.loop-block-test.true, c.len-block-end.ensures.count) in
    let long : length bytes ≡ 4096 = search rules in
    let read = c.in_ok-read_at.ensures in
    let ok = c.in_ok-write_at.ensures in
    record {
      holds = λ t k lt. elim (cases_lt k n) [
        | inl before ↦
            let other : k ≢ n = omega (arith, before) in
            chunk_there to mid new n k bytes
            (apart_of to k n (c.requires.apart t) (omega (arith, before, below)) below other)
            (ok.written t)
            ∙ subst (λ image. chunk_bytes to image k ≡ chunk_bytes from first k)
            (sym (read.reads.seen t)) (c.loop-block.invariant.holds t k before)
        | inr last ↦
            let is : n ≡ k = omega (arith, last, lt) in
            subst (λ (j : ℕ). chunk_bytes to new j ≡ chunk_bytes from first j) is
            (chunk_here to mid new n bytes long (ok.written t)
            ∙ read.bytes t
            ∙ other_same from to first start n (c.requires.disjoint t)
            (c.loop-block.invariant.touches.seen t)
            (omega (arith, below, c.requires.fits)))
      ];
      touches = touches_on g.D.Disk _ _ _ _ _ _ c.loop-block.invariant.touches
          (touches_then g.D.Disk _ _ _ _ (touches_reads g.D.Disk _ _ _ read.reads)
          c.write_at.ensures.touches)
          (λ s b w. w)
          (λ s b w. in_first to _ n bytes s b below w);
      steady = ok.faults.steady ∙ read.faults.steady ∙ c.loop-block.invariant.steady;
    }
