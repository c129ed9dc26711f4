use Rattle.std.proofs.Common.{◌≡◌, ◌≢◌, ◌<◌, ◌≤◌, ℕ, List, length, inl, inr, ◌∙◌, arith, rules}
use Rattle.std.proofs.Common.{subst}
use Rattle.std.proofs.lemmas.Bool.{cases_lt}
use Rattle.vab_disk.proofs.CallLaws.{touches_on}
use Rattle.vab_store.specs.Layout.{chunk_bytes}
use Rattle.vab_space.specs.Chunks.{need_at}
use Rattle.vab_store.specs.Writing.{store_block, planned_of}
use Rattle.vab_store.proofs.ScanLaws.{scan_of_is}
use Rattle.vab_store.proofs.WrittenLaws.{written_scan, written_block}
use Rattle.vab_store.proofs.ChunkLaws.{apart_of, chunk_here, chunk_there, in_first}
use Rattle.vab_store.proofs.writer.write_store.Goals as goal

pub returns-in_err-write_at-clause-touches : goal.returns-in_err-write_at-clause-touches
returns-in_err-write_at-clause-touches g c =
    let n = c.loop-block.block in
    let map = c.args.map.now in
    let below : n < need_at (length c.args.olds.now) c.args.chunk =
    omega (arith, c.loop-block-test.true, c.need_at-block-end.ensures) in
    touches_on g.D.Disk _ _ _ _ _ _ c.loop-block.invariant.touches c.write_at.ensures.touches
    (λ s b w. w)
    (λ s b w. in_first map _ n c.store_block.result s b below w)

pub loop-block-preserved : goal.loop-block-preserved
loop-block-preserved g c =
    let n = c.loop-block.block in
    let map = c.args.map.now in
    let olds = c.args.olds.now in
    let image = c.args.image.now in
    let bytes : List ℕ = c.store_block.result in
    let old = g.D.Disk.seen c.loop-block.d in
    let new = g.D.Disk.seen c.write_at.new.d in
    let needed : n < need_at (length olds) c.args.chunk =
    omega (arith, c.loop-block-test.true, c.need_at-block-end.ensures) in
    let below : n < length map = omega (arith, needed, c.requires.room) in
    let long : length bytes ≡ 4096 = search rules in
    let ok = c.in_ok-write_at.ensures in
    record {
      holds = λ t k lt. elim (cases_lt k n) [
        | inl before ↦
            let other : k ≢ n = omega (arith, before) in
            chunk_there map old new n k bytes
            (apart_of map k n (c.requires.apart t) (omega (arith, before, below)) below other)
            (ok.written t)
            ∙ c.loop-block.invariant.holds t k before
        | inr last ↦
            let is : n ≡ k = omega (arith, last, lt) in
            subst (λ (j : ℕ). chunk_bytes map new j ≡ store_block c.args.chunk olds image j) is
            (chunk_here map old new n bytes long (ok.written t)
            ∙ c.store_block.ensures)
      ];
      touches = touches_on g.D.Disk _ _ _ _ _ _ c.loop-block.invariant.touches
          c.write_at.ensures.touches
          (λ s b w. w)
          (λ s b w. in_first map _ n bytes s b needed w);
      steady = ok.faults.steady ∙ c.loop-block.invariant.steady;
    }

pub returns-clause-scanned : goal.returns-clause-scanned
returns-clause-scanned g c = λ t bound below.
    let map = c.args.map.now in
    let olds = c.args.olds.now in
    let image = c.args.image.now in
    let disk = g.D.Disk.seen c.loop-block.d in
    let all : need_at (length olds) c.args.chunk ≤ c.loop-block.block =
    omega (arith, c.loop-block-test.false, c.need_at-block-end.ensures) in
    scan_of_is map bound disk (planned_of c.args.chunk olds)
    (written_scan c.args.chunk map olds image disk bound c.requires.room
    (λ k lt. c.loop-block.invariant.holds t k (omega (arith, lt, all)))
    c.requires.ascend below (λ i. omega (arith, c.type_inv.olds i)) (omega arith))

pub returns-clause-blocks : goal.returns-clause-blocks
returns-clause-blocks g c = λ t j r below inside.
    let map = c.args.map.now in
    let olds = c.args.olds.now in
    let image = c.args.image.now in
    let disk = g.D.Disk.seen c.loop-block.d in
    let all : need_at (length olds) c.args.chunk ≤ c.loop-block.block =
    omega (arith, c.loop-block-test.false, c.need_at-block-end.ensures) in
    written_block c.args.chunk map olds image disk j r
    (λ k lt. c.loop-block.invariant.holds t k (omega (arith, lt, all))) below inside
