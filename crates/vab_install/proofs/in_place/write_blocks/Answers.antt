use Rattle.std.proofs.Common.{◌≡◌, ◌≢◌, ◌<◌, ℕ, List, length, inl, inr, ◌∙◌, arith, rules}
use Rattle.std.proofs.Common.{subst}
use Rattle.std.proofs.lemmas.Bool.{cases_lt}
use Rattle.vab_disk.proofs.CallLaws.{touches_on}
use Rattle.vab_store.specs.Layout.{chunk_bytes}
use Rattle.vab_store.specs.Writing.{block_of}
use Rattle.vab_store.proofs.ChunkLaws.{apart_of, chunk_here, chunk_there, in_first}
use Rattle.vab_install.proofs.in_place.write_blocks.Goals as goal

pub returns-in_err-write_at-clause-touches : goal.returns-in_err-write_at-clause-touches
returns-in_err-write_at-clause-touches g c =
    let n = c.loop-block.block in
    let map = c.args.map.now in
    let below : n < length map =
    omega (arith, c.loop-block-test.true, c.len-block-end.ensures.count) in
    touches_on g.D.Disk _ _ _ _ _ _ c.loop-block.invariant.touches c.write_at.ensures.touches
    (λ s b w. w)
    (λ s b w. in_first map _ n c.image_block.result s b below w)

pub loop-block-preserved : goal.loop-block-preserved
loop-block-preserved g c =
    let n = c.loop-block.block in
    let map = c.args.map.now in
    let image = c.args.image.now in
    let bytes : List ℕ = c.image_block.result in
    let old = g.D.Disk.seen c.loop-block.d in
    let new = g.D.Disk.seen c.write_at.new.d in
    let below : n < length map =
    omega (arith, c.loop-block-test.true, c.len-block-end.ensures.count) in
    let long : length bytes ≡ 4096 = search rules in
    let ok = c.in_ok-write_at.ensures in
    record {
      holds = λ t k lt. elim (cases_lt k n) [
        | inl before ↦
            let other : k ≢ n = omega (arith, before) in
            chunk_there map old new n k bytes
            (apart_of map k n (c.requires.apart t) (omega (arith, before, below)) below other)
            (ok.written t)
            ∙ c.loop-block.invariant.holds t k before
        | inr last ↦
            let is : n ≡ k = omega (arith, last, lt) in
            subst (λ (j : ℕ). chunk_bytes map new j ≡ block_of image j) is
            (chunk_here map old new n bytes long (ok.written t) ∙ c.image_block.ensures)
      ];
      touches = touches_on g.D.Disk _ _ _ _ _ _ c.loop-block.invariant.touches
          c.write_at.ensures.touches
          (λ s b w. w)
          (λ s b w. in_first map _ n bytes s b below w);
      steady = ok.faults.steady ∙ c.loop-block.invariant.steady;
    }
