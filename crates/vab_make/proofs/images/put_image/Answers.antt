use Rattle.std.proofs.Common.{◌+◌, ◌*◌, ◌<◌, ℕ, List, refl, arith, ◌∙◌}
use Rattle.vab_disk.specs.Calls.{IsBetween}
use Rattle.vab_disk.proofs.CallLaws.{touches_none, touches_then, touches_wider}
use Rattle.vab_gate.specs.Gate.{IsAmong}
use Rattle.vab_make.proofs.Parts.{holds_more}
use Rattle.vab_make.proofs.images.put_image.Goals as goal

-- a block among them
wider : (at k count : ℕ) (bytes : List ℕ) (s : ℕ) (b : List ℕ)
    → k < count
    → IsAmong 8 (at + 8 * k) bytes s b
    → IsBetween at (at + 8 * count) s
wider at k count bytes s b lt is = record {
  from = omega (arith, is.first);
  below = omega (arith, is.last, lt);
}

pub loop-k-init : goal.loop-k-init
loop-k-init g c = record {
  touches = touches_none g.D.Disk _ _;
  steady = refl;
  holds = λ t k below. absurd (omega arith);
}

pub block_of-requires : goal.block_of-requires
block_of-requires g c = omega (arith, g.met.D.Disk.small c.args.d.now)

pub put_block-requires : goal.put_block-requires
put_block-requires g c = omega (arith, c.loop-k.invariant.touches.quiet.size, c.requires)

pub loop-k-preserved : goal.loop-k-preserved
loop-k-preserved g c =
    let i = c.loop-k.invariant in
    let ok = c.in_ok-put_block.ensures in
    let old = g.D.Disk.seen c.loop-k.d in
    let new = g.D.Disk.seen c.put_block.new.d in
    record {
      touches = touches_then g.D.Disk _ _ _ _ i.touches
          (touches_wider g.D.Disk _ _ _ _ c.put_block.ensures.touches
          (λ s b is. wider c.args.at c.loop-k.k c.args.count _ s b (omega arith) is));
      steady = ok.faults.steady ∙ i.steady;
      holds = λ t.
          holds_more c.loop-k.k c.args.at c.args.bytes.now c.block_of.result old new (ok.written t)
          c.block_of.ensures (i.holds t);
    }

pub returns-in_err-put_block-clause-touches : goal.returns-in_err-put_block-clause-touches
returns-in_err-put_block-clause-touches g c =
    touches_then g.D.Disk _ _ _ _ c.loop-k.invariant.touches
    (touches_wider g.D.Disk _ _ _ _ c.put_block.ensures.touches
    (λ s b is. wider c.args.at c.loop-k.k c.args.count _ s b (omega arith) is))
