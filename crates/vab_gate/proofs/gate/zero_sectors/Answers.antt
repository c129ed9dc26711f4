use Rattle.std.proofs.Common.{◌≡◌, ◌+◌, ◌<◌, ℕ, inl, inr, refl, ◌∙◌, arith, rules}
use Rattle.std.proofs.lemmas.Bool.{cases_eq}
use Rattle.vab_disk.specs.Calls.{IsBetween}
use Rattle.vab_disk.proofs.CallLaws.{touches_none, touches_then, touches_wider, wrote_here}
use Rattle.vab_disk.proofs.CallLaws.{wrote_there}
use Rattle.vab_gate.proofs.gate.zero_sectors.Goals as goal

pub loop-i-init : goal.loop-i-init
loop-i-init g c = record {
  touches = touches_none g.D.Disk _ _;
  zeros = λ t s is. absurd (omega (arith, is.from, is.below));
  steady = refl;
}

pub put_sector-requires : goal.put_sector-requires
put_sector-requires g c = omega (arith, c.loop-i.invariant.touches.quiet.size, c.requires)

wider : (first i count s : ℕ) → i < count → s ≡ first + i → IsBetween first (first + count) s
wider first i count s lt is = record { from = omega arith; below = omega arith }

pub loop-i-preserved : goal.loop-i-preserved
loop-i-preserved g c =
    let old = g.D.Disk.seen c.loop-i.d in
    let new = g.D.Disk.seen c.put_sector.new.d in
    let at = c.args.first + c.loop-i.i in
    record {
      touches = touches_then g.D.Disk _ _ _ _ c.loop-i.invariant.touches
          (touches_wider g.D.Disk _ _ _ _ c.put_sector.ensures.touches
          (λ s b is. wider c.args.first c.loop-i.i c.args.count s (omega arith) is.0));
      zeros = λ t s is. elim (cases_eq s at) [
        | inl here ↦ wrote_here old new at _ (c.in_ok-put_sector.ensures.written t) s here
        | inr other ↦
            wrote_there old new at _ (c.in_ok-put_sector.ensures.written t) s other
            ∙ c.loop-i.invariant.zeros t s
            (record { from = is.from; below = omega (arith, is.below, is.from) })
      ];
      steady = c.in_ok-put_sector.ensures.faults.steady ∙ c.loop-i.invariant.steady;
    }
