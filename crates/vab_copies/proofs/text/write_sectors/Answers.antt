use Rattle.std.proofs.Common.{◌+◌, ◌<◌, ◌≤◌, ℕ, List, refl, ◌∙◌, arith}
use Rattle.vab_disk.specs.Disk.{set_sector, IsAt}
use Rattle.vab_disk.specs.Calls.{Touches}
use Rattle.vab_disk.proofs.CallLaws.{touches_none, touches_then, touches_wider}
use Rattle.vab_copies.specs.Copies.{IsOfText}
use Rattle.vab_copies.proofs.Sectors.{rest_none, rest_more, is_new}
use Rattle.vab_copies.proofs.text.write_sectors.Goals as goal

pub loop-i-init : goal.loop-i-init
loop-i-init g c = record {
  seen = λ t. rest_none c.args.from c.args.text.now (g.D.Disk.seen c.args.d.now) c.args.at;
  touches = touches_none g.D.Disk _ _;
  steady = refl;
}

pub sector_of-requires : goal.sector_of-requires
sector_of-requires g c = omega (arith, g.met.D.Disk.small c.args.d.now)

pub put_sector-requires : goal.put_sector-requires
put_sector-requires g c = omega (arith, c.loop-i.invariant.touches.quiet.size, c.requires.on_disk)

pub loop-i-preserved : goal.loop-i-preserved
loop-i-preserved g c =
    let i = c.loop-i.invariant in
    let old = g.D.Disk.seen c.args.d.now in
    let text = c.args.text.now in
    let at = c.args.at in
    let some : c.args.from ≤ c.loop-i.i = omega arith in
    let below : c.loop-i.i < c.args.count = omega arith in
    let ok = c.in_ok-put_sector.ensures in
    record {
      seen = λ t.
          ok.written t
          ∙ (λ j. set_sector (i.seen t j) (at + c.loop-i.i) (c.sector_of.ensures j))
          ∙ rest_more c.args.from text old at c.loop-i.i some;
      touches = touches_then g.D.Disk _ _ _ _ i.touches
          (touches_wider g.D.Disk _ _ _ _ c.put_sector.ensures.touches
          (λ s b is. is_new c.args.from text old at c.args.count c.loop-i.i some below s b
          (is.0, is.1 ∙ c.sector_of.ensures)));
      steady = ok.faults.steady ∙ i.steady;
    }

pub returns-in_err-put_sector-clause-touches : goal.returns-in_err-put_sector-clause-touches
returns-in_err-put_sector-clause-touches g c =
    let some : c.args.from ≤ c.loop-i.i = omega arith in
    let below : c.loop-i.i < c.args.count = omega arith in
    touches_then g.D.Disk _ _ _ _ c.loop-i.invariant.touches
    (touches_wider g.D.Disk _ _ _ _ c.put_sector.ensures.touches
    (λ s b is. is_new c.args.from c.args.text.now (g.D.Disk.seen c.args.d.now) c.args.at
    c.args.count
    c.loop-i.i some below s b (is.0, is.1 ∙ c.sector_of.ensures)))
