use Rattle.std.proofs.Common.{◌≡◌, ◌+◌, ◌-◌, ◌*◌, ℕ, take, drop, inr, ap, ◌∙◌, arith}
use Rattle.vab_disk.specs.Disk.{IsAt, set_sector}
use Rattle.vab_disk.proofs.CallLaws.{set_same_but}
use Rattle.vab_gate.specs.Gate.{part}
use Rattle.vab_gate.proofs.Blocks.{set_more, among_more, among_new, among_all}
use Rattle.vab_buffer.specs.Store.{OnlyWrites}
use Rattle.vab_buffer.proofs.Runs.{writes_on}
use Rattle.vab_buffer.proofs.sectorwise.write_sectors.Goals as goal

pub loop-i-preserved : goal.loop-i-preserved
loop-i-preserved g c =
    let i = c.loop-i.invariant in
    let n = c.loop-i.i in
    let at = c.args.at in
    let from = c.args.from.now in
    let size : 512 * n + 512 - 512 * n ≡ 512 = omega arith in
    let is : c.copy_from_slice.new.self ≡ part n from =
    c.copy_from_slice.ensures.after ∙ ap (λ (k : ℕ). take k (drop (512 * n) from)) size in
    let ok = c.in_ok-write_sector.ensures in
    let wrote : OnlyWrites g.D.Disk (IsAt (at + n) c.copy_from_slice.new.self) c.loop-i.d
    c.write_sector.new.self =
    record {
      quiet = ok.quiet;
      seen = λ t. set_same_but _ _ _ _ (inr (ok.written t));
      crash = ok.crash;
      time = ok.time;
    } in
    record {
      seen = λ t.
          ok.written t
          ∙ ap (λ b. set_sector (g.D.Disk.seen c.loop-i.d) (at + n) b) is
          ∙ ap (λ image. set_sector image (at + n) (part n from)) (i.seen t)
          ∙ set_more n (g.D.Disk.seen c.args.d.now) at from;
      writes = writes_on g.D.Disk _ _ _ _ _ _ i.writes wrote
          (among_more n at from)
          (λ s b here. among_new n at from s b (here.0, here.1 ∙ is));
      steady = ok.steady ∙ i.steady;
    }

pub returns-in_err-write_sector-clause-writes : goal.returns-in_err-write_sector-clause-writes
returns-in_err-write_sector-clause-writes g c =
    let n = c.loop-i.i in
    let at = c.args.at in
    let from = c.args.from.now in
    let size : 512 * n + 512 - 512 * n ≡ 512 = omega arith in
    let is : c.copy_from_slice.new.self ≡ part n from =
    c.copy_from_slice.ensures.after ∙ ap (λ (k : ℕ). take k (drop (512 * n) from)) size in
    let err = c.in_err-write_sector.ensures in
    let wrote : OnlyWrites g.D.Disk (IsAt (at + n) c.copy_from_slice.new.self) c.loop-i.d
    c.write_sector.new.self =
    record {
      quiet = err.quiet;
      seen = λ t. set_same_but _ _ _ _ (err.failed t);
      crash = err.crash;
      time = err.time;
    } in
    writes_on g.D.Disk _ _ _ _ _ _ c.loop-i.invariant.writes wrote
    (λ s b among. among_all n _ at from s b (omega arith) among)
    (λ s b here. among_all (n + 1) _ at from s b (omega arith)
    (among_new n at from s b (here.0, here.1 ∙ is)))
