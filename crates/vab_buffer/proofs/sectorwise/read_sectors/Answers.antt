use Rattle.std.proofs.Common.{◌≡◌, ◌+◌, ◌-◌, ◌*◌, ◌≤◌, length, refl, ap, ◌∙◌, arith, rules}
use Rattle.vab_disk.specs.Calls.{OnlyReads}
use Rattle.vab_disk.proofs.CallLaws.{reads_none, reads_then}
use Rattle.vab_gate.specs.Gate.{sectors_at}
use Rattle.vab_gate.proofs.Blocks.{read_more, length-put_mid}
use Rattle.vab_buffer.proofs.sectorwise.read_sectors.Goals as goal

pub loop-i-init : goal.loop-i-init
unfolding sectors_at
loop-i-init g c = record {
  long = refl;
  bytes = λ t. refl;
  reads = reads_none g.D.Disk _;
  steady = refl;
}

pub loop-i-preserved : goal.loop-i-preserved
loop-i-preserved g c =
    let i = c.loop-i.invariant in
    let at = 512 * c.loop-i.i in
    let long : at + 512 ≤ length c.loop-i.out = omega (arith, i.long, c.requires.whole) in
    let before : at ≤ length c.loop-i.out = omega (arith, long) in
    let sector : length c.copy_from_slice.new.self ≡ 512 = search rules in
    let ok = c.in_ok-read_sector.ensures in
    let read : OnlyReads g.D.Disk c.loop-i.d c.read_sector.new.self = record {
      quiet = ok.quiet;
      seen = ok.seen;
      crash = ok.crash;
      time = ok.time;
    } in
    record {
      long =
          length-put_mid at (at + 512 - at) c.loop-i.out c.copy_from_slice.new.self
          (omega (arith, long)) (omega (arith, sector))
          ∙ i.long;
      bytes = λ t. read_more _ _ c.loop-i.i _ _ _ before sector (i.bytes t)
          (c.copy_from_slice.ensures.after
          ∙ ok.bytes t
          ∙ ap (λ image. image (c.args.at + c.loop-i.i)) (i.reads.seen t));
      reads = reads_then g.D.Disk _ _ _ i.reads read;
      steady = ok.steady ∙ i.steady;
    }
