use Rattle.std.proofs.Common.{◌≡◌, ◌+◌, ◌++◌, length, refl, ap, ◌∙◌, sym, rules, arith}
use Rattle.std.proofs.Common.{length-append}
use Rattle.vab_disk.specs.Disk.{Image}
use Rattle.vab_disk.proofs.CallLaws.{reads_none, reads_then}
use Rattle.vab_gate.specs.Gate.{sectors_at}
use Rattle.vab_copies.proofs.CopyLaws.{sectors_more}
use Rattle.vab_copies.proofs.read.read_text.Goals as goal

pub loop-i-init : goal.loop-i-init
unfolding sectors_at
loop-i-init g c = record {
  text = search rules;
  long = search rules;
  reads = reads_none g.D.Disk _;
  steady = refl;
}

pub get_sector-requires : goal.get_sector-requires
get_sector-requires g c = omega (arith, c.loop-i.invariant.reads.quiet.size, c.requires)

pub loop-i-preserved : goal.loop-i-preserved
loop-i-preserved g c =
    let i = c.loop-i.invariant in
    let more : c.extend_from_slice.new.self.items ≡ c.loop-i.text.items ++ c.get_sector.new.out =
    search rules in
    let whole : length c.get_sector.new.out ≡ 512 = search rules in
    let read = λ (t : g.D.Disk.is_modelled).
    c.in_ok-get_sector.ensures.bytes t
    ∙ ap (λ (image : Image). image (c.args.at + c.loop-i.i)) (i.reads.seen t) in
    record {
      text = λ t.
          more
          ∙ (λ j. i.text t j ++ read t j)
          ∙ sym (sectors_more c.loop-i.i (g.D.Disk.seen c.args.d.now) c.args.at);
      long =
          ap length more
          ∙ omega (arith, length-append c.loop-i.text.items c.get_sector.new.out, i.long, whole);
      reads = reads_then g.D.Disk _ _ _ i.reads c.get_sector.ensures.reads;
      steady = c.in_ok-get_sector.ensures.faults.steady ∙ i.steady;
    }

pub returns-in_err-get_sector-clause-reads : goal.returns-in_err-get_sector-clause-reads
returns-in_err-get_sector-clause-reads g c =
    reads_then g.D.Disk _ _ _ c.loop-i.invariant.reads c.get_sector.ensures.reads
