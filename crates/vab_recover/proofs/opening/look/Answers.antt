use Rattle.std.proofs.Common.{◌∙◌}
use Rattle.vab_disk.proofs.CallLaws.{reads_then, failed_then}
use Rattle.vab_recover.proofs.opening.look.Goals as goal

pub returns-in-Err-prepare-clause-reads : goal.returns-in-Err-prepare-clause-reads
returns-in-Err-prepare-clause-reads g c =
    reads_then g.D.Disk c.args.d.now c.open.new.d c.prepare.new.d c.in-Ok.ensures.reads
    c.prepare.ensures.reads

pub returns-in-Err-prepare-clause-counts : goal.returns-in-Err-prepare-clause-counts
returns-in-Err-prepare-clause-counts g c =
    let steady = c.in-Ok.ensures.counts.steady in
    let counts = c.in-Err-prepare.ensures.counts in
    record {
      steady = tt;
      others = λ not. counts.others not ∙ steady;
      cause = λ of_disk.
          failed_then (g.D.Disk.faults c.args.d.now) (g.D.Disk.faults c.open.new.d)
          (g.D.Disk.faults c.prepare.new.d) steady (counts.cause of_disk);
    }
