use Rattle.std.proofs.Common.{◌≡◌, ◌*◌, length}
use Rattle.vab_disk.specs.Calls.{OnlyReads}
use Rattle.vab_gate.specs.Gate.{sectors_at}
use Rattle.vab_copies.proofs.read.read_text.Given as goal

abbrev pub invariant-loop-i : goal.invariant-loop-i
invariant-loop-i g l = record {
  text : g.D.Disk.is_modelled → l.text.items ≡ sectors_at l.i (g.D.Disk.seen l.fn.d) l.at;
  long : length l.text.items ≡ 512 * l.i;
  reads : OnlyReads g.D.Disk l.fn.d l.d;
  steady : g.D.Disk.faults l.d ≡ g.D.Disk.faults l.fn.d;
}
