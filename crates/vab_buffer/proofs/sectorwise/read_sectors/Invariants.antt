use Rattle.std.proofs.Common.{◌≡◌, ◌*◌, length, take}
use Rattle.vab_disk.specs.Calls.{OnlyReads}
use Rattle.vab_gate.specs.Gate.{sectors_at}
use Rattle.vab_buffer.proofs.sectorwise.read_sectors.Given as goal

abbrev pub invariant-loop-i : goal.invariant-loop-i
invariant-loop-i g l = record {
  long : length l.out ≡ length l.fn.out;
  bytes : g.D.Disk.is_modelled
      → take (512 * l.i) l.out ≡ sectors_at l.i (g.D.Disk.seen l.fn.d) l.at;
  reads : OnlyReads g.D.Disk l.fn.d l.d;
  steady : g.D.Disk.faults l.d ≡ g.D.Disk.faults l.fn.d;
}
