use Rattle.std.proofs.Common.{◌≡◌}
use Rattle.vab_gate.specs.Gate.{set_sectors, IsAmong}
use Rattle.vab_buffer.specs.Store.{OnlyWrites}
use Rattle.vab_buffer.proofs.sectorwise.write_sectors.Given as goal

abbrev pub invariant-loop-i : goal.invariant-loop-i
invariant-loop-i g l = record {
  seen : g.D.Disk.is_modelled
      → g.D.Disk.seen l.d ≡ set_sectors l.i (g.D.Disk.seen l.fn.d) l.at l.from;
  writes : OnlyWrites g.D.Disk (IsAmong l.i l.at l.from) l.fn.d l.d;
  steady : g.D.Disk.faults l.d ≡ g.D.Disk.faults l.fn.d;
}
