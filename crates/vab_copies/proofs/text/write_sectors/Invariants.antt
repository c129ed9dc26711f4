use Rattle.std.proofs.Common.{◌≡◌}
use Rattle.vab_disk.specs.Calls.{Touches}
use Rattle.vab_copies.specs.Copies.{with_rest, IsOfText}
use Rattle.vab_copies.proofs.text.write_sectors.Given as goal

abbrev pub invariant-loop-i : goal.invariant-loop-i
invariant-loop-i g l = record {
  seen : g.D.Disk.is_modelled
      → g.D.Disk.seen l.d ≡ with_rest l.from l.i l.text (g.D.Disk.seen l.fn.d) l.at;
  touches : Touches g.D.Disk (IsOfText l.from l.count l.at l.text) l.fn.d l.d;
  steady : g.D.Disk.faults l.d ≡ g.D.Disk.faults l.fn.d;
}
