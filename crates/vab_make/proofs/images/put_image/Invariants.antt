use Rattle.std.proofs.Common.{◌≡◌, ◌+◌, ◌*◌}
use Rattle.vab_disk.specs.Calls.{IsBetween, InSectors, Touches}
use Rattle.vab_make.specs.Steps.{HoldsBlocks}
use Rattle.vab_make.proofs.images.put_image.Given as goal

abbrev pub invariant-loop-k : goal.invariant-loop-k
invariant-loop-k g l = record {
  touches : Touches g.D.Disk (InSectors (IsBetween l.at (l.at + 8 * l.count))) l.fn.d l.d;
  steady : g.D.Disk.faults l.d ≡ g.D.Disk.faults l.fn.d;
  holds : g.D.Disk.is_modelled → HoldsBlocks l.k l.at l.bytes (g.D.Disk.seen l.d);
}
