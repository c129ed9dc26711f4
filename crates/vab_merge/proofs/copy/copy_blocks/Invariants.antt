use Rattle.std.proofs.Common.{◌≡◌}
use Rattle.vab_disk.specs.Calls.{Touches, InSectors}
use Rattle.vab_merge.specs.Copied.{InCopied, AreCopied}
use Rattle.vab_merge.proofs.copy.copy_blocks.Given as goal

abbrev pub invariant-loop-j : goal.invariant-loop-j
invariant-loop-j g l = record {
  copied : g.D.Disk.is_modelled
      → AreCopied l.chunk l.base l.store l.view l.first l.j
      (g.D.Disk.seen l.fn.d) (g.D.Disk.seen l.d);
  touches : Touches g.D.Disk (InSectors (InCopied l.chunk l.base l.view l.first)) l.fn.d l.d;
  steady : g.D.Disk.faults l.d ≡ g.D.Disk.faults l.fn.d;
}
