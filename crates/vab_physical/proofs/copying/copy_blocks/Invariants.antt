use Rattle.std.proofs.Common.{◌≡◌, length}
use Rattle.vab_disk.specs.Calls.{Touches, InSectors}
use Rattle.vab_store.specs.Layout.{InFirst}
use Rattle.vab_physical.specs.Copy.{HoldsCopy}
use Rattle.vab_physical.proofs.copying.copy_blocks.Given as goal

abbrev pub invariant-loop-block : goal.invariant-loop-block
invariant-loop-block g l = record {
  holds : g.D.Disk.is_modelled
      → HoldsCopy l.from l.to (g.D.Disk.seen l.fn.d) (g.D.Disk.seen l.d) l.block;
  touches : Touches g.D.Disk (InSectors (InFirst l.to (length l.to))) l.fn.d l.d;
  steady : g.D.Disk.faults l.d ≡ g.D.Disk.faults l.fn.d;
}
