use Rattle.std.proofs.Common.{◌≡◌, length}
use Rattle.vab_disk.specs.Calls.{Touches, InSectors}
use Rattle.vab_store.specs.Layout.{InFirst}
use Rattle.vab_install.specs.InPlace.{HoldsImage}
use Rattle.vab_install.proofs.in_place.write_blocks.Given as goal

abbrev pub invariant-loop-block : goal.invariant-loop-block
invariant-loop-block g l = record {
  holds : g.D.Disk.is_modelled → HoldsImage l.map l.image (g.D.Disk.seen l.d) l.block;
  touches : Touches g.D.Disk (InSectors (InFirst l.map (length l.map))) l.fn.d l.d;
  steady : g.D.Disk.faults l.d ≡ g.D.Disk.faults l.fn.d;
}
