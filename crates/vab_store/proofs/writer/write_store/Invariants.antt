use Rattle.std.proofs.Common.{◌≡◌, length}
use Rattle.vab_disk.specs.Calls.{Touches, InSectors}
use Rattle.vab_space.specs.Chunks.{need_at}
use Rattle.vab_store.specs.Layout.{InFirst}
use Rattle.vab_store.specs.Writing.{HoldsStore}
use Rattle.vab_store.proofs.writer.write_store.Given as goal

abbrev pub invariant-loop-block : goal.invariant-loop-block
invariant-loop-block g l = record {
  holds : g.D.Disk.is_modelled
      → HoldsStore l.chunk l.map l.olds l.image (g.D.Disk.seen l.d) l.block;
  touches : Touches g.D.Disk
      (InSectors (InFirst l.map (need_at (length l.olds) l.chunk))) l.fn.d l.d;
  steady : g.D.Disk.faults l.d ≡ g.D.Disk.faults l.fn.d;
}
