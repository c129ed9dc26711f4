use Rattle.std.proofs.Common.{◌≡◌, ◌+◌, ◌*◌, take}
use Rattle.vab_disk.specs.Calls.{IsBetween, InSectors, Touches}
use Rattle.vab_make.specs.Made.{set_blocks}
use Rattle.vab_make.specs.Steps.{HoldsImages}
use Rattle.vab_make.proofs.images.put_images.Given as goal

abbrev pub invariant-loop-image : goal.invariant-loop-image
invariant-loop-image g l = record {
  place : l.at ≡ 6144 + 8 * set_blocks (take l.image-index l.set);
  touches : Touches g.D.Disk (InSectors (IsBetween 6144 (6144 + 8 * set_blocks l.set))) l.fn.d l.d;
  steady : g.D.Disk.faults l.d ≡ g.D.Disk.faults l.fn.d;
  holds : g.D.Disk.is_modelled → HoldsImages l.image-index l.set (g.D.Disk.seen l.d);
}
