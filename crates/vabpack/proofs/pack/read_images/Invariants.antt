use Rattle.std.proofs.Common.{take}
use Rattle.vabpack.specs.Packed.{AreImagesOf}
use Rattle.vabpack.proofs.pack.read_images.Given as goal

abbrev pub invariant-loop-entry : goal.invariant-loop-entry
invariant-loop-entry g l = AreImagesOf (g.S.Source.bytes_at l.source) (take l.entry-index l.entries)
    l.images.items
