use Rattle.std.proofs.Common.{◌≡◌}
use Rattle.vab_disk.specs.Calls.{Touches, InSectors}
use Rattle.vab_merge.specs.Copied.{InChunk}
use Rattle.vab_merge.proofs.CopyLaws.{FirstCopied}
use Rattle.vab_merge.proofs.copy.copy_chunk.Given as goal

abbrev pub invariant-loop-place : goal.invariant-loop-place
invariant-loop-place g l = record {
  copied : g.D.Disk.is_modelled
      → FirstCopied l.fn.chunk l.base l.store l.fn.exception l.place
      (g.D.Disk.seen l.fn.d) (g.D.Disk.seen l.d);
  touches : Touches g.D.Disk
      (InSectors (InChunk l.fn.chunk l.base l.fn.exception.old_chunk)) l.fn.d l.d;
  steady : g.D.Disk.faults l.d ≡ g.D.Disk.faults l.fn.d;
}
