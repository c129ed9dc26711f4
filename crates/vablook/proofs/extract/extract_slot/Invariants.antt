use Rattle.vab_disk.specs.Calls.{OnlyReads}
use Rattle.vablook.proofs.extract.extract_slot.Given as goal

abbrev pub invariant-loop-part : goal.invariant-loop-part
invariant-loop-part g l = OnlyReads g.D.Disk l.fn.d l.d
