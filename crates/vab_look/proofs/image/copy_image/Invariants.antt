use Rattle.vab_disk.specs.Calls.{OnlyReads}
use Rattle.vab_look.proofs.image.copy_image.Given as goal

abbrev pub invariant-loop-block : goal.invariant-loop-block
invariant-loop-block g l = OnlyReads g.D.Disk l.fn.d l.d
