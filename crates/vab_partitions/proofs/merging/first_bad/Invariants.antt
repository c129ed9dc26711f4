use Rattle.vab_partitions.specs.Merging.{KeepsMerging}
use Rattle.vab_partitions.proofs.FrontLaws.{Stands}
use Rattle.vab_partitions.proofs.merging.first_bad.Given as goal

abbrev pub invariant-loop-part : goal.invariant-loop-part
invariant-loop-part l =
    Stands l.most l.slot (KeepsMerging l.slot l.target) l.target l.part-index l.front
