use Rattle.vab_partitions.specs.Target.{KeepsAlone}
use Rattle.vab_partitions.proofs.FrontLaws.{Stands}
use Rattle.vab_partitions.proofs.target.first_bad.Given as goal

abbrev pub invariant-loop-part : goal.invariant-loop-part
invariant-loop-part l =
    Stands l.most l.slot (KeepsAlone l.slot l.twins l.source l.target) l.target l.part-index l.front
