use Rattle.vab_partitions.proofs.OwnLaws.{Stands}
use Rattle.vab_partitions.proofs.own.bad_partition.Given as goal

abbrev pub invariant-loop-partition : goal.invariant-loop-partition
invariant-loop-partition l = Stands l.most l.slot l.table l.partition-index l.seen l.count
