use Rattle.vab_disk.specs.MemoryLaws.{leaves_settled_or_written, leaves_each_of_them}
use Rattle.vab_disk.proofs.memory.laws_of_memory.Goals as goal

pub returns-clause-written : goal.returns-clause-written
returns-clause-written c = leaves_settled_or_written

pub returns-clause-each : goal.returns-clause-each
returns-clause-each c = leaves_each_of_them
