use Rattle.vab_disk.proofs.CallLaws.{touches_then, touches_sync}
use Rattle.vab_merge.proofs.merge.copy_run.Goals as goal

pub returns-clause-touches : goal.returns-clause-touches
returns-clause-touches g c =
    touches_then g.D.Disk _ c.args.d.now c.copy_blocks.new.d c.settle.new.d
    c.copy_blocks.ensures.touches
    (touches_sync g.D.Disk _ c.copy_blocks.new.d c.settle.new.d c.settle.ensures.syncs)

pub copy_blocks-requires-clause-base_apart : goal.copy_blocks-requires-clause-base_apart
copy_blocks-requires-clause-base_apart g c = λ t. (c.requires.can t).base_apart

pub copy_blocks-requires-clause-disjoint : goal.copy_blocks-requires-clause-disjoint
copy_blocks-requires-clause-disjoint g c = λ t. (c.requires.can t).disjoint
