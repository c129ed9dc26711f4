use Rattle.vab_disk.proofs.CallLaws.{touches_then, touches_sync}
use Rattle.vab_merge.proofs.merge.clear_run.Goals as goal

pub returns-clause-touches : goal.returns-clause-touches
returns-clause-touches g c =
    touches_then g.D.Disk _ c.args.d.now c.clear_entries.new.d c.settle.new.d
    c.clear_entries.ensures.touches
    (touches_sync g.D.Disk _ c.clear_entries.new.d c.settle.new.d c.settle.ensures.syncs)
