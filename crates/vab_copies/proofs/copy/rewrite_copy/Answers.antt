use Rattle.std.proofs.Common.{◌∙◌}
use Rattle.vab_disk.proofs.CallLaws.{touches_then, touches_sync}
use Rattle.vab_copies.proofs.Copying.{rest_whole, on_ok_always}
use Rattle.vab_copies.proofs.copy.rewrite_copy.Goals as goal

pub returns-clause-written : goal.returns-clause-written
returns-clause-written g c = λ t.
    on_ok_always c.settle.result _
    (c.settle.ensures.syncs.seen t
    ∙ c.in_ok-write_sectors.ensures.written t
    ∙ rest_whole c.args.count c.args.at c.args.text.now (g.D.Disk.seen c.args.d.now))

pub returns-clause-touches : goal.returns-clause-touches
returns-clause-touches g c =
    touches_then g.D.Disk _ _ _ _ c.write_sectors.ensures.touches
    (touches_sync g.D.Disk _ _ _ c.settle.ensures.syncs)
