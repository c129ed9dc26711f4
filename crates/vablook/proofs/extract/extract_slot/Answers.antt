use Rattle.vab_disk.proofs.CallLaws.{reads_none}
use Rattle.vablook.proofs.extract.extract_slot.Goals as goal

pub loop-part-init : goal.loop-part-init
loop-part-init g c = reads_none g.D.Disk c.args.d.now
