use Rattle.vab_disk.proofs.CallLaws.{reads_none}
use Rattle.vab_look.proofs.image.copy_image.Goals as goal

pub loop-block-init : goal.loop-block-init
loop-block-init g c = reads_none g.D.Disk c.args.d.now
