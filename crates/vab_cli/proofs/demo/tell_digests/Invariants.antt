use Rattle.std.proofs.Common.{Ok, map, take}
use Rattle.vab_cli.specs.Acts.{DoesActs}
use Rattle.vab_cli.specs.Demo.{digest_act, digest_order}
use Rattle.vab_cli.proofs.demo.tell_digests.Given as goal

abbrev pub invariant-loop-image : goal.invariant-loop-image
invariant-loop-image g l =
    DoesActs g.P.Disk l.fn.device (map digest_act (take l.image-index l.set))
    (map digest_order (take l.image-index l.set)) l.fn.port l.port (Ok l.next)
