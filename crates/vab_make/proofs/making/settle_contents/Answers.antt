use Rattle.std.proofs.Common.{sym, subst}
use Rattle.vab_disk.specs.Disk.{Image}
use Rattle.vab_disk.proofs.CallLaws.{touches_then, touches_sync}
use Rattle.vab_bootctl.specs.Control.{KeepsRest}
use Rattle.vab_copies.proofs.Copying.{on_ok_always}
use Rattle.vab_make.specs.Steps.{HasAll, blanked}
use Rattle.vab_make.proofs.making.settle_contents.Goals as goal

pub returns-clause-touches : goal.returns-clause-touches
returns-clause-touches g c =
    touches_then g.D.Disk _ _ _ _ c.put_contents.ensures.touches
    (touches_sync g.D.Disk _ _ _ c.settle.ensures.syncs)

pub returns-clause-all : goal.returns-clause-all
returns-clause-all g c = λ t.
    on_ok_always c.settle.result _
    (subst (λ (i : Image). HasAll c.args.set.now c.args.max c.args.text.now i)
    (sym (c.settle.ensures.syncs.seen t)) (c.in_ok-put_contents.ensures.all t))

pub returns-clause-rest : goal.returns-clause-rest
returns-clause-rest g c = λ t.
    on_ok_always c.settle.result _
    (subst (λ (i : Image). KeepsRest (blanked (g.D.Disk.seen c.args.d.now 4)) (i 4))
    (sym (c.settle.ensures.syncs.seen t)) (c.in_ok-put_contents.ensures.rest t))
