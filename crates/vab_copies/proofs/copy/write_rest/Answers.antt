use Rattle.std.proofs.Common.{◌≡◌, ◌∙◌, ℕ, sym, ap, subst}
use Rattle.std.specs.Prelude.{OnOk}
use Rattle.vab_disk.specs.Disk.{Image}
use Rattle.vab_disk.proofs.CallLaws.{touches_none, touches_then, touches_sync}
use Rattle.vab_copies.specs.Copies.{with_rest}
use Rattle.vab_copies.proofs.Copying.{on_ok_always}
use Rattle.vab_copies.proofs.Sectors.{rest_none}
use Rattle.vab_copies.proofs.copy.write_rest.Goals as goal

pub returns-then-count-eq1-clause-written : goal.returns-then-count-eq1-clause-written
returns-then-count-eq1-clause-written g c = λ t.
    rest_none 1 c.args.text.now (g.D.Disk.seen c.args.d.now) c.args.at
    ∙ ap (λ (n : ℕ). with_rest 1 n c.args.text.now (g.D.Disk.seen c.args.d.now) c.args.at)
    (sym c.if-count-eq1.true)

pub returns-then-count-eq1-clause-touches : goal.returns-then-count-eq1-clause-touches
returns-then-count-eq1-clause-touches g c = touches_none g.D.Disk _ _

pub returns-clause-written : goal.returns-clause-written
returns-clause-written g c = λ t.
    on_ok_always c.settle.result _
    (c.settle.ensures.syncs.seen t ∙ c.in_ok-write_sectors.ensures.written t)

pub returns-clause-touches : goal.returns-clause-touches
returns-clause-touches g c =
    touches_then g.D.Disk _ _ _ _ c.write_sectors.ensures.touches
    (touches_sync g.D.Disk _ _ _ c.settle.ensures.syncs)
