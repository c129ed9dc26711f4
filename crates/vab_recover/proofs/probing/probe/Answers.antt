use Rattle.std.proofs.Common.{◌∙◌, Ok, sym, ap, subst}
use Rattle.vab_disk.specs.Disk.{Image}
use Rattle.vab_device.specs.declared.device.Device.{Device}
use Rattle.vab_device.specs.Kept.{IsDevice}
use Rattle.vab_device.specs.Mounted.{mounted_on}
use Rattle.vab_recover.proofs.ProbeLaws.{opened_means}
use Rattle.vab_recover.proofs.probing.probe.Goals as goal

pub returns-in-Ok-clause-device : goal.returns-in-Ok-clause-device
returns-in-Ok-clause-device g c = λ t.
    let size = g.D.Disk.size c.args.d.now in
    let old = g.D.Disk.seen c.args.d.now in
    opened_means c.in-Ok.device c.in-Ok.tables size old (c.in-Ok.ensures.opened t)
    ∙ ap (λ (k : Device). Ok (mounted_on k old)) (sym c.with_tables.ensures)
    ∙ ap (λ (i : Image). Ok (mounted_on c.with_tables.result i))
    (sym (c.in-Ok.ensures.reads.seen t))

pub returns-in-Ok-clause-kept : goal.returns-in-Ok-clause-kept
returns-in-Ok-clause-kept g c =
    subst (λ (k : Device). IsDevice k (g.D.Disk.size c.args.d.now)) (sym c.with_tables.ensures)
    c.in-Ok.ensures.kept
