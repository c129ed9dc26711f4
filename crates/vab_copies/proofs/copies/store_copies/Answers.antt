use Rattle.std.proofs.Common.{◌≡◌, ◌∙◌, ap, subst}
use Rattle.vab_disk.proofs.Moments.{adds_on, adds_wider}
use Rattle.vab_disk.proofs.CallLaws.{touches_wider, touches_on}
use Rattle.vab_copies.proofs.Pair.{of_primary, of_backup, primary_written, backup_written}
use Rattle.vab_copies.proofs.copies.store_copies.Goals as goal

pub returns-in_err-write_copy-clause-touches : goal.returns-in_err-write_copy-clause-touches
returns-in_err-write_copy-clause-touches g c =
    touches_wider g.D.Disk _ _ _ _ c.write_copy.ensures.touches
    (of_primary c.args.count c.args.primary c.args.backup c.args.text.now)

pub returns-in_err-write_copy-clause-copies : goal.returns-in_err-write_copy-clause-copies
returns-in_err-write_copy-clause-copies g c = λ t rest.
    adds_wider g.D.Disk.moment g.D.Disk.outcomes _ _ _ _ (c.write_copy.ensures.copy t rest)
    (primary_written c.args.count c.args.primary c.args.backup c.args.text.now c.requires.apart _
    (g.D.Disk.seen c.args.d.now))

pub returns-clause-touches : goal.returns-clause-touches
returns-clause-touches g c =
    touches_on g.D.Disk _ _ _ _ _ _ c.write_copy.ensures.touches c.write_copy-2.ensures.touches
    (of_primary c.args.count c.args.primary c.args.backup c.args.text.now)
    (of_backup c.args.count c.args.primary c.args.backup c.args.text.now)

pub returns-clause-copies : goal.returns-clause-copies
returns-clause-copies g c = λ t rest.
    adds_on g.D.Disk.moment g.D.Disk.outcomes _ _ _ _ _
    (adds_wider g.D.Disk.moment g.D.Disk.outcomes _ _ _ _ (c.write_copy.ensures.copy t rest)
    (primary_written c.args.count c.args.primary c.args.backup c.args.text.now c.requires.apart _
    (g.D.Disk.seen c.args.d.now)))
    (c.write_copy-2.ensures.copy t (c.in_ok-write_copy.ensures.settled t))
    (backup_written c.args.count c.args.primary c.args.backup c.args.text.now c.requires.apart _
    (g.D.Disk.seen c.args.d.now) _ _ (c.write_copy.ensures.touches.quiet.told t)
    (c.in_ok-write_copy.ensures.written t))
