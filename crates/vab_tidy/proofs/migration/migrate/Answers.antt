use Rattle.std.proofs.Common.{subst}
use Rattle.vab_disk.specs.Disk.{Image}
use Rattle.vab_disk.proofs.CallLaws.{touches_then, touches_reads}
use Rattle.vab_tidy.specs.Migration.{IsOfMigration}
use Rattle.vab_tidy.proofs.RaiseLaws.{touches_where}
use Rattle.vab_tidy.proofs.migration.migrate.Goals as goal

pub returns-in-Ok-One-default-clause-touches : goal.returns-in-Ok-One-default-clause-touches
returns-in-Ok-One-default-clause-touches g c =
    touches_then g.D.Disk _ _ _ _
    (touches_reads g.D.Disk _ _ _ c.stored_mark.ensures.reads)
    (touches_where g.D.Disk (IsOfMigration (g.D.Disk.seen c.args.d.now)) _ _ _
    c.raise.ensures.touches
    (λ t s x. subst (λ (i : Image). IsOfMigration i s x) (c.stored_mark.ensures.reads.seen t)))
