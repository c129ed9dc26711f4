use Rattle.std.proofs.Common.{◌≡◌, ◌∙◌, inl, Result, Ok, Err, sym, ap, subst, arith}
use Rattle.std.specs.Prelude.{OnOk}
use Rattle.vab_disk.specs.Calls.{OnlyReads}
use Rattle.vab_disk.proofs.CallLaws.{quiet_then, touches_on, touches_wider}
use Rattle.vab_disk.proofs.Moments.{adds_on, adds_wider}
use Rattle.vab_marks.specs.Mark.{mark_of}
use Rattle.vab_device.specs.Reading.{Reads, SameRead, device, version_at}
use Rattle.vab_device.proofs.ReadingLaws.{device_same}
use Rattle.vab_device.proofs.SameLaws.{mark_same}
use Rattle.vab_tidy.specs.Migration.{IsOfMigration}
use Rattle.vab_tidy.proofs.StaysLaws.{leaves_before}
use Rattle.vab_recover.specs.Opened.{with_tables}
use Rattle.vab_recover.specs.Opening.{IsOfMending}
use Rattle.vab_recover.specs.Repairs.{IsRepair}
use Rattle.vab_recover.proofs.MendLaws.{mark_stays, repair_keeps}
use Rattle.vab_recover.proofs.MigrateLaws.{migrated_represents, migration_before}
use Rattle.vab_recover.proofs.OpenLaws.{on_ok}
use Rattle.vab_recover.proofs.repairs.mend_copies.Goals as goal

-- what follows of two facts at the end
on_both : {A E : Type 0} (P Q R : Type 0) (r : Result A E)
    → (P → Q → R)
    → OnOk r P
    → OnOk r Q
    → OnOk r R
on_both P Q R (Ok x) f p q = f p q
on_both P Q R (Err e) f p q = tt

pub migrate-requires-clause-enough : goal.migrate-requires-clause-enough
migrate-requires-clause-enough g c =
    omega (
      arith,
      c.requires.is.enough,
      c.requires.is.ends,
      c.repair_tables.ensures.quiet.size,
    )

pub migrate-requires-clause-mark : goal.migrate-requires-clause-mark
migrate-requires-clause-mark g c = λ t.
    mark_same (g.D.Disk.seen c.args.d.now) (g.D.Disk.seen c.repair_tables.new.d)
    (repair_keeps (g.D.Disk.size c.args.d.now) 2048 (g.D.Disk.seen c.args.d.now)
    (g.D.Disk.seen c.repair_tables.new.d) (omega arith)
    ((c.repair_tables.ensures.touches t).seen t))
    ∙ (c.requires.read t).reads.mark

pub returns-in-Err-clause-touches : goal.returns-in-Err-clause-touches
returns-in-Err-clause-touches g c = λ t.
    touches_wider g.D.Disk _ _ _ _ (c.repair_tables.ensures.touches t) (λ s b w. inl w)

pub returns-in-Err-clause-order : goal.returns-in-Err-clause-order
returns-in-Err-clause-order g c = λ t rest.
    adds_wider g.D.Disk.moment g.D.Disk.outcomes c.args.d.now c.repair_tables.new.d _ _
    (mark_stays g.D.Disk c.args.d.now c.repair_tables.new.d (c.repair_tables.ensures.touches t) t
    rest)
    (λ o e. ap mark_of e)

pub returns-in-Ok-clause-represents : goal.returns-in-Ok-clause-represents
returns-in-Ok-clause-represents g c = λ t.
    let size = g.D.Disk.size c.args.d.now in
    let n = c.repair_tables.ensures.quiet.size in
    let mid = g.D.Disk.seen c.repair_tables.new.d in
    let new = g.D.Disk.seen c.migrate.new.d in
    let d = with_tables c.args.tables.now c.args.kept.now in
    let is = c.in-Ok.ensures.represents t in
    let reads = subst (λ k. Reads k is.read mid) (sym n) is.reads in
    on_both _ _ _ c.migrate.result
    (λ version same.
    migrated_represents _ d size mid new is (subst (λ k. SameRead k is.read mid new) n same)
    (c.migrate.ensures.touches.seen t) version)
    (c.migrate.ensures.version t) (c.migrate.ensures.same t is.read reads)

pub returns-in-Ok-clause-same : goal.returns-in-Ok-clause-same
returns-in-Ok-clause-same g c = λ t.
    let size = g.D.Disk.size c.args.d.now in
    let n = c.repair_tables.ensures.quiet.size in
    let mid = g.D.Disk.seen c.repair_tables.new.d in
    let new = g.D.Disk.seen c.migrate.new.d in
    let is = c.in-Ok.ensures.represents t in
    let reads = subst (λ k. Reads k is.read mid) (sym n) is.reads in
    on_ok _ _ c.migrate.result
    (λ same.
    subst (λ k. device k new ≡ device k mid) n
    (device_same (g.D.Disk.size c.repair_tables.new.d) is.read mid new reads same)
    ∙ c.in-Ok.ensures.same t)
    (c.migrate.ensures.same t is.read reads)

pub returns-in-Ok-clause-mark : goal.returns-in-Ok-clause-mark
returns-in-Ok-clause-mark g c = λ t.
    on_ok _ _ c.migrate.result
    (λ same.
    same
    ∙ ap mark_of
    (repair_keeps (g.D.Disk.size c.args.d.now) 2048 (g.D.Disk.seen c.args.d.now)
    (g.D.Disk.seen c.repair_tables.new.d) (omega arith)
    ((c.repair_tables.ensures.touches t).seen t)))
    (c.migrate.ensures.mark t)

pub returns-in-Ok-clause-touches : goal.returns-in-Ok-clause-touches
returns-in-Ok-clause-touches g c = λ t.
    let size = g.D.Disk.size c.args.d.now in
    let old = g.D.Disk.seen c.args.d.now in
    let mid = g.D.Disk.seen c.repair_tables.new.d in
    touches_on g.D.Disk (IsRepair size old) (IsOfMigration mid) (IsOfMending size old)
    c.args.d.now c.repair_tables.new.d c.migrate.new.d
    (c.repair_tables.ensures.touches t) c.migrate.ensures.touches
    (λ s b w. inl w)
    (migration_before size old mid
    (repair_keeps size 2048 old mid (omega arith) ((c.repair_tables.ensures.touches t).seen t)))

pub returns-in-Ok-clause-healthy : goal.returns-in-Ok-clause-healthy
returns-in-Ok-clause-healthy g c = λ t hold version.
    let e = c.in-Ok.ensures.healthy t hold in
    subst (λ x. OnlyReads g.D.Disk x c.migrate.new.d) e
    (c.migrate.ensures.still t (ap (λ x. version_at (g.D.Disk.seen x)) e ∙ version))

pub returns-in-Ok-clause-settled : goal.returns-in-Ok-clause-settled
returns-in-Ok-clause-settled g c = λ t rest.
    c.migrate.ensures.settled t (c.in-Ok.ensures.settled t rest)

pub returns-in-Ok-clause-quiet : goal.returns-in-Ok-clause-quiet
returns-in-Ok-clause-quiet g c =
    quiet_then g.D.Disk c.args.d.now c.repair_tables.new.d c.migrate.new.d
    c.repair_tables.ensures.quiet c.migrate.ensures.touches.quiet

pub returns-in-Ok-clause-time : goal.returns-in-Ok-clause-time
returns-in-Ok-clause-time g c = λ t rest.
    let n = c.repair_tables.ensures.quiet.size in
    let mid = g.D.Disk.seen c.repair_tables.new.d in
    let is = c.in-Ok.ensures.represents t in
    let reads = subst (λ k. Reads k is.read mid) (sym n) is.reads in
    adds_on g.D.Disk.moment g.D.Disk.outcomes c.args.d.now c.repair_tables.new.d c.migrate.new.d _
    _ (c.repair_tables.ensures.time t rest)
    (c.migrate.ensures.time t (c.in-Ok.ensures.settled t rest) is.read reads)
    (λ o.
    leaves_before (g.D.Disk.told c.args.d.now) (g.D.Disk.told c.repair_tables.new.d)
    (g.D.Disk.size c.args.d.now) (g.D.Disk.size c.repair_tables.new.d)
    (g.D.Disk.seen c.args.d.now) mid o (c.repair_tables.ensures.quiet.told t) n
    (c.in-Ok.ensures.same t))

pub returns-in-Ok-clause-order : goal.returns-in-Ok-clause-order
returns-in-Ok-clause-order g c = λ t rest.
    let same =
    repair_keeps (g.D.Disk.size c.args.d.now) 2048 (g.D.Disk.seen c.args.d.now)
    (g.D.Disk.seen c.repair_tables.new.d) (omega arith)
    ((c.repair_tables.ensures.touches t).seen t) in
    adds_on g.D.Disk.moment g.D.Disk.outcomes c.args.d.now c.repair_tables.new.d c.migrate.new.d _
    _
    (adds_wider g.D.Disk.moment g.D.Disk.outcomes c.args.d.now c.repair_tables.new.d _ _
    (mark_stays g.D.Disk c.args.d.now c.repair_tables.new.d (c.repair_tables.ensures.touches t) t
    rest)
    (λ o e. ap mark_of e))
    (c.migrate.ensures.order t (c.in-Ok.ensures.settled t rest))
    (λ o e. e ∙ ap mark_of same)
