use Rattle.std.proofs.Common.{◌≡◌, ◌∙◌, ◌+◌, ◌≤◌, ℕ, List, sym, subst, arith}
use Rattle.vab_disk.specs.Disk.{Adds}
use Rattle.vab_disk.proofs.Moments.{adds_on, adds_wider}
use Rattle.vab_disk.proofs.CallLaws.{touches_then, touches_wider}
use Rattle.vab_lpstore.specs.Layout.{copy_sectors, backup_of, BothHold}
use Rattle.vab_lpstore.specs.Storing.{LeavesTable}
use Rattle.vab_layout.specs.Slots.{other_slot}
use Rattle.vab_device.specs.Reading.{device, RepresentsUnder, version_at}
use Rattle.vab_recover.specs.Opened.{with_tables}
use Rattle.vab_tidy.specs.Stays.{LeavesSame}
use Rattle.vab_recover.specs.Repairs.{IsRepair}
use Rattle.vab_device.proofs.PlaceLaws.{copies_on_disk}
use Rattle.vab_recover.proofs.OpenLaws.{source_repair, source_flags, source_leaves, target_repair}
use Rattle.vab_recover.proofs.OpenLaws.{target_flags, mid_means, mid_represents, mid_loaded}
use Rattle.vab_recover.proofs.OpenLaws.{target_leaves, new_means, new_represents, on_ok, sectors_in}
use Rattle.vab_recover.proofs.repairs.repair_tables.Goals as goal

pub repair_table-requires-clause-on_disk : goal.repair_table-requires-clause-on_disk
repair_table-requires-clause-on_disk g c =
    let is = c.requires.is in
    omega (
      arith,
      copies_on_disk c.args.kept.now.geometry c.args.kept.now.mark.slot
          c.args.kept.now.tail.super_end is.geometry is.slot is.copies_on,
      is.ends,
    )

pub repair_table-requires-in-Some-clause-on_disk : goal.repair_table-requires-in-Some-clause-on_disk
repair_table-requires-in-Some-clause-on_disk g c =
    let is = c.requires.is in
    let d = c.args.kept.now in
    subst
    (λ (n : ℕ). backup_of d.geometry (other_slot d.mark.slot) + copy_sectors d.geometry ≤ n)
    (sym c.repair_table.ensures.touches.quiet.size)
    (omega (
      arith,
      copies_on_disk d.geometry (other_slot d.mark.slot) d.tail.super_end is.geometry (omega arith)
          is.copies_on,
      is.ends,
    ))

pub repair_table-requires-in-Some-clause-loaded : goal.repair_table-requires-in-Some-clause-loaded
repair_table-requires-in-Some-clause-loaded g c = λ t.
    mid_loaded c.args.kept.now c.args.tables.now (g.D.Disk.size c.args.d.now)
    (g.D.Disk.seen c.args.d.now) c.requires.is c.requires.there (c.requires.read t)
    (g.D.Disk.seen c.repair_table.new.d) (c.repair_table.ensures.touches.seen t)
    (c.in-Ok.ensures.repaired t) c.in-Some.target c.in-Some.is

pub returns-in-Err-clause-touches : goal.returns-in-Err-clause-touches
returns-in-Err-clause-touches g c = λ t.
    touches_wider g.D.Disk
    (IsRepair (g.D.Disk.size c.args.d.now) (g.D.Disk.seen c.args.d.now)) _ _ _
    c.repair_table.ensures.touches
    (source_repair c.args.kept.now c.args.tables.now (g.D.Disk.size c.args.d.now)
    (g.D.Disk.seen c.args.d.now) c.requires.is c.requires.there (c.requires.read t))

pub returns-in-Err-clause-healthy : goal.returns-in-Err-clause-healthy
returns-in-Err-clause-healthy g c = λ t hold.
    let flags = source_flags c.args.kept.now c.args.tables.now (g.D.Disk.size c.args.d.now)
    (g.D.Disk.seen c.args.d.now) c.requires.is c.requires.there (c.requires.read t) hold in
    c.repair_table.ensures.untouched flags.0 flags.1

pub returns-in-Err-clause-time : goal.returns-in-Err-clause-time
returns-in-Err-clause-time g c = λ t rest.
    adds_wider g.D.Disk.moment g.D.Disk.outcomes c.args.d.now c.repair_table.new.d _
    (LeavesSame (g.D.Disk.told c.args.d.now) (g.D.Disk.size c.args.d.now)
    (g.D.Disk.seen c.args.d.now))
    (c.repair_table.ensures.table t rest)
    (source_leaves c.args.kept.now c.args.tables.now (g.D.Disk.size c.args.d.now)
    (g.D.Disk.seen c.args.d.now) c.requires.is c.requires.there (c.requires.read t)
    (g.D.Disk.told c.args.d.now))

pub returns-in-None-clause-represents : goal.returns-in-None-clause-represents
returns-in-None-clause-represents g c = λ t.
    mid_represents c.args.kept.now c.args.tables.now (g.D.Disk.size c.args.d.now)
    (g.D.Disk.seen c.args.d.now) c.requires.is c.requires.there (c.requires.read t)
    (g.D.Disk.seen c.repair_table.new.d) (c.repair_table.ensures.touches.seen t)
    (c.in-Ok.ensures.repaired t) c.in-None.is

pub returns-in-None-clause-same : goal.returns-in-None-clause-same
returns-in-None-clause-same g c = λ t.
    mid_means c.args.kept.now c.args.tables.now (g.D.Disk.size c.args.d.now)
    (g.D.Disk.seen c.args.d.now) c.requires.is c.requires.there (c.requires.read t)
    (g.D.Disk.seen c.repair_table.new.d) (c.repair_table.ensures.touches.seen t)
    (c.in-Ok.ensures.repaired t)

pub returns-in-None-clause-touches : goal.returns-in-None-clause-touches
returns-in-None-clause-touches g c = λ t.
    touches_wider g.D.Disk
    (IsRepair (g.D.Disk.size c.args.d.now) (g.D.Disk.seen c.args.d.now)) _ _ _
    c.repair_table.ensures.touches
    (source_repair c.args.kept.now c.args.tables.now (g.D.Disk.size c.args.d.now)
    (g.D.Disk.seen c.args.d.now) c.requires.is c.requires.there (c.requires.read t))

pub returns-in-None-clause-healthy : goal.returns-in-None-clause-healthy
returns-in-None-clause-healthy g c = λ t hold.
    let flags = source_flags c.args.kept.now c.args.tables.now (g.D.Disk.size c.args.d.now)
    (g.D.Disk.seen c.args.d.now) c.requires.is c.requires.there (c.requires.read t) hold in
    c.repair_table.ensures.untouched flags.0 flags.1

pub returns-in-None-clause-time : goal.returns-in-None-clause-time
returns-in-None-clause-time g c = λ t rest.
    adds_wider g.D.Disk.moment g.D.Disk.outcomes c.args.d.now c.repair_table.new.d _
    (LeavesSame (g.D.Disk.told c.args.d.now) (g.D.Disk.size c.args.d.now)
    (g.D.Disk.seen c.args.d.now))
    (c.repair_table.ensures.table t rest)
    (source_leaves c.args.kept.now c.args.tables.now (g.D.Disk.size c.args.d.now)
    (g.D.Disk.seen c.args.d.now) c.requires.is c.requires.there (c.requires.read t)
    (g.D.Disk.told c.args.d.now))

pub returns-in-Some-clause-represents : goal.returns-in-Some-clause-represents
returns-in-Some-clause-represents g c = λ t.
    let d = c.args.kept.now in
    let new = g.D.Disk.seen c.repair_table-in-Some.new.d in
    on_ok (BothHold d.geometry (other_slot d.mark.slot) c.in-Some.target.text new)
    (RepresentsUnder (version_at (g.D.Disk.seen c.args.d.now)) (with_tables c.args.tables.now d)
    (g.D.Disk.size c.args.d.now) new)
    c.repair_table-in-Some.result
    (new_represents d c.args.tables.now (g.D.Disk.size c.args.d.now) (g.D.Disk.seen c.args.d.now)
    c.requires.is c.requires.there (c.requires.read t) (g.D.Disk.seen c.repair_table.new.d)
    (c.repair_table.ensures.touches.seen t) (c.in-Ok.ensures.repaired t) c.in-Some.target
    c.in-Some.is new (c.repair_table-in-Some.ensures.touches.seen t))
    (c.repair_table-in-Some.ensures.repaired t)

pub returns-in-Some-clause-same : goal.returns-in-Some-clause-same
returns-in-Some-clause-same g c = λ t.
    let d = c.args.kept.now in
    let size = g.D.Disk.size c.args.d.now in
    let new = g.D.Disk.seen c.repair_table-in-Some.new.d in
    on_ok (BothHold d.geometry (other_slot d.mark.slot) c.in-Some.target.text new)
    (device size new ≡ device size (g.D.Disk.seen c.args.d.now))
    c.repair_table-in-Some.result
    (new_means d c.args.tables.now (g.D.Disk.size c.args.d.now) (g.D.Disk.seen c.args.d.now)
    c.requires.is c.requires.there (c.requires.read t) (g.D.Disk.seen c.repair_table.new.d)
    (c.repair_table.ensures.touches.seen t) (c.in-Ok.ensures.repaired t) c.in-Some.target
    c.in-Some.is new (c.repair_table-in-Some.ensures.touches.seen t))
    (c.repair_table-in-Some.ensures.repaired t)

pub returns-in-Some-clause-touches : goal.returns-in-Some-clause-touches
returns-in-Some-clause-touches g c = λ t.
    let V = IsRepair (g.D.Disk.size c.args.d.now) (g.D.Disk.seen c.args.d.now) in
    touches_then g.D.Disk V _ _ _
    (touches_wider g.D.Disk V _ _ _ c.repair_table.ensures.touches
    (source_repair c.args.kept.now c.args.tables.now (g.D.Disk.size c.args.d.now)
    (g.D.Disk.seen c.args.d.now) c.requires.is c.requires.there (c.requires.read t)))
    (touches_wider g.D.Disk V _ _ _ c.repair_table-in-Some.ensures.touches
    (target_repair c.args.kept.now c.args.tables.now (g.D.Disk.size c.args.d.now)
    (g.D.Disk.seen c.args.d.now) c.requires.is c.requires.there (c.requires.read t)
    c.in-Some.target c.in-Some.is))

pub returns-in-Some-clause-healthy : goal.returns-in-Some-clause-healthy
returns-in-Some-clause-healthy g c = λ t hold.
    let flags = source_flags c.args.kept.now c.args.tables.now (g.D.Disk.size c.args.d.now)
    (g.D.Disk.seen c.args.d.now) c.requires.is c.requires.there (c.requires.read t) hold in
    let both = target_flags c.args.kept.now c.args.tables.now (g.D.Disk.size c.args.d.now)
    (g.D.Disk.seen c.args.d.now) c.requires.is c.requires.there (c.requires.read t)
    c.in-Some.target c.in-Some.is hold in
    c.repair_table-in-Some.ensures.untouched both.0 both.1
    ∙ c.repair_table.ensures.untouched flags.0 flags.1

pub returns-in-Some-clause-time : goal.returns-in-Some-clause-time
returns-in-Some-clause-time g c = λ t rest.
    let told = g.D.Disk.told c.args.d.now in
    let d = c.args.kept.now in
    let l = c.in-Some.target in
    let same = LeavesSame told (g.D.Disk.size c.args.d.now) (g.D.Disk.seen c.args.d.now) in
    let mid = g.D.Disk.seen c.repair_table.new.d in
    let later = c.repair_table-in-Some.ensures.table t (c.in-Ok.ensures.settled t rest) in
    adds_on g.D.Disk.moment g.D.Disk.outcomes c.args.d.now c.repair_table.new.d
    c.repair_table-in-Some.new.d same
    (LeavesTable told d.geometry (other_slot d.mark.slot) (sectors_in l) mid l.table)
    (adds_wider g.D.Disk.moment g.D.Disk.outcomes c.args.d.now c.repair_table.new.d _ same
    (c.repair_table.ensures.table t rest)
    (source_leaves d c.args.tables.now (g.D.Disk.size c.args.d.now)
    (g.D.Disk.seen c.args.d.now) c.requires.is c.requires.there (c.requires.read t) told))
    (subst
    (λ (k : List ℕ). Adds g.D.Disk.moment g.D.Disk.outcomes c.repair_table.new.d
    c.repair_table-in-Some.new.d
    (LeavesTable k d.geometry (other_slot d.mark.slot) (sectors_in l) mid l.table))
    (c.repair_table.ensures.touches.quiet.told t) later)
    (target_leaves d c.args.tables.now (g.D.Disk.size c.args.d.now) (g.D.Disk.seen c.args.d.now)
    c.requires.is c.requires.there (c.requires.read t) mid (c.repair_table.ensures.touches.seen t)
    (c.in-Ok.ensures.repaired t) l c.in-Some.is told)
