use Rattle.std.proofs.Common.{◌∙◌, ℕ, sym, subst}
use Rattle.vab_disk.specs.Disk.{Image, Nothing}
use Rattle.vab_disk.specs.Calls.{Touches}
use Rattle.vab_disk.proofs.Moments.{adds_on, adds_wider}
use Rattle.vab_disk.proofs.CallLaws.{reads_then, touches_reads, touches_then}
use Rattle.vab_device.specs.declared.device.Device.{Device}
use Rattle.vab_device.specs.Reading.{device}
use Rattle.vab_device.proofs.ReadingLaws.{device_stands}
use Rattle.vab_tidy.specs.Kept.{device_after}
use Rattle.vab_tidy.specs.Stays.{LeavesSame}
use Rattle.vab_tidy.specs.Tidied.{HasCompleted}
use Rattle.vab_tidy.proofs.StaysLaws.{leaves_before}
use Rattle.vab_recover.specs.Opened.{with_tables}
use Rattle.vab_recover.specs.Opening.{IsOfOpening, HasVersion2, HasNoneCompleted, IsTidied}
use Rattle.vab_recover.specs.Opening.{GoesOn}
use Rattle.vab_recover.specs.Repairs.{BothCopiesHold}
use Rattle.vab_recover.proofs.MendLaws.{rests, order_of}
use Rattle.vab_recover.proofs.ProbeLaws.{opened_means}
use Rattle.vab_recover.proofs.opening.start.Goals as goal

pub returns-in-Ok-clause-device : goal.returns-in-Ok-clause-device
returns-in-Ok-clause-device g c = λ t.
    let n = c.in_ok-device.ensures.reads.quiet.size in
    let s = c.in_ok-device.ensures.reads.seen t in
    let new = g.D.Disk.seen c.mend.new.d in
    (λ i. device (sym n i) (sym s i))
    ∙ sym (c.in-Ok.ensures.stays.same t)
    ∙ device_stands c.in-Ok.device _ new (c.in-Ok.ensures.stays.represents t)

pub returns-in-Ok-clause-none : goal.returns-in-Ok-clause-none
returns-in-Ok-clause-none g c = λ t f is.
    let both = sym (opened_means _ _ _ _ (c.in_ok-device.ensures.opened t)) ∙ is in cc

pub returns-in-Err-clause-none : goal.returns-in-Err-clause-none
returns-in-Err-clause-none g c = λ t f is.
    let both = sym (opened_means _ _ _ _ (c.in_ok-device.ensures.opened t)) ∙ is in cc

pub returns-in-Ok-clause-touches : goal.returns-in-Ok-clause-touches
returns-in-Ok-clause-touches g c = λ t.
    let size = g.D.Disk.size c.args.d.now in
    let old = g.D.Disk.seen c.args.d.now in
    touches_then g.D.Disk (IsOfOpening size old) _ _ _
    (touches_reads g.D.Disk (IsOfOpening size old) _ _ c.in_ok-device.ensures.reads)
    (subst (λ (k : ℕ). Touches g.D.Disk (IsOfOpening k old) c.look.new.d c.mend.new.d)
    c.in_ok-device.ensures.reads.quiet.size
    (subst
    (λ (i : Image). Touches g.D.Disk (IsOfOpening (g.D.Disk.size c.look.new.d) i) c.look.new.d
    c.mend.new.d)
    (c.in_ok-device.ensures.reads.seen t)
    c.mend.ensures.stays.touches))

pub returns-in-Err-clause-touches : goal.returns-in-Err-clause-touches
returns-in-Err-clause-touches g c = λ t.
    let size = g.D.Disk.size c.args.d.now in
    let old = g.D.Disk.seen c.args.d.now in
    touches_then g.D.Disk (IsOfOpening size old) _ _ _
    (touches_reads g.D.Disk (IsOfOpening size old) _ _ c.in_ok-device.ensures.reads)
    (subst (λ (k : ℕ). Touches g.D.Disk (IsOfOpening k old) c.look.new.d c.mend.new.d)
    c.in_ok-device.ensures.reads.quiet.size
    (subst
    (λ (i : Image). Touches g.D.Disk (IsOfOpening (g.D.Disk.size c.look.new.d) i) c.look.new.d
    c.mend.new.d)
    (c.in_ok-device.ensures.reads.seen t)
    c.mend.ensures.stays.touches))

pub returns-in-Ok-clause-healthy : goal.returns-in-Ok-clause-healthy
returns-in-Ok-clause-healthy g c = λ t hold version none.
    let seen = sym (c.in_ok-device.ensures.reads.seen t) in
    let still : BothCopiesHold (g.D.Disk.size c.look.new.d) (g.D.Disk.seen c.look.new.d) =
    subst (λ (k : ℕ). BothCopiesHold k (g.D.Disk.seen c.look.new.d))
    (sym c.in_ok-device.ensures.reads.quiet.size)
    (subst (λ (i : Image). BothCopiesHold (g.D.Disk.size c.args.d.now) i) seen hold) in
    reads_then g.D.Disk c.args.d.now c.look.new.d c.mend.new.d c.in_ok-device.ensures.reads
    (c.mend.ensures.healthy t still (subst HasVersion2 seen version)
    (subst HasNoneCompleted seen none))

pub returns-in-Err-clause-healthy : goal.returns-in-Err-clause-healthy
returns-in-Err-clause-healthy g c = λ t hold version none.
    let seen = sym (c.in_ok-device.ensures.reads.seen t) in
    let still : BothCopiesHold (g.D.Disk.size c.look.new.d) (g.D.Disk.seen c.look.new.d) =
    subst (λ (k : ℕ). BothCopiesHold k (g.D.Disk.seen c.look.new.d))
    (sym c.in_ok-device.ensures.reads.quiet.size)
    (subst (λ (i : Image). BothCopiesHold (g.D.Disk.size c.args.d.now) i) seen hold) in
    reads_then g.D.Disk c.args.d.now c.look.new.d c.mend.new.d c.in_ok-device.ensures.reads
    (c.mend.ensures.healthy t still (subst HasVersion2 seen version)
    (subst HasNoneCompleted seen none))

pub returns-in-Ok-clause-tidied : goal.returns-in-Ok-clause-tidied
returns-in-Ok-clause-tidied g c = λ t.
    let new = g.D.Disk.seen c.mend.new.d in
    subst
    (λ (k : Device). IsTidied k (g.D.Disk.seen c.args.d.now) new)
    (sym c.in-Ok.ensures.stays.is)
    (subst
    (λ (i : Image).
    IsTidied
    (device_after c.in_ok-device.tidying
    (with_tables c.in_ok-device.tables c.in_ok-device.device))
    i new)
    (c.in_ok-device.ensures.reads.seen t) (c.in-Ok.ensures.tidied t))

pub returns-in-Ok-clause-time : goal.returns-in-Ok-clause-time
returns-in-Ok-clause-time g c = λ t rest.
    let told = g.D.Disk.told c.args.d.now in
    let size = g.D.Disk.size c.args.d.now in
    let old = g.D.Disk.seen c.args.d.now in
    let mid = c.look.new.d in
    let reads = c.in_ok-device.ensures.reads in
    adds_on g.D.Disk.moment g.D.Disk.outcomes c.args.d.now mid c.mend.new.d
    (LeavesSame told size old)
    (LeavesSame (g.D.Disk.told mid) (g.D.Disk.size mid) (g.D.Disk.seen mid))
    (adds_wider g.D.Disk.moment g.D.Disk.outcomes c.args.d.now mid Nothing
    (LeavesSame told size old)
    (reads.time t) (λ o none. absurd none))
    (c.mend.ensures.stays.time t (rests g.D.Disk c.args.d.now mid reads t rest))
    (λ o. leaves_before told (g.D.Disk.told mid) size (g.D.Disk.size mid) old (g.D.Disk.seen mid) o
    (reads.quiet.told t) reads.quiet.size
    (λ i. device size (reads.seen t i)))

pub returns-in-Err-clause-time : goal.returns-in-Err-clause-time
returns-in-Err-clause-time g c = λ t rest.
    let told = g.D.Disk.told c.args.d.now in
    let size = g.D.Disk.size c.args.d.now in
    let old = g.D.Disk.seen c.args.d.now in
    let mid = c.look.new.d in
    let reads = c.in_ok-device.ensures.reads in
    adds_on g.D.Disk.moment g.D.Disk.outcomes c.args.d.now mid c.mend.new.d
    (LeavesSame told size old)
    (LeavesSame (g.D.Disk.told mid) (g.D.Disk.size mid) (g.D.Disk.seen mid))
    (adds_wider g.D.Disk.moment g.D.Disk.outcomes c.args.d.now mid Nothing
    (LeavesSame told size old)
    (reads.time t) (λ o none. absurd none))
    (c.mend.ensures.stays.time t (rests g.D.Disk c.args.d.now mid reads t rest))
    (λ o. leaves_before told (g.D.Disk.told mid) size (g.D.Disk.size mid) old (g.D.Disk.seen mid) o
    (reads.quiet.told t) reads.quiet.size
    (λ i. device size (reads.seen t i)))

pub returns-in-Ok-clause-order : goal.returns-in-Ok-clause-order
returns-in-Ok-clause-order g c = λ t rest.
    let size = g.D.Disk.size c.args.d.now in
    let old = g.D.Disk.seen c.args.d.now in
    let mid = c.look.new.d in
    let new = c.mend.new.d in
    let look = c.in_ok-device.ensures in
    let reads = look.reads in
    let rested = rests g.D.Disk c.args.d.now mid reads t rest in
    adds_on g.D.Disk.moment g.D.Disk.outcomes c.args.d.now mid new
    (λ o. GoesOn size old o.image) (λ o. GoesOn size old o.image)
    (adds_wider g.D.Disk.moment g.D.Disk.outcomes c.args.d.now mid Nothing
    (λ o. GoesOn size old o.image) (reads.time t) (λ o none. absurd none))
    (order_of c.in_ok-device.device c.in_ok-device.tables size old look.kept.slot (look.opened t)
    g.D.Disk c.in_ok-device.tidying mid new _ (look.due t) look.tidying
    (c.mend.ensures.stays.time t rested)
    (λ has.
    c.mend.ensures.stays.order t rested
    (subst
    (λ (i : Image).
    HasCompleted
    (device_after c.in_ok-device.tidying
    (with_tables c.in_ok-device.tables c.in_ok-device.device)).mark
    i)
    (sym (reads.seen t)) has)))
    (λ o goes. goes)

pub returns-in-Err-clause-order : goal.returns-in-Err-clause-order
returns-in-Err-clause-order g c = λ t rest.
    let size = g.D.Disk.size c.args.d.now in
    let old = g.D.Disk.seen c.args.d.now in
    let mid = c.look.new.d in
    let new = c.mend.new.d in
    let look = c.in_ok-device.ensures in
    let reads = look.reads in
    let rested = rests g.D.Disk c.args.d.now mid reads t rest in
    adds_on g.D.Disk.moment g.D.Disk.outcomes c.args.d.now mid new
    (λ o. GoesOn size old o.image) (λ o. GoesOn size old o.image)
    (adds_wider g.D.Disk.moment g.D.Disk.outcomes c.args.d.now mid Nothing
    (λ o. GoesOn size old o.image) (reads.time t) (λ o none. absurd none))
    (order_of c.in_ok-device.device c.in_ok-device.tables size old look.kept.slot (look.opened t)
    g.D.Disk c.in_ok-device.tidying mid new _ (look.due t) look.tidying
    (c.mend.ensures.stays.time t rested)
    (λ has.
    c.mend.ensures.stays.order t rested
    (subst
    (λ (i : Image).
    HasCompleted
    (device_after c.in_ok-device.tidying
    (with_tables c.in_ok-device.tables c.in_ok-device.device)).mark
    i)
    (sym (reads.seen t)) has)))
    (λ o goes. goes)
