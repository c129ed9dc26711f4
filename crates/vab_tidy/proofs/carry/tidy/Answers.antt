use Rattle.std.proofs.Common.{◌≡◌, ℕ, List, Err, sym, ap, subst, inl, inr}
use Rattle.std.specs.Prelude.{Option, Some}
use Rattle.vab_disk.specs.Disk.{IsAt}
use Rattle.vab_marks.specs.declared.mark.MarkPhase.TheVariants as marks
use Rattle.vab_marks.specs.Mark.{mark_spelling, rephased}
use Rattle.vab_lpstore.specs.Storing.{IsOfTable}
use Rattle.vab_lpstore.proofs.StoreLaws.{store_elsewhere}
use Rattle.vab_device.specs.declared.device.Device.{Device}
use Rattle.vab_tidy.specs.declared.prepared.Alone.{Alone}
use Rattle.vab_tidy.specs.declared.prepared.Tidying.{Tidying}
use Rattle.vab_tidy.specs.Kept.{with_alone, with_table, tidied_device}
use Rattle.vab_tidy.specs.Stays.{Stays}
use Rattle.vab_tidy.specs.Writes.{IsOfAlone, IsOfTidied}
use Rattle.vab_tidy.proofs.StaysLaws.{stays_wider, stays_then}
use Rattle.vab_tidy.proofs.MarkLaws.{completed_stays}
use Rattle.vab_tidy.proofs.carry.tidy.Goals as goal

-- the sectors of the table are among those that are written
of_table : (d : Device) (x : Tidying) (a : Alone)
    → x.alone ≡ Some a
    → (s : ℕ) (b : List ℕ)
    → IsOfTable d.geometry d.mark.slot a.text s b
    → IsOfTidied d x s b
of_table d x a is s b of =
    inl (subst (λ (y : Option Alone). IsOfAlone d y s b) (sym is) of)

pub returns-in-None-clause-stays : goal.returns-in-None-clause-stays
returns-in-None-clause-stays g c =
    let d = c.args.device in
    let x = c.args.tidying in
    let next : tidied_device x d ≡ d = ap (λ (y : Option Alone). with_alone y d) c.in-None.is in
    subst
    (λ (k : Device). Stays g.D.Disk (IsOfTidied d x) k c.args.d.now c.put_idle.new.d
    c.put_idle.result)
    (sym next)
    (stays_wider g.D.Disk (IsOfTidied d x) _ d c.args.d.now c.put_idle.new.d c.put_idle.result
    c.put_idle.ensures.stays (λ s b at. inr at))

pub returns-in-Err-clause-stays : goal.returns-in-Err-clause-stays
returns-in-Err-clause-stays g c =
    let d = c.args.device in
    let x = c.args.tidying in
    let next : tidied_device x d ≡ with_table c.in-Some.alone.table d =
    ap (λ (y : Option Alone). with_alone y d) c.in-Some.is in
    subst
    (λ (k : Device).
    Stays g.D.Disk (IsOfTidied d x) k c.args.d.now c.put_alone.new.d (Err c.in-Err.fault))
    (sym next)
    (stays_wider g.D.Disk (IsOfTidied d x) _ _ c.args.d.now c.put_alone.new.d _ c.in-Err.ensures
    (of_table d x c.in-Some.alone c.in-Some.is))

pub returns-in-Ok-clause-stays : goal.returns-in-Ok-clause-stays
returns-in-Ok-clause-stays g c =
    let d = c.args.device in
    let x = c.args.tidying in
    let a = c.in-Some.alone in
    let mid = c.put_alone.new.d in
    let new = c.put_idle-in-Ok.new.d in
    let next : tidied_device x d ≡ with_table a.table d =
    ap (λ (y : Option Alone). with_alone y d) c.in-Some.is in
    let later : Stays g.D.Disk (IsAt 2048 (mark_spelling (rephased marks.Idle d.mark)))
    (with_table a.table d) mid new c.put_idle-in-Ok.result =
    subst
    (λ (k : Device).
    Stays g.D.Disk (IsAt 2048 (mark_spelling (rephased marks.Idle k.mark))) k mid new
    c.put_idle-in-Ok.result)
    c.in-Ok.ensures.is c.put_idle-in-Ok.ensures.stays in
    subst
    (λ (k : Device).
    Stays g.D.Disk (IsOfTidied d x) k c.args.d.now new c.put_idle-in-Ok.result)
    (sym next)
    (stays_then g.D.Disk (IsOfTable d.geometry d.mark.slot a.text)
    (IsAt 2048 (mark_spelling (rephased marks.Idle d.mark))) (IsOfTidied d x) c.in-Ok.device
    (with_table a.table d) (with_table a.table d) c.args.d.now mid new c.put_idle-in-Ok.result
    c.in-Ok.ensures later (λ t. of_table d x a c.in-Some.is) (λ t s b at. inr at)
    (λ t has.
    completed_stays d.geometry d.mark.slot _ d.mark (g.D.Disk.seen c.args.d.now)
    (g.D.Disk.seen mid)
    (store_elsewhere d.geometry d.mark.slot a.text (g.D.Disk.seen c.args.d.now)
    (g.D.Disk.seen mid) (c.in-Ok.ensures.touches.seen t)) has)
    c.in-Ok.ensures.order)
