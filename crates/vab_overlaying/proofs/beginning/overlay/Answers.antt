use Rattle.std.proofs.Common.{◌≡◌, ◌∙◌, ℕ, List, length, None, sym, ap, subst, arith}
use Rattle.vab_disk.specs.Calls.{Touches}
use Rattle.vab_lpstore.specs.Layout.{BothHold}
use Rattle.vab_lpstore.specs.Storing.{IsOfTable}
use Rattle.vab_model.specs.Commands.{Overlay}
use Rattle.vab_device.specs.declared.device.Device.{Device}
use Rattle.vab_device.specs.Does.{Does}
use Rattle.vab_device.specs.Kept.{IsDevice}
use Rattle.vab_device.specs.Reading.{Represents}
use Rattle.vab_overlaying.specs.Begun.{with_slot, with_table, IsOver, IsOfHead, Begins}
use Rattle.vab_overlaying.specs.Prepared.{AreWhole}
use Rattle.vab_overlaying.proofs.BeginLaws.{prepared_over}
use Rattle.vab_overlaying.proofs.OverlayLaws.{StoresTable, refused_by, fails_table, mid_kept}
use Rattle.vab_overlaying.proofs.OverlayLaws.{mid_represents, mid_begins, does_overlay}
use Rattle.vab_device.proofs.PlaceLaws.{copies_on_disk}
use Rattle.vab_overlaying.proofs.beginning.overlay.Goals as goal

pub store_table-requires-clause-on_disk : goal.store_table-requires-clause-on_disk
store_table-requires-clause-on_disk g c =
    let dev = c.requires.kept in
    let on = copies_on_disk c.args.device.geometry c.args.device.mark.slot
    c.args.device.tail.super_end dev.geometry dev.slot dev.copies_on in
    omega (arith, on, dev.ends)

pub begin_over-requires-clause-kept : goal.begin_over-requires-clause-kept
begin_over-requires-clause-kept g c =
    let d = c.args.device in
    let old = c.args.d.now in
    let mid = c.store_table.new.d in
    let x = c.in-Ok.next in
    let is = c.in-Ok.ensures.prepared in
    let whole : g.D.Disk.is_modelled → AreWhole (g.D.Disk.size old) (g.D.Disk.seen old) =
    λ t s lt.
    (g.met.D.Disk.whole old s (g.D.Disk.seen old s) lt (g.met.D.Disk.seen_held old s)).long in
    let now : c.with_slot-device.result ≡ with_table d x.table =
    c.with_slot-device.ensures ∙ ap (with_slot d x.table) is.spelled.parts in
    subst (λ (k : Device). IsDevice k (g.D.Disk.size mid)) (sym now)
    (mid_kept g.D.Disk d None c.args.name.now c.args.size old c.requires.kept c.requires.represents
    whole x is mid
    (subst (λ (l : List ℕ). Touches g.D.Disk (IsOfTable d.geometry d.mark.slot l) old mid)
    c.as_slice.ensures c.store_table.ensures.touches)
    (subst (StoresTable g.D.Disk d.geometry d.mark.slot old mid)
    c.as_slice.ensures c.store_table.ensures.table))

pub begin_over-requires-clause-represents : goal.begin_over-requires-clause-represents
begin_over-requires-clause-represents g c = λ told.
    let d = c.args.device in
    let old = c.args.d.now in
    let mid = c.store_table.new.d in
    let x = c.in-Ok.next in
    let is = c.in-Ok.ensures.prepared in
    let whole : g.D.Disk.is_modelled → AreWhole (g.D.Disk.size old) (g.D.Disk.seen old) =
    λ t s lt.
    (g.met.D.Disk.whole old s (g.D.Disk.seen old s) lt (g.met.D.Disk.seen_held old s)).long in
    let now : c.with_slot-device.result ≡ with_table d x.table =
    c.with_slot-device.ensures ∙ ap (with_slot d x.table) is.spelled.parts in
    subst (λ (k : Device). Represents k (g.D.Disk.size mid) (g.D.Disk.seen mid)) (sym now)
    (mid_represents g.D.Disk d None c.args.name.now c.args.size old c.requires.kept
    c.requires.represents whole x is mid
    (subst (λ (l : List ℕ). Touches g.D.Disk (IsOfTable d.geometry d.mark.slot l) old mid)
    c.as_slice.ensures c.store_table.ensures.touches)
    (subst (StoresTable g.D.Disk d.geometry d.mark.slot old mid)
    c.as_slice.ensures c.store_table.ensures.table)
    (λ t.
    subst (λ (l : List ℕ). BothHold d.geometry d.mark.slot l (g.D.Disk.seen mid))
    c.as_slice.ensures (c.in-Ok-store_table.ensures.stored t))
    told)

pub begin_over-requires-clause-over : goal.begin_over-requires-clause-over
begin_over-requires-clause-over g c =
    let d = c.args.device in
    let x = c.in-Ok.next in
    let is = c.in-Ok.ensures.prepared in
    let now : c.with_slot-device.result ≡ with_table d x.table =
    c.with_slot-device.ensures ∙ ap (with_slot d x.table) is.spelled.parts in
    subst (λ (k : Device). IsOver k x.part x.store) (sym now)
    (prepared_over d (g.D.Disk.size c.args.d.now) c.args.name.now c.args.size x c.requires.kept is)

pub returns-in-Err : goal.returns-in-Err
returns-in-Err g c = λ staged.
    let old = c.args.d.now in
    refused_by g.D.Disk c.args.device staged c.args.name.now c.args.size old c.requires.kept
    c.requires.represents
    (λ t s lt.
    (g.met.D.Disk.whole old s (g.D.Disk.seen old s) lt (g.met.D.Disk.seen_held old s)).long)
    c.in-Err.refusal c.in-Err.ensures.refused

pub returns-in-Err-store_table : goal.returns-in-Err-store_table
returns-in-Err-store_table g c = λ staged.
    let d = c.args.device in
    let old = c.args.d.now in
    let mid = c.store_table.new.d in
    fails_table g.D.Disk d staged c.args.name.now c.args.size old c.requires.kept
    c.requires.represents
    (λ t s lt.
    (g.met.D.Disk.whole old s (g.D.Disk.seen old s) lt (g.met.D.Disk.seen_held old s)).long)
    c.in-Ok.next c.in-Ok.ensures.prepared mid
    (subst (λ (l : List ℕ). Touches g.D.Disk (IsOfTable d.geometry d.mark.slot l) old mid)
    c.as_slice.ensures c.store_table.ensures.touches)
    (subst (StoresTable g.D.Disk d.geometry d.mark.slot old mid)
    c.as_slice.ensures c.store_table.ensures.table)
    c.in-Err-store_table.fault c.in-Err-store_table.ensures.faults.cause

pub returns-in-Ok-store_table : goal.returns-in-Ok-store_table
returns-in-Ok-store_table g c = λ staged.
    let d = c.args.device in
    let old = c.args.d.now in
    let mid = c.store_table.new.d in
    let new = c.begin_over.new.d in
    let x = c.in-Ok.next in
    let is = c.in-Ok.ensures.prepared in
    let name = c.args.name.now in
    let size = c.args.size in
    let whole : g.D.Disk.is_modelled → AreWhole (g.D.Disk.size old) (g.D.Disk.seen old) =
    λ t s lt.
    (g.met.D.Disk.whole old s (g.D.Disk.seen old s) lt (g.met.D.Disk.seen_held old s)).long in
    let still : g.D.Disk.is_modelled → AreWhole (g.D.Disk.size mid) (g.D.Disk.seen mid) =
    λ t s lt.
    (g.met.D.Disk.whole mid s (g.D.Disk.seen mid s) lt (g.met.D.Disk.seen_held mid s)).long in
    let touches = subst
    (λ (l : List ℕ). Touches g.D.Disk (IsOfTable d.geometry d.mark.slot l) old mid)
    c.as_slice.ensures c.store_table.ensures.touches in
    let table = subst (StoresTable g.D.Disk d.geometry d.mark.slot old mid)
    c.as_slice.ensures c.store_table.ensures.table in
    let held = λ (t : g.D.Disk.is_modelled).
    subst (λ (l : List ℕ). BothHold d.geometry d.mark.slot l (g.D.Disk.seen mid))
    c.as_slice.ensures (c.in-Ok-store_table.ensures.stored t) in
    let now : c.with_slot-device.result ≡ with_table d x.table =
    c.with_slot-device.ensures ∙ ap (with_slot d x.table) is.spelled.parts in
    let later : (g.D.Disk.is_modelled
    → Begins (with_table d x.table) staged name size x.part (length x.store) (g.D.Disk.seen mid))
    → Does g.D.Disk (with_table d x.table) staged (Overlay name size)
    (IsOfHead (with_table d x.table) x.store) mid new c.begin_over.result =
    subst
    (λ (k : Device).
    (g.D.Disk.is_modelled
    → Begins k staged name size x.part (length x.store) (g.D.Disk.seen mid))
    → Does g.D.Disk k staged (Overlay name size) (IsOfHead k x.store) mid new c.begin_over.result)
    now (c.begin_over.ensures.does staged name size) in
    does_overlay g.D.Disk d staged name size old c.requires.kept c.requires.represents whole x is
    mid touches table held new c.begin_over.result c.in-Ok-store_table.ensures.settled
    c.in-Ok-store_table.ensures.faults.steady
    (later
    (mid_begins g.D.Disk d staged name size old c.requires.kept c.requires.represents whole x is
    mid touches table held still))
    c.begin_over.ensures.done
