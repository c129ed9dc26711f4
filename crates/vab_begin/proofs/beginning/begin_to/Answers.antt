use Rattle.std.proofs.Common.{◌≡◌, ◌∙◌, List, Ok, refl, sym, ap, subst, arith}
use Rattle.std.specs.Prelude.{Some}
use Rattle.vab_disk.specs.Disk.{Adds, LeavesEither, IsAt, set_sector}
use Rattle.vab_disk.specs.Calls.{Touches}
use Rattle.vab_marks.specs.declared.mark.UpdateMark.{UpdateMark}
use Rattle.vab_marks.specs.Mark.{mark_of, mark_spelling, begun}
use Rattle.vab_layout.specs.Slots.{other_slot}
use Rattle.vab_install.specs.Control.{cleared_of, IsWritten}
use Rattle.vab_model.specs.declared.command.Reply.TheVariants as replies
use Rattle.vab_device.specs.declared.device.Device.{Device}
use Rattle.vab_device.specs.declared.device.Part.{Part}
use Rattle.vab_device.specs.Does.{Does}
use Rattle.vab_disk.proofs.CallLaws.{failed_then, wrote_there}
use Rattle.vab_device.proofs.DoesLaws.{dead_means, fails_dead, fails_gate, does_gate}
use Rattle.vab_begin.specs.Kept.{with_control, with_update}
use Rattle.vab_begin.specs.Writes.{begin_of, IsOfPlaces, IsOfBegun}
use Rattle.vab_begin.proofs.CopiesApart.{copies_on_disk}
use Rattle.vab_begin.proofs.BegunLaws.{begun_device, begun_kept, begin_dead, begin_step}
use Rattle.vab_begin.proofs.BegunLaws.{begin_follows}
use Rattle.vab_begin.proofs.WriteLaws.{target_short, target_stands, places_in, mark_in}
use Rattle.vab_begin.proofs.beginning.begin_to.Goals as goal

pub prepare_begin-requires-clause-table_on_disk : goal.prepare_begin-requires-clause-table_on_disk
prepare_begin-requires-clause-table_on_disk g c =
    let on = copies_on_disk c.args.device.geometry (other_slot c.args.device.mark.slot) _
    c.requires.kept.geometry (omega arith) c.requires.kept.enough c.requires.kept.copies_on in
    omega (arith, on, c.requires.kept.ends)

pub returns-in-Err-clause-does : goal.returns-in-Err-clause-does
returns-in-Err-clause-does g c = λ staged.
    let d = c.args.device in
    let apart = c.args.apart in
    let x = c.args.target in
    let old = c.args.d.now in
    let mid = c.prepare_begin.new.d in
    let size = g.D.Disk.size old in
    let told = g.D.Disk.is_modelled in
    let text = c.as_slice-text.result.now in
    let bytes = g.D.Disk.seen old 4 in
    let short = target_short apart d x c.requires.target text c.as_slice-text.ensures in
    let V = IsOfPlaces told d text bytes in
    let dead = λ (t : told).
    dead_means d size (g.D.Disk.seen old) V (c.requires.represents t)
    (begin_dead told apart text size (g.D.Disk.seen old) d c.requires.kept (c.requires.represents t)
    c.requires.idle c.requires.plain short) in
    let within = λ (t : told).
    places_in apart d x c.requires.target text c.as_slice-text.ensures told bytes c.requires.idle in
    fails_dead g.D.Disk d staged (begin_of apart) (IsOfBegun told apart d bytes) old mid V dead
    c.prepare_begin.ensures.touches within _
    (λ t.
    begin_follows apart d size (g.D.Disk.seen old) staged x c.requires.kept c.requires.idle
    c.requires.plain c.requires.target)
    c.in-Err.ensures.faults.cause

pub returns-in-Err-put_mark-clause-does : goal.returns-in-Err-put_mark-clause-does
returns-in-Err-put_mark-clause-does g c = λ staged.
    let d = c.args.device in
    let apart = c.args.apart in
    let x = c.args.target in
    let old = c.args.d.now in
    let mid = c.prepare_begin.new.d in
    let size = g.D.Disk.size old in
    let told = g.D.Disk.is_modelled in
    let text = c.as_slice-text.result.now in
    let bytes = g.D.Disk.seen old 4 in
    let short = target_short apart d x c.requires.target text c.as_slice-text.ensures in
    let V = IsOfPlaces told d text bytes in
    let dead = λ (t : told).
    dead_means d size (g.D.Disk.seen old) V (c.requires.represents t)
    (begin_dead told apart text size (g.D.Disk.seen old) d c.requires.kept (c.requires.represents t)
    c.requires.idle c.requires.plain short) in
    let within = λ (t : told).
    places_in apart d x c.requires.target text c.as_slice-text.ensures told bytes c.requires.idle in
    let step = λ (t : told).
    begin_step told apart text size (g.D.Disk.seen old) d c.requires.kept (c.requires.represents t)
    c.requires.idle c.requires.plain short x (g.D.Disk.seen mid) c.requires.target
    (c.prepare_begin.ensures.touches.seen t)
    (record {
      control = (c.in-Ok.ensures.control t).control;
      statuses = c.in-Ok.ensures.statuses t;
      stored = c.in-Ok.ensures.stored t;
    })
    (target_stands apart d x c.requires.target text c.as_slice-text.ensures)
    (subst (λ (m : UpdateMark). mark_of (mark_spelling m) ≡ Ok m) c.begun-mark.ensures
    c.put_mark.ensures.read)
    staged in
    fails_gate g.D.Disk d staged (begin_of apart) (IsOfBegun told apart d bytes) old mid V dead
    c.prepare_begin.ensures.touches within c.put_mark.new.d (begun_device apart d x.table)
    replies.Done 2048 (mark_spelling (begun apart d.mark))
    (λ t. (step t).effect) (λ t. (step t).represents)
    (λ t rest.
    subst
    (λ (m : UpdateMark).
    Adds g.D.Disk.moment g.D.Disk.outcomes mid c.put_mark.new.d
    (LeavesEither (g.D.Disk.told mid) (g.D.Disk.seen mid)
    (set_sector (g.D.Disk.seen mid) 2048 (mark_spelling m))))
    c.begun-mark.ensures (c.put_mark.ensures.gate t (c.in-Ok.ensures.settled t)))
    (subst
    (λ (m : UpdateMark). Touches g.D.Disk (IsAt 2048 (mark_spelling m)) mid c.put_mark.new.d)
    c.begun-mark.ensures c.put_mark.ensures.touches)
    (mark_in apart d x c.requires.target text c.as_slice-text.ensures told bytes c.requires.idle)
    _ (failed_then _ _ _ c.in-Ok.ensures.faults.steady c.in-Err-put_mark.ensures.faults.cause)

pub returns-in-Ok-put_mark-clause-does : goal.returns-in-Ok-put_mark-clause-does
returns-in-Ok-put_mark-clause-does g c = λ staged.
    let d = c.args.device in
    let apart = c.args.apart in
    let x = c.args.target in
    let old = c.args.d.now in
    let mid = c.prepare_begin.new.d in
    let size = g.D.Disk.size old in
    let told = g.D.Disk.is_modelled in
    let text = c.as_slice-text.result.now in
    let bytes = g.D.Disk.seen old 4 in
    let short = target_short apart d x c.requires.target text c.as_slice-text.ensures in
    let V = IsOfPlaces told d text bytes in
    let dead = λ (t : told).
    dead_means d size (g.D.Disk.seen old) V (c.requires.represents t)
    (begin_dead told apart text size (g.D.Disk.seen old) d c.requires.kept (c.requires.represents t)
    c.requires.idle c.requires.plain short) in
    let within = λ (t : told).
    places_in apart d x c.requires.target text c.as_slice-text.ensures told bytes c.requires.idle in
    let step = λ (t : told).
    begin_step told apart text size (g.D.Disk.seen old) d c.requires.kept (c.requires.represents t)
    c.requires.idle c.requires.plain short x (g.D.Disk.seen mid) c.requires.target
    (c.prepare_begin.ensures.touches.seen t)
    (record {
      control = (c.in-Ok.ensures.control t).control;
      statuses = c.in-Ok.ensures.statuses t;
      stored = c.in-Ok.ensures.stored t;
    })
    (target_stands apart d x c.requires.target text c.as_slice-text.ensures)
    (subst (λ (m : UpdateMark). mark_of (mark_spelling m) ≡ Ok m) c.begun-mark.ensures
    c.put_mark.ensures.read)
    staged in
    let next : c.with_target.result ≡ begun_device apart d x.table =
    c.with_target.ensures
    ∙ ap (λ (plan : List Part).
    with_control (cleared_of d.control (other_slot d.mark.slot))
    (with_update d (begun apart d.mark) (Some x.table) (Some plan)))
    c.requires.target.target.spelled.plan in
    subst (λ (k : Device). Does g.D.Disk d staged (begin_of apart)
    (IsOfBegun told apart d bytes) old c.put_mark.new.d
    (Ok (k, replies.Done))) (sym next)
    (does_gate g.D.Disk d staged (begin_of apart) (IsOfBegun told apart d bytes) old mid V dead
    c.prepare_begin.ensures.touches within c.put_mark.new.d (begun_device apart d x.table)
    replies.Done 2048 (mark_spelling (begun apart d.mark))
    (λ t. (step t).effect) (λ t. (step t).represents)
    (λ t rest.
    subst
    (λ (m : UpdateMark).
    Adds g.D.Disk.moment g.D.Disk.outcomes mid c.put_mark.new.d
    (LeavesEither (g.D.Disk.told mid) (g.D.Disk.seen mid)
    (set_sector (g.D.Disk.seen mid) 2048 (mark_spelling m))))
    c.begun-mark.ensures (c.put_mark.ensures.gate t (c.in-Ok.ensures.settled t)))
    (subst
    (λ (m : UpdateMark). Touches g.D.Disk (IsAt 2048 (mark_spelling m)) mid c.put_mark.new.d)
    c.begun-mark.ensures c.put_mark.ensures.touches)
    (mark_in apart d x c.requires.target text c.as_slice-text.ensures told bytes c.requires.idle)
    (begun_kept apart d size x c.requires.kept c.requires.idle c.requires.plain
    c.requires.target)
    (record { geometry = refl; slot = refl; parts = refl })
    (subst
    (λ (m : UpdateMark). told
    → g.D.Disk.seen c.put_mark.new.d ≡ set_sector (g.D.Disk.seen mid) 2048 (mark_spelling m))
    c.begun-mark.ensures c.in-Ok-put_mark.ensures.written)
    c.in-Ok-put_mark.ensures.settled
    (c.in-Ok-put_mark.ensures.faults.steady ∙ c.in-Ok.ensures.faults.steady))

pub returns-in-Ok-put_mark-clause-control : goal.returns-in-Ok-put_mark-clause-control
returns-in-Ok-put_mark-clause-control g c = λ t done.
    let d = c.args.device in
    let old = c.args.d.now in
    let mid = c.prepare_begin.new.d in
    let new = c.put_mark.new.d in
    let same : g.D.Disk.seen new 4 ≡ g.D.Disk.seen mid 4 =
    wrote_there (g.D.Disk.seen mid) (g.D.Disk.seen new) 2048 (mark_spelling c.begun-mark.result)
    (c.in-Ok-put_mark.ensures.written t) 4 (λ e. omega (arith, e)) in
    subst
    (IsWritten (cleared_of d.control (other_slot d.mark.slot)) (g.D.Disk.seen old 4))
    (sym same) (c.in-Ok.ensures.control t)
