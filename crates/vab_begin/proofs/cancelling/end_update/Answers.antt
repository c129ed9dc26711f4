use Rattle.std.proofs.Common.{◌≡◌, refl, sym, subst, Ok}
use Rattle.vab_marks.specs.declared.mark.MarkPhase.TheVariants as marks
use Rattle.vab_marks.specs.declared.mark.UpdateMark.{UpdateMark}
use Rattle.vab_marks.specs.Mark.{mark_of, mark_spelling, rephased}
use Rattle.vab_model.specs.declared.command.Reply.TheVariants as replies
use Rattle.vab_model.specs.Commands.{Cancel}
use Rattle.vab_device.specs.declared.device.Device.{Device}
use Rattle.vab_device.specs.Does.{Does}
use Rattle.vab_device.proofs.DoesLaws.{follows_kept}
use Rattle.vab_device.proofs.MarkGate.{mark_fails, mark_does}
use Rattle.vab_begin.specs.Kept.{without_update}
use Rattle.vab_begin.specs.Writes.{IsOfCancelled}
use Rattle.vab_begin.proofs.KeptLaws.{ended_kept, source_parts}
use Rattle.vab_begin.proofs.CancelLaws.{cancel_step}
use Rattle.vab_begin.proofs.cancelling.end_update.Goals as goal

pub returns-in-Err : goal.returns-in-Err
returns-in-Err g c = λ staged.
    let d = c.args.device in
    let old = c.args.d.now in
    let is = c.with_phase-mark.ensures in
    let read = subst (λ (m : UpdateMark). mark_of (mark_spelling m) ≡ Ok m) is
    c.put_mark.ensures.read in
    let step = λ (t : g.D.Disk.is_modelled).
    cancel_step d (g.D.Disk.size old) (g.D.Disk.seen old) staged c.requires.kept
    (c.requires.represents t) c.requires.ends read in
    mark_fails g.D.Disk d staged Cancel (IsOfCancelled d) old c.put_mark.new.d
    (without_update d) replies.Done (rephased marks.Idle d.mark) c.requires.represents
    (λ t. (step t).effect) (λ t. (step t).represents)
    (λ s b at. record { ends = c.requires.ends; mark = at })
    _ is c.put_mark.ensures.gate c.put_mark.ensures.touches _ c.in-Err.ensures.faults.cause

pub returns-in-Ok : goal.returns-in-Ok
returns-in-Ok g c = λ staged.
    let d = c.args.device in
    let old = c.args.d.now in
    let size = g.D.Disk.size old in
    let is = c.with_phase-mark.ensures in
    let read = subst (λ (m : UpdateMark). mark_of (mark_spelling m) ≡ Ok m) is
    c.put_mark.ensures.read in
    let step = λ (t : g.D.Disk.is_modelled).
    cancel_step d size (g.D.Disk.seen old) staged c.requires.kept (c.requires.represents t)
    c.requires.ends read in
    subst
    (λ (next : Device).
    Does g.D.Disk d staged Cancel (IsOfCancelled d) old c.put_mark.new.d
    (Ok (next, replies.Done))) (sym c.ended.ensures)
    (mark_does g.D.Disk d staged Cancel (IsOfCancelled d) old c.put_mark.new.d
    (without_update d) replies.Done (rephased marks.Idle d.mark) c.requires.represents
    (λ t. (step t).effect) (λ t. (step t).represents)
    (λ s b at. record { ends = c.requires.ends; mark = at })
    _ is c.put_mark.ensures.gate c.put_mark.ensures.touches
    (ended_kept d size c.requires.kept c.requires.ends)
    (follows_kept d Cancel (without_update d)
    (record { geometry = refl; slot = refl; parts = source_parts d.mark.slot d.a d.b }))
    c.in-Ok.ensures.written c.in-Ok.ensures.settled c.in-Ok.ensures.faults.steady)
