use Rattle.std.proofs.Common.{◌≡◌, refl, sym, subst, Ok, false}
use Rattle.vab_marks.specs.declared.mark.UpdateMark.{UpdateMark}
use Rattle.vab_marks.specs.Mark.{mark_of, mark_spelling, overlaid_by}
use Rattle.vab_model.specs.declared.command.Reply.TheVariants as replies
use Rattle.vab_model.specs.Commands.{OverlayDiscard}
use Rattle.vab_device.specs.declared.device.Device.{Device}
use Rattle.vab_device.specs.Does.{Does}
use Rattle.vab_device.proofs.DoesLaws.{follows_kept}
use Rattle.vab_device.proofs.MarkGate.{mark_fails, mark_does}
use Rattle.vab_overlaying.specs.Discarded.{without_overlay}
use Rattle.vab_overlaying.specs.Writes.{IsOfDiscard}
use Rattle.vab_overlaying.proofs.DiscardLaws.{plain_kept, discard_step}
use Rattle.vab_overlaying.proofs.discarding.end_overlay.Goals as goal

pub returns-in-Err : goal.returns-in-Err
returns-in-Err g c = λ staged.
    let d = c.args.device in
    let old = c.args.d.now in
    let is = c.with_overlay-mark.ensures in
    let read = subst (λ (m : UpdateMark). mark_of (mark_spelling m) ≡ Ok m) is
    c.put_mark.ensures.read in
    let step = λ (t : g.D.Disk.is_modelled).
    discard_step d (g.D.Disk.size old) (g.D.Disk.seen old) staged c.requires.kept
    (c.requires.represents t) c.requires.overlaid read in
    mark_fails g.D.Disk d staged OverlayDiscard (IsOfDiscard d) old c.put_mark.new.d
    (without_overlay d) replies.Done (overlaid_by false d.mark) c.requires.represents
    (λ t. (step t).effect) (λ t. (step t).represents)
    (λ s b at. record { overlaid = c.requires.overlaid; mark = at })
    _ is c.put_mark.ensures.gate c.put_mark.ensures.touches _ c.in-Err.ensures.faults.cause

pub returns-in-Ok : goal.returns-in-Ok
returns-in-Ok g c = λ staged.
    let d = c.args.device in
    let old = c.args.d.now in
    let size = g.D.Disk.size old in
    let is = c.with_overlay-mark.ensures in
    let read = subst (λ (m : UpdateMark). mark_of (mark_spelling m) ≡ Ok m) is
    c.put_mark.ensures.read in
    let step = λ (t : g.D.Disk.is_modelled).
    discard_step d size (g.D.Disk.seen old) staged c.requires.kept (c.requires.represents t)
    c.requires.overlaid read in
    subst
    (λ (next : Device).
    Does g.D.Disk d staged OverlayDiscard (IsOfDiscard d) old c.put_mark.new.d
    (Ok (next, replies.Done))) (sym c.plain.ensures)
    (mark_does g.D.Disk d staged OverlayDiscard (IsOfDiscard d) old c.put_mark.new.d
    (without_overlay d) replies.Done (overlaid_by false d.mark) c.requires.represents
    (λ t. (step t).effect) (λ t. (step t).represents)
    (λ s b at. record { overlaid = c.requires.overlaid; mark = at })
    _ is c.put_mark.ensures.gate c.put_mark.ensures.touches
    (plain_kept d size c.requires.kept c.requires.overlaid)
    (follows_kept d OverlayDiscard (without_overlay d)
    (record { geometry = refl; slot = refl; parts = refl }))
    c.in-Ok.ensures.written c.in-Ok.ensures.settled c.in-Ok.ensures.faults.steady)
