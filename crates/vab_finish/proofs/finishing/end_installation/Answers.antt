use Rattle.std.proofs.Common.{◌≡◌, ◌∙◌, inl, inr, Ok, refl, sym, ap, subst}
use Rattle.vab_disk.specs.declared.disk.Disk.{Ghosts}
use Rattle.vab_disk.specs.Disk.{Image}
use Rattle.vab_disk.specs.Calls.{Touches}
use Rattle.vab_disk.specs.Written.{set_here}
use Rattle.vab_bootctl.specs.declared.slots.Control.{Control}
use Rattle.vab_bootctl.specs.Control.{control_of}
use Rattle.vab_marks.specs.declared.mark.MarkPhase.TheVariants as marks
use Rattle.vab_marks.specs.Mark.{mark_spelling, rephased}
use Rattle.vab_layout.specs.Slots.{other_slot}
use Rattle.vab_install.specs.Control.{cleared_of, HasControl, IsControl}
use Rattle.vab_model.specs.declared.command.Reply.TheVariants as replies
use Rattle.vab_model.specs.Commands.{Finish}
use Rattle.vab_device.specs.declared.device.Device.{Device}
use Rattle.vab_device.specs.Does.{Does}
use Rattle.vab_disk.proofs.CallLaws.{failed_then}
use Rattle.vab_device.proofs.DoesLaws.{dead_means, fails_dead, fails_gate, does_gate}
use Rattle.vab_finish.specs.Finished.{finished_device}
use Rattle.vab_finish.specs.Writes.{IsOfFinished}
use Rattle.vab_finish.proofs.KeptLaws.{finished_kept, source_stays}
use Rattle.vab_finish.proofs.ReadyLaws.{finish_follows}
use Rattle.vab_finish.proofs.StepLaws.{installing_of, Writes, finish_dead, finish_step}
use Rattle.vab_finish.proofs.finishing.end_installation.Goals as goal

-- a sector that was written has the boot control
has_control : (c : Control) (old new : Image) → HasControl c old new → control_of (new 4) ≡ Ok c
has_control c old new has =
    ap (λ (i : Image). control_of (i 4)) has.2
    ∙ ap control_of (set_here old 4 has.0 4 refl)
    ∙ has.1.control

-- what was written is of the boot control that the device has with nothing said of the target
module _ {D : Type 0} (g : Ghosts D) (d : Device) (old mid : D) (c : Control)
    (is : c ≡ cleared_of d.control (other_slot d.mark.slot)) where
  touches_as : Touches g (IsControl g.is_modelled c (g.seen old 4)) old mid
      → Touches g (Writes g.is_modelled (g.size old) (g.seen old) d) old mid
  touches_as touches =
      subst (λ (k : Control). Touches g (IsControl g.is_modelled k (g.seen old 4)) old mid)
      is touches

  control_as : HasControl c (g.seen old) (g.seen mid)
      → control_of (g.seen mid 4) ≡ Ok (cleared_of d.control (other_slot d.mark.slot))
  control_as has = has_control c (g.seen old) (g.seen mid) has ∙ ap Ok is

pub returns-in-Err : goal.returns-in-Err
returns-in-Err g c = λ staged.
    let d = c.args.device in
    let old = c.args.d.now in
    let mid = c.settle_control.new.d in
    let size = g.D.Disk.size old in
    let told = g.D.Disk.is_modelled in
    let bytes = g.D.Disk.seen old 4 in
    let V = Writes told size (g.D.Disk.seen old) d in
    fails_dead g.D.Disk d staged Finish (IsOfFinished told d bytes) old mid V
    (λ t. dead_means d size (g.D.Disk.seen old) V (c.requires.represents t)
    (finish_dead told size (g.D.Disk.seen old) d c.requires.kept (c.requires.represents t)
    c.requires.ready))
    (touches_as g.D.Disk d old mid c.cleared-control.result c.cleared-control.ensures.exact
    c.settle_control.ensures.touches)
    (λ t s b w. record { ready = c.requires.ready; writes = inl w })
    _ (λ t. finish_follows d (g.D.Disk.seen old) staged c.requires.ready)
    c.in-Err.ensures.faults.cause

pub returns-in-Err-put_mark : goal.returns-in-Err-put_mark
returns-in-Err-put_mark g c = λ staged.
    let d = c.args.device in
    let old = c.args.d.now in
    let mid = c.settle_control.new.d in
    let size = g.D.Disk.size old in
    let told = g.D.Disk.is_modelled in
    let bytes = g.D.Disk.seen old 4 in
    let V = Writes told size (g.D.Disk.seen old) d in
    let touches = touches_as g.D.Disk d old mid c.cleared-control.result
    c.cleared-control.ensures.exact c.settle_control.ensures.touches in
    let step = λ (t : told).
    finish_step told size (g.D.Disk.seen old) d c.requires.kept (c.requires.represents t)
    c.requires.ready (g.D.Disk.seen mid) (touches.seen t)
    (control_as g.D.Disk d old mid c.cleared-control.result c.cleared-control.ensures.exact
    (c.in-Ok.ensures.sector t))
    c.put_mark.ensures.read staged in
    fails_gate g.D.Disk d staged Finish (IsOfFinished told d bytes) old mid V
    (λ t. dead_means d size (g.D.Disk.seen old) V (c.requires.represents t)
    (finish_dead told size (g.D.Disk.seen old) d c.requires.kept (c.requires.represents t)
    c.requires.ready))
    touches (λ t s b w. record { ready = c.requires.ready; writes = inl w })
    c.put_mark.new.d (finished_device d) replies.Done 2048
    (mark_spelling (rephased marks.Staged d.mark))
    (λ t. (step t).effect) (λ t. (step t).represents)
    (λ t rest. c.put_mark.ensures.gate t (c.in-Ok.ensures.settled t))
    c.put_mark.ensures.touches
    (λ s b at. record { ready = c.requires.ready; writes = inr at })
    _ (failed_then _ _ _ c.in-Ok.ensures.faults.steady c.in-Err-put_mark.ensures.faults.cause)

pub returns-in-Ok-put_mark : goal.returns-in-Ok-put_mark
returns-in-Ok-put_mark g c = λ staged.
    let d = c.args.device in
    let old = c.args.d.now in
    let mid = c.settle_control.new.d in
    let size = g.D.Disk.size old in
    let told = g.D.Disk.is_modelled in
    let bytes = g.D.Disk.seen old 4 in
    let V = Writes told size (g.D.Disk.seen old) d in
    let touches = touches_as g.D.Disk d old mid c.cleared-control.result
    c.cleared-control.ensures.exact c.settle_control.ensures.touches in
    let step = λ (t : told).
    finish_step told size (g.D.Disk.seen old) d c.requires.kept (c.requires.represents t)
    c.requires.ready (g.D.Disk.seen mid) (touches.seen t)
    (control_as g.D.Disk d old mid c.cleared-control.result c.cleared-control.ensures.exact
    (c.in-Ok.ensures.sector t))
    c.put_mark.ensures.read staged in
    subst (λ (k : Device). Does g.D.Disk d staged Finish (IsOfFinished told d bytes) old
    c.put_mark.new.d (Ok (k, replies.Done))) (sym c.finished.ensures)
    (does_gate g.D.Disk d staged Finish (IsOfFinished told d bytes) old mid V
    (λ t. dead_means d size (g.D.Disk.seen old) V (c.requires.represents t)
    (finish_dead told size (g.D.Disk.seen old) d c.requires.kept (c.requires.represents t)
    c.requires.ready))
    touches (λ t s b w. record { ready = c.requires.ready; writes = inl w })
    c.put_mark.new.d (finished_device d) replies.Done 2048
    (mark_spelling (rephased marks.Staged d.mark))
    (λ t. (step t).effect) (λ t. (step t).represents)
    (λ t rest. c.put_mark.ensures.gate t (c.in-Ok.ensures.settled t))
    c.put_mark.ensures.touches
    (λ s b at. record { ready = c.requires.ready; writes = inr at })
    (finished_kept d size c.requires.kept (installing_of d size c.requires.kept c.requires.ready))
    (record { geometry = refl; slot = refl; parts = source_stays d.mark.slot d.a d.b d.plan })
    c.in-Ok-put_mark.ensures.written c.in-Ok-put_mark.ensures.settled
    (c.in-Ok-put_mark.ensures.faults.steady ∙ c.in-Ok.ensures.faults.steady))
