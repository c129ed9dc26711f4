use Rattle.std.proofs.Common.{refl, sym, subst, Ok}
use Rattle.vab_model.specs.declared.command.Reply.TheVariants as replies
use Rattle.vab_model.specs.Commands.{BeginMerge}
use Rattle.vab_device.specs.declared.device.Device.{Device}
use Rattle.vab_device.specs.Does.{Does}
use Rattle.vab_device.proofs.MarkGate.{mark_fails, mark_does}
use Rattle.vab_merging.specs.Kept.{merging_device}
use Rattle.vab_merging.specs.GateWrites.{IsOfMergeBegun, merging_mark}
use Rattle.vab_merging.proofs.KeptLaws.{merging_kept}
use Rattle.vab_merging.proofs.GateSteps.{begin_step}
use Rattle.vab_merging.proofs.beginning.give_up_source.Goals as goal

pub returns-in-Err : goal.returns-in-Err
returns-in-Err g c = λ staged.
    let d = c.args.device in
    let old = c.args.d.now in
    let step = λ (t : g.D.Disk.is_modelled).
    begin_step (g.D.Disk.size old) (g.D.Disk.seen old) d c.requires.kept
    (c.requires.represents t) c.requires.may c.put_mark.ensures.read staged in
    mark_fails g.D.Disk d staged BeginMerge (IsOfMergeBegun d) old c.put_mark.new.d
    (merging_device d) replies.Done (merging_mark d.mark) c.requires.represents
    (λ t. (step t).effect) (λ t. (step t).represents)
    (λ s b at. record { may = c.requires.may; mark = at })
    _ refl c.put_mark.ensures.gate c.put_mark.ensures.touches _ c.in-Err.ensures.faults.cause

pub returns-in-Ok : goal.returns-in-Ok
returns-in-Ok g c = λ staged.
    let d = c.args.device in
    let old = c.args.d.now in
    let size = g.D.Disk.size old in
    let step = λ (t : g.D.Disk.is_modelled).
    begin_step size (g.D.Disk.seen old) d c.requires.kept (c.requires.represents t)
    c.requires.may c.put_mark.ensures.read staged in
    subst
    (λ (next : Device).
    Does g.D.Disk d staged BeginMerge (IsOfMergeBegun d) old c.put_mark.new.d
    (Ok (next, replies.Done))) (sym c.merging.ensures)
    (mark_does g.D.Disk d staged BeginMerge (IsOfMergeBegun d) old c.put_mark.new.d
    (merging_device d) replies.Done (merging_mark d.mark) c.requires.represents
    (λ t. (step t).effect) (λ t. (step t).represents)
    (λ s b at. record { may = c.requires.may; mark = at })
    _ refl c.put_mark.ensures.gate c.put_mark.ensures.touches
    (merging_kept d size c.requires.kept c.requires.may)
    (record { geometry = refl; source = λ no. absurd cc })
    c.in-Ok.ensures.written c.in-Ok.ensures.settled c.in-Ok.ensures.faults.steady)
