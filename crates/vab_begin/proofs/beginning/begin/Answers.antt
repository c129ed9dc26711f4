use Rattle.std.proofs.Common.{◌∙◌, refl, sym, ap, false}
use Rattle.vab_disk.proofs.CallLaws.{reads_none}
use Rattle.vab_model.specs.declared.command.Refusal.{Refusal}
use Rattle.vab_model.specs.declared.command.Reply.TheVariants as replies
use Rattle.vab_model.specs.declared.command.Refusal.TheVariants as refusals
use Rattle.vab_model.specs.Effects.{Effect, refuses, wanting, unless_refused}
use Rattle.vab_device.specs.Updates.{is_full_table}
use Rattle.vab_device.specs.Mounted.{Mounted, mounted_on}
use Rattle.vab_marks.specs.declared.mark.MarkPhase.TheVariants as marks
use Rattle.vab_begin.specs.Writes.{begin_of, IsOfBegun}
use Rattle.vab_device.proofs.DoesLaws.{does_nothing}
use Rattle.vab_device.proofs.PhaseCases.{idle_of, planned_of, unplanned_of, installing_of}
use Rattle.vab_device.proofs.PhaseCases.{staged_of}
use Rattle.vab_device.proofs.PhaseCases.{merging_of}
use Rattle.vab_begin.proofs.BegunLaws.{begin_refused, begin_staged, begin_merging, begin_is}
use Rattle.vab_begin.proofs.BegunLaws.{begin_over}
use Rattle.vab_begin.proofs.BegunLaws.{is_memory, refused_is}
use Rattle.vab_begin.proofs.beginning.begin.Goals as goal

pub returns-then-device-clause-does : goal.returns-then-device-clause-does
returns-then-device-clause-does g c = λ staged.
    let d = c.args.device in
    let old = c.args.d.now in
    let size = g.D.Disk.size old in
    does_nothing g.D.Disk d staged (begin_of c.args.apart)
    (IsOfBegun g.D.Disk.is_modelled c.args.apart d (g.D.Disk.seen old 4))
    false
    (replies.Refused refusals.NotIdle) old old c.requires.kept c.requires.represents
    (λ t.
    begin_over c.args.apart d size (g.D.Disk.seen old) staged c.requires.kept c.if-device.true)
    (reads_none g.D.Disk old) refl

pub returns-in-Installing-clause-does : goal.returns-in-Installing-clause-does
returns-in-Installing-clause-does g c = λ staged.
    let d = c.args.device in
    let old = c.args.d.now in
    let size = g.D.Disk.size old in
    let plan = planned_of d size c.requires.kept
    (installing_of d c.in-Installing.field-0 c.in-Installing.ensures) in
    does_nothing g.D.Disk d staged (begin_of c.args.apart)
    (IsOfBegun g.D.Disk.is_modelled c.args.apart d (g.D.Disk.seen old 4))
    false
    (replies.Refused refusals.NotIdle) old old c.requires.kept c.requires.represents
    (λ t. begin_refused c.args.apart d (g.D.Disk.seen old) staged plan.0 plan.1)
    (reads_none g.D.Disk old) refl

pub returns-in-Staged-clause-does : goal.returns-in-Staged-clause-does
returns-in-Staged-clause-does g c = λ staged.
    let d = c.args.device in
    let old = c.args.d.now in
    let size = g.D.Disk.size old in
    let phase = staged_of d c.in-Staged.field-0 c.in-Staged.ensures in
    does_nothing g.D.Disk d staged (begin_of c.args.apart)
    (IsOfBegun g.D.Disk.is_modelled c.args.apart d (g.D.Disk.seen old 4))
    false
    (replies.Refused refusals.NotIdle) old old c.requires.kept c.requires.represents
    (λ t. begin_staged c.args.apart d (g.D.Disk.seen old) staged
    (unplanned_of d size marks.Staged c.requires.kept refl phase.0) phase.0)
    (reads_none g.D.Disk old) refl

pub returns-in-Merging-clause-does : goal.returns-in-Merging-clause-does
returns-in-Merging-clause-does g c = λ staged.
    let d = c.args.device in
    let old = c.args.d.now in
    let size = g.D.Disk.size old in
    let phase = merging_of d c.in-Merging.field-0 c.in-Merging.ensures in
    does_nothing g.D.Disk d staged (begin_of c.args.apart)
    (IsOfBegun g.D.Disk.is_modelled c.args.apart d (g.D.Disk.seen old 4))
    false
    (replies.Refused refusals.NotIdle) old old c.requires.kept c.requires.represents
    (λ t. begin_merging c.args.apart d (g.D.Disk.seen old) staged
    (unplanned_of d size marks.Merging c.requires.kept refl phase) phase)
    (reads_none g.D.Disk old) refl

pub returns-in-Err-clause-does : goal.returns-in-Err-clause-does
returns-in-Err-clause-does g c = λ staged.
    let d = c.args.device in
    let old = c.args.d.now in
    let size = g.D.Disk.size old in
    let for = c.in-Err.ensures.refused in
    let fault = c.in-Err.fault in
    does_nothing g.D.Disk d staged (begin_of c.args.apart)
    (IsOfBegun g.D.Disk.is_modelled c.args.apart d (g.D.Disk.seen old 4))
    (is_memory fault) (replies.Refused c.refusal.result) old old c.requires.kept
    c.requires.represents
    (λ t.
    ap (λ (e : Effect Mounted). unless_refused (is_memory fault) e)
    (begin_is c.args.apart d size (g.D.Disk.seen old) staged for.source c.requires.kept
    (idle_of d size c.requires.kept c.in-Idle.ensures) c.if-device.false for.is)
    ∙ refused_is c.args.apart (mounted_on d (g.D.Disk.seen old)) d.mark.slot d.geometry.max
    for.source fault
    for.refused
    ∙ ap (λ (r : Refusal). wanting (is_full_table fault) (refuses r)) (sym c.refusal.ensures))
    (reads_none g.D.Disk old) refl
