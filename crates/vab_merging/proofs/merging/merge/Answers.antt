use Rattle.std.proofs.Common.{refl, false}
use Rattle.vab_disk.proofs.CallLaws.{reads_none}
use Rattle.vab_marks.specs.declared.mark.MarkPhase.TheVariants as marks
use Rattle.vab_model.specs.declared.command.Reply.TheVariants as replies
use Rattle.vab_model.specs.declared.command.Refusal.TheVariants as refusals
use Rattle.vab_model.specs.Commands.{Merge}
use Rattle.vab_device.proofs.DoesLaws.{does_nothing}
use Rattle.vab_device.proofs.PhaseCases.{idle_of, installing_of, staged_of}
use Rattle.vab_device.proofs.PhaseCases.{planned_of, unplanned_of}
use Rattle.vab_merging.specs.Writes.{IsOfMerge}
use Rattle.vab_merging.proofs.EffectLaws.{refused_idle, refused_installing, refused_staged}
use Rattle.vab_merging.proofs.merging.merge.Goals as goal

pub returns-in-Idle : goal.returns-in-Idle
returns-in-Idle g c = λ staged.
    let d = c.args.device in
    let old = c.args.d.now in
    let size = g.D.Disk.size old in
    let blocks = c.args.blocks in
    let phase = idle_of d size c.requires.kept c.in-Idle.ensures in
    does_nothing g.D.Disk d staged (Merge blocks) (IsOfMerge d blocks) false
    (replies.Refused refusals.NotMerging) old old c.requires.kept c.requires.represents
    (λ t. refused_idle d (g.D.Disk.seen old) staged blocks
    (unplanned_of d size marks.Idle c.requires.kept refl phase) phase)
    (reads_none g.D.Disk old) refl

pub returns-in-Installing : goal.returns-in-Installing
returns-in-Installing g c = λ staged.
    let d = c.args.device in
    let old = c.args.d.now in
    let size = g.D.Disk.size old in
    let blocks = c.args.blocks in
    let phase = installing_of d c.in-Installing.field-0 c.in-Installing.ensures in
    let plan = planned_of d size c.requires.kept phase in
    does_nothing g.D.Disk d staged (Merge blocks) (IsOfMerge d blocks) false
    (replies.Refused refusals.NotMerging) old old c.requires.kept c.requires.represents
    (λ t. refused_installing d (g.D.Disk.seen old) staged blocks plan.0 plan.1)
    (reads_none g.D.Disk old) refl

pub returns-in-Staged : goal.returns-in-Staged
returns-in-Staged g c = λ staged.
    let d = c.args.device in
    let old = c.args.d.now in
    let size = g.D.Disk.size old in
    let blocks = c.args.blocks in
    let phase = staged_of d c.in-Staged.field-0 c.in-Staged.ensures in
    does_nothing g.D.Disk d staged (Merge blocks) (IsOfMerge d blocks) false
    (replies.Refused refusals.NotMerging) old old c.requires.kept c.requires.represents
    (λ t. refused_staged d (g.D.Disk.seen old) staged blocks
    (unplanned_of d size marks.Staged c.requires.kept refl phase.0) phase.0)
    (reads_none g.D.Disk old) refl
