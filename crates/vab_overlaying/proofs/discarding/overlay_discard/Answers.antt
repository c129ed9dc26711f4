use Rattle.std.proofs.Common.{refl, false}
use Rattle.vab_disk.proofs.CallLaws.{reads_none}
use Rattle.vab_model.specs.declared.command.Reply.TheVariants as replies
use Rattle.vab_model.specs.declared.command.Refusal.TheVariants as refusals
use Rattle.vab_model.specs.Commands.{OverlayDiscard}
use Rattle.vab_device.proofs.DoesLaws.{does_nothing}
use Rattle.vab_device.proofs.OverlayLaws.{plain_none}
use Rattle.vab_overlaying.specs.Writes.{IsOfDiscard}
use Rattle.vab_overlaying.proofs.DiscardLaws.{discard_refused}
use Rattle.vab_overlaying.proofs.discarding.overlay_discard.Goals as goal

pub returns-else-device : goal.returns-else-device
returns-else-device g c = λ staged.
    let d = c.args.device in
    let old = c.args.d.now in
    let size = g.D.Disk.size old in
    does_nothing g.D.Disk d staged OverlayDiscard (IsOfDiscard d) false
    (replies.Refused refusals.NotOverlaid) old old c.requires.kept c.requires.represents
    (λ t. discard_refused d (g.D.Disk.seen old) staged
    (plain_none d size c.requires.kept c.if-device.false))
    (reads_none g.D.Disk old) refl
