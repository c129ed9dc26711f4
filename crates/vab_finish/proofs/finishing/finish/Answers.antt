use Rattle.std.proofs.Common.{refl, false}
use Rattle.vab_disk.proofs.CallLaws.{reads_none}
use Rattle.vab_model.specs.declared.command.Reply.TheVariants as replies
use Rattle.vab_model.specs.Commands.{Finish}
use Rattle.vab_device.proofs.DoesLaws.{does_nothing}
use Rattle.vab_finish.specs.Writes.{IsOfFinished}
use Rattle.vab_finish.proofs.finishing.finish.Goals as goal

pub returns-in-Some : goal.returns-in-Some
returns-in-Some g c = λ staged.
    let d = c.args.device in
    let old = c.args.d.now in
    does_nothing g.D.Disk d staged Finish
    (IsOfFinished g.D.Disk.is_modelled d (g.D.Disk.seen old 4)) false
    (replies.Refused c.in-Some.refusal) old old c.requires.kept c.requires.represents
    (λ t. c.in-Some.ensures.refused (g.D.Disk.seen old) staged)
    (reads_none g.D.Disk old) refl
