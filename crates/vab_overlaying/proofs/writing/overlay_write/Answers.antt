use Rattle.std.proofs.Common.{ℕ, List, refl, false, option_map, Bor}
use Rattle.vab_disk.specs.Calls.{InSectors}
use Rattle.vab_disk.proofs.CallLaws.{reads_none}
use Rattle.vab_model.specs.declared.command.Reply.TheVariants as replies
use Rattle.vab_model.specs.Commands.{OverlayWrite}
use Rattle.vab_device.proofs.DoesLaws.{does_nothing}
use Rattle.vab_overlaying.specs.Writes.{IsOfOverlaid}
use Rattle.vab_overlaying.proofs.writing.overlay_write.Goals as goal

pub returns-in-Err : goal.returns-in-Err
returns-in-Err g c =
    let d = c.args.device in
    let old = c.args.d.now in
    does_nothing g.D.Disk d (option_map (λ (s : Bor (List ℕ)). s.now) c.args.staged)
    (OverlayWrite c.args.block) (InSectors (IsOfOverlaid d)) false
    (replies.Refused c.in-Err.refusal) old old {wants = false} c.requires.kept c.requires.represents
    (λ t. c.in-Err.ensures.refused (g.D.Disk.size old) (g.D.Disk.seen old) c.requires.kept
    (λ s lt.
    (g.met.D.Disk.whole old s (g.D.Disk.seen old s) lt (g.met.D.Disk.seen_held old s)).long))
    (reads_none g.D.Disk old) refl
