use Rattle.std.proofs.Common.{◌∙◌, sym, ap}
use Rattle.vab_disk.specs.Disk.{Image}
use Rattle.vab_bootctl.specs.Control.{control_of}
use Rattle.vab_device.specs.Reading.{control_in}
use Rattle.vab_recover.specs.Opened.{ends_at}
use Rattle.vab_recover.proofs.FrameLaws.{no_control, no_ends}
use Rattle.vab_recover.proofs.frame.read_heads.Goals as goal

pub returns-in-Err-read_control-clause-fault : goal.returns-in-Err-read_control-clause-fault
returns-in-Err-read_control-clause-fault g c = λ t kind.
    let seen = sym (c.read_marks.ensures.reads.seen t) in
    no_control (g.D.Disk.size c.args.d.now) (g.D.Disk.seen c.args.d.now) c.in-Ok.mark
    c.in-Ok.version c.in-Ok.statuses.items _ (c.in-Ok.ensures.marked t)
    (λ a b. ap (control_in a b) seen ∙ c.in-Err-read_control.ensures.fault t kind a b)

pub returns-in-Err-read_ends-clause-fault : goal.returns-in-Err-read_ends-clause-fault
returns-in-Err-read_ends-clause-fault g c = λ t kind.
    let seen = sym (c.read_marks.ensures.reads.seen t) in
    let both = sym (c.read_control.ensures.reads.seen t ∙ c.read_marks.ensures.reads.seen t) in
    let size =
    sym (c.read_control.ensures.reads.quiet.size ∙ c.read_marks.ensures.reads.quiet.size) in
    no_ends (g.D.Disk.size c.args.d.now) (g.D.Disk.seen c.args.d.now) c.in-Ok.mark
    c.in-Ok.version c.in-Ok.statuses.items c.in-Ok-read_control.control _ (c.in-Ok.ensures.marked t)
    (ap (λ (i : Image). control_of (i 4)) seen ∙ c.in-Ok-read_control.ensures.ok t)
    ((λ i. ends_at c.in-Ok.mark.physical (size i) (both i))
    ∙ c.in-Err-read_ends.ensures.fault t kind)
