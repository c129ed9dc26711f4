use Rattle.std.proofs.Common.{◌≡◌, ℕ, subst}
use Rattle.std.specs.Prelude.{Option, Some, None}
use Rattle.vab_marks.specs.Version.{partitions_under}
use Rattle.vab_device.specs.declared.fault.StartFault.{StartFault}
use Rattle.vab_recover.specs.Opened.{fault_of}
use Rattle.vab_recover.specs.declared.frame.Frame.{Frame}
use Rattle.vab_recover.proofs.BehindLaws.{framed_stores}
use Rattle.vab_recover.proofs.FrameLaws.{frame_judged, frame_scanned, frame_stated, frame_read}
use Rattle.vab_recover.proofs.FrameLaws.{kept_is, opened_of, slots_are}
use Rattle.vab_recover.proofs.FinishLaws.{source_on_disk, through_are, through_on_disk}
use Rattle.vab_recover.proofs.FinishLaws.{assembled_kept}
use Rattle.vab_recover.proofs.opening.open_framed.Goals as goal

-- the rules are judged by the number that the version of the mark says
by_version : (n : ℕ) (f : Frame) (x : Option StartFault)
    → n ≡ partitions_under f.heads.version
    → fault_of n f.heads.mark f.tables.source.table f.tables.target ≡ x
    → fault_of (partitions_under f.heads.version) f.heads.mark
    f.tables.source.table f.tables.target
    ≡ x
by_version n f x same is =
    subst
    (λ (k : ℕ).
    fault_of k f.heads.mark f.tables.source.table f.tables.target ≡ x)
    same is

pub read_stores-requires-clause-target : goal.read_stores-requires-clause-target
read_stores-requires-clause-target g c =
    let f = c.args.frame in
    through_are (g.D.Disk.size c.args.d.now) f.heads.tail f.heads.geometry f.heads.mark f.tables
    c.requires.there c.in-Ok.ensures.update c.in-Ok.ensures.merging

pub read_stores-requires-clause-on_disk : goal.read_stores-requires-clause-on_disk
read_stores-requires-clause-on_disk g c =
    let f = c.args.frame in
    through_on_disk (g.D.Disk.size c.args.d.now) f.heads.tail f.heads.geometry f.heads.mark f.tables
    c.requires.there c.in-Ok.ensures.update c.in-Ok.ensures.merging
    c.requires.are.enough c.requires.are.ends

pub read_stores-requires-clause-source_on_disk : goal.read_stores-requires-clause-source_on_disk
read_stores-requires-clause-source_on_disk g c =
    let f = c.args.frame in
    source_on_disk (g.D.Disk.size c.args.d.now) f.heads.tail f.heads.geometry f.heads.mark f.tables
    c.requires.there c.in-Ok.ensures.update c.in-Ok.ensures.merging
    c.requires.are.enough c.requires.are.ends

pub returns-in-Err-clause-fault : goal.returns-in-Err-clause-fault
returns-in-Err-clause-fault g c = λ t image same framed kind.
    frame_judged (g.D.Disk.size c.args.d.now) image c.args.frame
    framed c.requires.are.phase c.requires.are.slot c.requires.there.both _
    (by_version _ c.args.frame (Some c.in-Err.fault) c.partitions.ensures.is
    (c.in-Err.ensures.fault kind))

pub returns-in-Err-read_stores-clause-fault : goal.returns-in-Err-read_stores-clause-fault
returns-in-Err-read_stores-clause-fault g c = λ t image same framed kind.
    frame_scanned (g.D.Disk.size c.args.d.now) image c.args.frame
    framed c.requires.are.phase c.requires.are.slot c.requires.there.both _
    (by_version _ c.args.frame None c.partitions.ensures.is c.in-Ok.ensures.kept)
    (framed_stores c.args.frame
    (g.D.Disk.seen c.args.d.now) image _ same (c.in-Err-read_stores.ensures.fault t kind))

pub returns-in-Err-judge_slots-clause-fault : goal.returns-in-Err-judge_slots-clause-fault
returns-in-Err-judge_slots-clause-fault g c = λ t image same framed kind.
    let f = c.args.frame in
    let plan = c.in-Ok-read_stores.ensures.stored in
    frame_stated (g.D.Disk.size c.args.d.now) image f framed
    c.requires.are.phase c.requires.are.slot c.requires.there.both plan.scanned _
    (by_version _ c.args.frame None c.partitions.ensures.is c.in-Ok.ensures.kept)
    (framed_stores f (g.D.Disk.seen c.args.d.now) image _ same (plan.read t))
    (slots_are f c.in-Ok-read_stores.stored.through plan.scanned _ plan.through_is
    c.in-Err-judge_slots.ensures.fault)

pub returns-in-Ok-assemble-clause-opened : goal.returns-in-Ok-assemble-clause-opened
returns-in-Ok-assemble-clause-opened g c = λ t image same framed.
    let f = c.args.frame in
    let h = f.heads in
    let plan = c.in-Ok-read_stores.ensures.stored in
    let is = c.in-Ok-assemble.ensures.is in
    opened_of c.in-Ok-assemble.device f.tables (g.D.Disk.size c.args.d.now)
    image h.mark h.statuses.items h.control h.tail h.geometry plan.scanned is.mark
    is.control is.ends is.geometry
    (frame_read (g.D.Disk.size c.args.d.now) image f framed
    c.requires.are.phase c.requires.are.slot c.requires.there.both plan.scanned
    (by_version _ c.args.frame None c.partitions.ensures.is c.in-Ok.ensures.kept)
    (framed_stores f (g.D.Disk.seen c.args.d.now) image _ same (plan.read t))
    (slots_are f c.in-Ok-read_stores.stored.through plan.scanned _ plan.through_is
    c.in-Ok-judge_slots.ensures.ok))
    (kept_is c.in-Ok-assemble.device f.tables h.mark h.statuses.items h.control h.tail
    h.geometry c.in-Ok-read_stores.stored plan.scanned c.requires.are.phase c.requires.are.slot
    c.requires.there.both is plan.through_is plan.overlay_is)
    framed.heads.control framed.loaded

pub returns-in-Ok-assemble-clause-kept : goal.returns-in-Ok-assemble-clause-kept
returns-in-Ok-assemble-clause-kept g c =
    let f = c.args.frame in
    let h = f.heads in
    let plan = c.in-Ok-read_stores.ensures.stored in
    assembled_kept (g.D.Disk.size c.args.d.now) h.tail h.geometry h.mark f.tables c.requires.there
    c.in-Ok.ensures.update c.in-Ok.ensures.merging c.in-Ok-assemble.device h.statuses.items
    h.control c.in-Ok-read_stores.stored plan.scanned c.requires.are
    c.in-Ok-judge_slots.ensures.current c.in-Ok.ensures.own c.in-Ok.ensures.overlay
    c.in-Ok-assemble.ensures.is plan.through_is plan.overlay_is plan.are plan.over
