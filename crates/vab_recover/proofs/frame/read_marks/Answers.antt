use Rattle.std.proofs.Common.{◌∙◌, ℕ, Err, sym, ap, arith}
use Rattle.std.proofs.lemmas.Bool.{le-leb, lt-leb}
use Rattle.vab_device.specs.declared.fault.StartFault.TheVariants.{TooSmall}
use Rattle.vab_device.specs.Reading.{statuses_at, version_at}
use Rattle.vab_device.proofs.OpeningLaws.{device_small, device_no_mark, device_no_statuses}
use Rattle.vab_recover.proofs.FrameLaws.{reads_if}
use Rattle.vab_recover.proofs.frame.read_marks.Goals as goal

pub returns-then-sectors-lt-MIN_SECTORS-clause-fault :
    goal.returns-then-sectors-lt-MIN_SECTORS-clause-fault
returns-then-sectors-lt-MIN_SECTORS-clause-fault g c = λ t kind.
    let size : ℕ = g.D.Disk.size c.args.d.now in
    let few =
    lt-leb 4120 size (omega (arith, c.sectors-sectors.ensures, c.if-sectors-lt-MIN_SECTORS.true)) in
    device_small size (g.D.Disk.seen c.args.d.now) few
    ∙ ap (λ (n : ℕ). Err (TooSmall 4120 n)) (sym c.sectors-sectors.ensures)

pub returns-in-Err-clause-fault : goal.returns-in-Err-clause-fault
returns-in-Err-clause-fault g c = λ t kind.
    let size : ℕ = g.D.Disk.size c.args.d.now in
    let enough =
    le-leb 4120 size (omega (arith, c.sectors-sectors.ensures, c.if-sectors-lt-MIN_SECTORS.false))
    in
    device_no_mark size (g.D.Disk.seen c.args.d.now) _ enough (c.in-Err.ensures.answers t kind)

pub read_if-requires-clause-version : goal.read_if-requires-clause-version
read_if-requires-clause-version g c = λ t.
    ap version_at (c.read_version.ensures.reads.seen t)
    ∙ c.in-Ok-read_version.ensures.version t

pub returns-in-Err-read_if-clause-fault : goal.returns-in-Err-read_if-clause-fault
returns-in-Err-read_if-clause-fault g c = λ t kind.
    let size : ℕ = g.D.Disk.size c.args.d.now in
    let enough =
    le-leb 4120 size (omega (arith, c.sectors-sectors.ensures, c.if-sectors-lt-MIN_SECTORS.false))
    in
    let m = c.in-Ok.mark in
    let reads = reads_if m ∙ sym c.reads_statuses.ensures in
    let seen = sym (c.read_version.ensures.reads.seen t ∙ c.read_mark.ensures.reads.seen t) in
    device_no_statuses size (g.D.Disk.seen c.args.d.now) m _ enough (c.in-Ok.ensures.answers t)
    ((λ i. statuses_at (reads i) (seen i)) ∙ c.in-Err-read_if.ensures.fault t kind)
