use Rattle.std.proofs.Common.{◌∙◌, ◌≡◌, ℕ, sym, subst}
use Rattle.std.specs.Prelude.{IfOk, IfErr, Err}
use Rattle.vab_disk.specs.Disk.{Image}
use Rattle.vab_device.specs.Phases.{phase_at}
use Rattle.vab_device.specs.Faults.{IsOfContents}
use Rattle.vab_device.specs.Reading.{device}
use Rattle.vab_recover.specs.Behind.{SameSuper}
use Rattle.vab_recover.specs.declared.frame.Frame.{Frame}
use Rattle.vab_recover.specs.Opened.{IsFramed, IsOpened}
use Rattle.vab_recover.proofs.BehindLaws.{tables_as, framed_of}
use Rattle.vab_recover.proofs.FrameLaws.{no_tables}
use Rattle.vab_recover.proofs.opening.open_behind.Goals as goal

pub returns-in-Err-clause-fault : goal.returns-in-Err-clause-fault
returns-in-Err-clause-fault g c = λ t image same headed kind.
    let h = c.args.heads in
    no_tables (g.D.Disk.size c.args.d.now) image h.mark h.version h.statuses.items h.control
    h.tail h.geometry _ headed
    (tables_as h.tail.super_end h.geometry
    (phase_at h.mark).tables (g.D.Disk.seen c.args.d.now) image same
    ∙ c.in-Err.ensures.fault t kind)

pub returns-in-Ok-clause-opened : goal.returns-in-Ok-clause-opened
returns-in-Ok-clause-opened g c = λ t image same headed.
    let size = g.D.Disk.size c.args.d.now in
    let old = g.D.Disk.seen c.args.d.now in
    let seen = c.read_tables.ensures.reads.seen t in
    let f : Frame = record { heads = c.args.heads; tables = c.in-Ok.tables } in
    let framed = framed_of size f old image same headed (c.in-Ok.ensures.ok t)
    (c.in-Ok.ensures.loaded t) in
    subst (λ (n : ℕ). IfOk c.open_framed.result (λ r. IsOpened r.0 r.1 n image))
    c.read_tables.ensures.reads.quiet.size
    (c.open_framed.ensures.opened t image (subst (λ (i : Image). SameSuper i image) (sym seen) same)
    (subst (λ (n : ℕ). IsFramed n image f) (sym c.read_tables.ensures.reads.quiet.size) framed))

pub returns-in-Ok-clause-fault : goal.returns-in-Ok-clause-fault
returns-in-Ok-clause-fault g c = λ t image same headed.
    let size = g.D.Disk.size c.args.d.now in
    let old = g.D.Disk.seen c.args.d.now in
    let seen = c.read_tables.ensures.reads.seen t in
    let f : Frame = record { heads = c.args.heads; tables = c.in-Ok.tables } in
    let framed = framed_of size f old image same headed (c.in-Ok.ensures.ok t)
    (c.in-Ok.ensures.loaded t) in
    subst
    (λ (n : ℕ). IfErr c.open_framed.result (λ f. IsOfContents f → device n image ≡ Err f))
    c.read_tables.ensures.reads.quiet.size
    (c.open_framed.ensures.fault t image (subst (λ (i : Image). SameSuper i image) (sym seen) same)
    (subst (λ (n : ℕ). IsFramed n image f) (sym c.read_tables.ensures.reads.quiet.size) framed))
