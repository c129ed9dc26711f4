use Rattle.std.proofs.Common.{ℕ, ◌<◌, sym, subst}
use Rattle.vab_look.proofs.StatusLaws.{page_there}
use Rattle.vab_look.proofs.status.status_text.Goals as goal

pub returns-in-Ok-page_of-clause-page : goal.returns-in-Ok-page_of-clause-page
returns-in-Ok-page_of-clause-page g c = λ t.
    let d = c.in-Ok.device in
    let size = g.D.Disk.size c.args.d.now in
    let old = g.D.Disk.seen c.args.d.now in
    let mid = c.probe.new.d in
    let reads = c.in-Ok.ensures.reads in
    page_there c.args.form d size old (g.D.Disk.seen mid) c.in-Ok-page_of.text.items
    c.in-Ok.ensures.kept (c.in-Ok.ensures.device t) (reads.seen t)
    (c.in-Ok-page_of.ensures size (g.D.Disk.seen mid) c.in-Ok.ensures.kept
    (λ s lt.
    (g.met.D.Disk.whole mid s (g.D.Disk.seen mid s)
    (subst (λ (n : ℕ). s < n) (sym reads.quiet.size) lt)
    (g.met.D.Disk.seen_held mid s)).long))
