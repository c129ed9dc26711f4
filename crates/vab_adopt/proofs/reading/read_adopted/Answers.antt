use Rattle.std.proofs.Common.{◌≡◌, ℕ, Err, sym, subst, arith}
use Rattle.std.specs.Prelude.{IfOk, IfErr}
use Rattle.vab_disk.specs.Disk.{Image, IsSector}
use Rattle.vab_device.specs.Faults.{IsOfContents}
use Rattle.vab_device.specs.Reading.{device}
use Rattle.vab_recover.specs.Behind.{SameSuper}
use Rattle.vab_recover.specs.Opened.{IsHeaded, IsOpened}
use Rattle.vab_adopt.specs.Adopted.{adopted, with_heads}
use Rattle.vab_adopt.proofs.HeadLaws.{has_heads, old_super}
use Rattle.vab_adopt.proofs.reading.read_adopted.Goals as goal

pub returns-in-Ok-clause-opened : goal.returns-in-Ok-clause-opened
returns-in-Ok-clause-opened g c = λ t.
    let slot = c.args.slot in
    let h = c.in-Ok.heads in
    let old = g.D.Disk.seen c.args.d.now in
    let size = c.heads.ensures.reads.quiet.size in
    let seen = c.heads.ensures.reads.seen t in
    let sector : IsSector (old 4) =
    g.met.D.Disk.whole c.args.d.now 4 (old 4)
    (omega (arith, c.in-Ok.ensures.are.enough, c.in-Ok.ensures.are.ends))
    (g.met.D.Disk.seen_held c.args.d.now 4) in
    let super = old_super slot old (with_heads slot old)
    (has_heads slot old c.requires.slot sector) in
    subst (λ (n : ℕ). IfOk c.open_behind.result (λ r. IsOpened r.0 r.1 n (with_heads slot old)))
    size
    (c.open_behind.ensures.opened t (with_heads slot old)
    (subst (λ (i : Image). SameSuper i (with_heads slot old)) (sym seen) super)
    (subst
    (λ (n : ℕ).
    IsHeaded n (with_heads slot old) h.mark h.version h.statuses.items h.control h.tail
    h.geometry)
    (sym size) (c.in-Ok.ensures.headed t)))

pub returns-in-Ok-clause-fault : goal.returns-in-Ok-clause-fault
unfolding adopted
returns-in-Ok-clause-fault g c = λ t.
    let slot = c.args.slot in
    let h = c.in-Ok.heads in
    let old = g.D.Disk.seen c.args.d.now in
    let size = c.heads.ensures.reads.quiet.size in
    let seen = c.heads.ensures.reads.seen t in
    let sector : IsSector (old 4) =
    g.met.D.Disk.whole c.args.d.now 4 (old 4)
    (omega (arith, c.in-Ok.ensures.are.enough, c.in-Ok.ensures.are.ends))
    (g.met.D.Disk.seen_held c.args.d.now 4) in
    let super = old_super slot old (with_heads slot old)
    (has_heads slot old c.requires.slot sector) in
    subst
    (λ (n : ℕ).
    IfErr c.open_behind.result (λ f. IsOfContents f → device n (with_heads slot old) ≡ Err f))
    size
    (c.open_behind.ensures.fault t (with_heads slot old)
    (subst (λ (i : Image). SameSuper i (with_heads slot old)) (sym seen) super)
    (subst
    (λ (n : ℕ).
    IsHeaded n (with_heads slot old) h.mark h.version h.statuses.items h.control h.tail
    h.geometry)
    (sym size) (c.in-Ok.ensures.headed t)))
