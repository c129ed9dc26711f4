use Rattle.std.proofs.Common.{◌≡◌, ℕ, Result, Ok, Err, ◌⊎◌, inr, sym, ap, subst}
use Rattle.std.specs.Prelude.{IfOk, IfErr}
use Rattle.vab_disk.specs.Disk.{Image}
use Rattle.vab_device.specs.declared.fault.StartFault.{StartFault}
use Rattle.vab_device.specs.Faults.{IsOfContents}
use Rattle.vab_device.specs.Reading.{device}
use Rattle.vab_recover.specs.Memory.{IsNamed}
use Rattle.vab_recover.specs.Opened.{IsHeaded, IsOpened}
use Rattle.vab_recover.proofs.opening.open.Goals as goal

-- whatever the fault is
behind_heads : {A H : Type 0} (r : Result A StartFault) → H → IfErr r (λ f. IsNamed f ⊎ H)
behind_heads (Ok x) heads = tt
behind_heads (Err f) heads = inr heads

pub returns-in-Ok-clause-opened : goal.returns-in-Ok-clause-opened
returns-in-Ok-clause-opened g c = λ t.
    let h = c.in-Ok.heads in
    let old = g.D.Disk.seen c.args.d.now in
    let size = c.read_heads.ensures.reads.quiet.size in
    let seen = c.read_heads.ensures.reads.seen t in
    subst (λ (n : ℕ). IfOk c.open_behind.result (λ r. IsOpened r.0 r.1 n old)) size
    (c.open_behind.ensures.opened t old (λ s le. ap (λ (i : Image). i s) (sym seen))
    (subst
    (λ (n : ℕ). IsHeaded n old h.mark h.version h.statuses.items h.control h.tail
    h.geometry)
    (sym size)
    (c.in-Ok.ensures.headed t)))

pub returns-in-Ok-clause-fault : goal.returns-in-Ok-clause-fault
returns-in-Ok-clause-fault g c = λ t.
    let h = c.in-Ok.heads in
    let old = g.D.Disk.seen c.args.d.now in
    let size = c.read_heads.ensures.reads.quiet.size in
    let seen = c.read_heads.ensures.reads.seen t in
    subst
    (λ (n : ℕ). IfErr c.open_behind.result (λ f. IsOfContents f → device n old ≡ Err f)) size
    (c.open_behind.ensures.fault t old (λ s le. ap (λ (i : Image). i s) (sym seen))
    (subst
    (λ (n : ℕ). IsHeaded n old h.mark h.version h.statuses.items h.control h.tail
    h.geometry)
    (sym size)
    (c.in-Ok.ensures.headed t)))

pub returns-in-Ok-clause-memory : goal.returns-in-Ok-clause-memory
returns-in-Ok-clause-memory g c = λ t.
    let h = c.in-Ok.heads in
    behind_heads c.open_behind.result (record {
      mark = h.mark;
      version = h.version;
      statuses = h.statuses.items;
      control = h.control;
      tail = h.tail;
      geometry = h.geometry;
      headed = c.in-Ok.ensures.headed t;
    })
