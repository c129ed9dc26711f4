use Rattle.std.proofs.Common.{◌≡◌, sym, subst}
use Rattle.std.specs.Prelude.{IfOk, IfErr, Result, Ok, Err}
use Rattle.vab_marks.specs.declared.status.StatusImage.{StatusImage}
use Rattle.vab_layout.specs.Layout.{layout_of}
use Rattle.vab_device.specs.Faults.{IsOfContents}
use Rattle.vab_plan.specs.Scans.{scanned_of}
use Rattle.vab_recover.specs.Opened.{wanted_for}
use Rattle.vab_recover.specs.Scans.{wanted_at}
use Rattle.vab_recover.proofs.plan.scan_store.Goals as goal

pub returns-in-InPlace-clause-ok : goal.returns-in-InPlace-clause-ok
returns-in-InPlace-clause-ok g c = λ t.
    let name = c.args.status.now.name in
    subst
    (λ (i : StatusImage). IfOk c.scan_placed.result
    (λ s. wanted_at (wanted_for c.args.fewer c.args.may c.args.slot (layout_of c.args.table.now)
    (record { name = name; image = i })) (g.D.Disk.seen c.args.d.now)
    ≡ Ok (scanned_of s)))
    (sym c.in-InPlace.is)
    (c.scan_placed.ensures.ok (g.D.Disk.seen c.args.d.now))

pub returns-in-InPlace-clause-fault : goal.returns-in-InPlace-clause-fault
returns-in-InPlace-clause-fault g c = λ t.
    let name = c.args.status.now.name in
    subst
    (λ (i : StatusImage). IfErr c.scan_placed.result
    (λ f. IsOfContents f → wanted_at (wanted_for c.args.fewer c.args.may c.args.slot
    (layout_of c.args.table.now)
    (record { name = name; image = i })) (g.D.Disk.seen c.args.d.now)
    ≡ Err f))
    (sym c.in-InPlace.is)
    (given _ _ c.scan_placed.result (c.scan_placed.ensures.fault (g.D.Disk.seen c.args.d.now)))
  where
    given : {A B : Type 0} (P Q : B → Type 0) (r : Result A B)
        → IfErr r (λ f. Q f)
        → IfErr r (λ f. P f → Q f)
    given P Q (Ok x) q = tt
    given P Q (Err f) q = λ p. q

pub returns-in-Stored-clause-ok : goal.returns-in-Stored-clause-ok
returns-in-Stored-clause-ok g c = λ t.
    let name = c.args.status.now.name in
    subst
    (λ (i : StatusImage). IfOk c.scan_stored.result
    (λ s. wanted_at (wanted_for c.args.fewer c.args.may c.args.slot (layout_of c.args.table.now)
    (record { name = name; image = i })) (g.D.Disk.seen c.args.d.now)
    ≡ Ok (scanned_of s)))
    (sym c.in-Stored.is)
    (c.scan_stored.ensures.ok t c.args.may)

pub returns-in-Stored-clause-fault : goal.returns-in-Stored-clause-fault
returns-in-Stored-clause-fault g c = λ t.
    let name = c.args.status.now.name in
    subst
    (λ (i : StatusImage). IfErr c.scan_stored.result
    (λ f. IsOfContents f → wanted_at (wanted_for c.args.fewer c.args.may c.args.slot
    (layout_of c.args.table.now)
    (record { name = name; image = i })) (g.D.Disk.seen c.args.d.now)
    ≡ Err f))
    (sym c.in-Stored.is)
    (c.scan_stored.ensures.fault t c.args.may)
