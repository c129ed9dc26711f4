use Rattle.std.proofs.Common.{◌≡◌, ℕ, List, Result, Ok, Err, refl, sym, subst}
use Rattle.std.specs.Prelude.{IfOk, IfErr, IfSome, Option}
use Rattle.vab_layout.specs.Layout.{layout_of}
use Rattle.vab_device.specs.declared.fault.StartFault.{StartFault}
use Rattle.vab_device.specs.Faults.{IsOfContents}
use Rattle.vab_device.specs.Stores.{Scanned, Wanted}
use Rattle.vab_store.specs.Scan.{scan_of}
use Rattle.vab_plan.specs.Scans.{scanned_of}
use Rattle.vab_recover.specs.Scans.{AreBlocks}
use Rattle.vab_recover.proofs.PlanLaws.{wanted_store, wanted_is, is_scanned, store_on_disk}
use Rattle.vab_recover.proofs.plan.scan_stored.Goals as goal

pub scan-scanned-requires : goal.scan-scanned-requires
scan-scanned-requires g c =
    store_on_disk c.args.slot (g.D.Disk.size c.args.d.now) c.args.table.now c.args.name.now
    c.in-Ok-Some.store c.requires.target c.requires.on_disk (subst
    (λ (w : Option (List ℕ × List ℕ)). IfSome w
    (λ m. AreBlocks c.args.slot (layout_of c.args.table.now) c.args.name.now m.0 m.1))
    c.in-Ok-Some.field-0-is c.in-Ok-Some.ensures.there).stored

pub returns-in-Ok-Some-clause-ok : goal.returns-in-Ok-Some-clause-ok
returns-in-Ok-Some-clause-ok g c = λ t may.
    let name = c.args.name.now in
    let count = c.args.count in
    let k = c.args.chunk in
    let image = g.D.Disk.seen c.args.d.now in
    let w : Wanted = wanted_store c.args.fewer name count k c.in-Ok-Some.base c.in-Ok-Some.store in
    subst (λ (y : Result Scanned StartFault). IfOk c.judge_scan.result (λ s. y ≡ Ok (scanned_of s)))
    (sym (wanted_is c.args.fewer may c.args.slot (layout_of c.args.table.now) name count k
    c.in-Ok-Some.base
    c.in-Ok-Some.store
    c.len.result image (subst
    (λ (w : Option (List ℕ × List ℕ)). IfSome w
    (λ m. AreBlocks c.args.slot (layout_of c.args.table.now) c.args.name.now m.0 m.1))
    c.in-Ok-Some.field-0-is c.in-Ok-Some.ensures.there) c.len.ensures.count))
    (c.judge_scan.ensures.ok w (scan_of k c.in-Ok-Some.store c.len.result image)
    refl refl refl refl
    (c.scan-scanned.ensures.answers t))

pub returns-in-Ok-Some-clause-fault : goal.returns-in-Ok-Some-clause-fault
returns-in-Ok-Some-clause-fault g c = λ t may.
    let name = c.args.name.now in
    let count = c.args.count in
    let k = c.args.chunk in
    let image = g.D.Disk.seen c.args.d.now in
    let w : Wanted = wanted_store c.args.fewer name count k c.in-Ok-Some.base c.in-Ok-Some.store in
    subst
    (λ (y : Result Scanned StartFault).
    IfErr c.judge_scan.result (λ f. IsOfContents f → y ≡ Err f))
    (sym (wanted_is c.args.fewer may c.args.slot (layout_of c.args.table.now) name count k
    c.in-Ok-Some.base
    c.in-Ok-Some.store
    c.len.result image (subst
    (λ (w : Option (List ℕ × List ℕ)). IfSome w
    (λ m. AreBlocks c.args.slot (layout_of c.args.table.now) c.args.name.now m.0 m.1))
    c.in-Ok-Some.field-0-is c.in-Ok-Some.ensures.there) c.len.ensures.count))
    (c.judge_scan.ensures.fault w (scan_of k c.in-Ok-Some.store c.len.result image)
    refl refl refl refl
    (c.scan-scanned.ensures.answers t))

pub returns-in-Ok-Some-clause-is : goal.returns-in-Ok-Some-clause-is
returns-in-Ok-Some-clause-is g c =
    is_scanned c.args.slot (layout_of c.args.table.now) c.args.name.now c.in-Ok-Some.base
    c.in-Ok-Some.store c.args.chunk c.len.result c.scan-scanned.result
    c.judge_scan.result
    (subst
    (λ (w : Option (List ℕ × List ℕ)). IfSome w
    (λ m. AreBlocks c.args.slot (layout_of c.args.table.now) c.args.name.now m.0 m.1))
    c.in-Ok-Some.field-0-is c.in-Ok-Some.ensures.there) c.len.ensures.count
    c.scan-scanned.ensures.fits
    c.judge_scan.ensures.name c.judge_scan.ensures.chunk c.judge_scan.ensures.view
