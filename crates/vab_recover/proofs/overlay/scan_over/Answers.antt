use Rattle.std.proofs.Common.{◌≡◌, ◌∙◌, ℕ, Bool, true, false, List, length, Result, Ok, Err, refl}
use Rattle.std.proofs.Common.{sym, ap}
use Rattle.vab_disk.specs.Disk.{Image}
use Rattle.vab_space.specs.declared.Chunk.TheVariants.{One}
use Rattle.vab_store.specs.Clean.{ends_clean}
use Rattle.vab_store.specs.Scan.{scan_of}
use Rattle.vab_device.specs.declared.fault.StartFault.{StartFault}
use Rattle.vab_device.specs.declared.fault.StartFault.TheVariants.{BadStore}
use Rattle.vab_device.specs.Checks.{unless}
use Rattle.vab_device.specs.Stores.{Scanned, Wanted, clean_by, scan_read, scan_at}
use Rattle.vab_plan.specs.declared.planning.Scan.{Scan}
use Rattle.vab_plan.specs.Scans.{scanned_of}
use Rattle.vab_recover.specs.Overlay.{wanted_there}
use Rattle.vab_recover.proofs.overlay.scan_over.Goals as goal

-- the list that is read of the store, of so many blocks, and whether it ends clean
over_scan : (name base store : List ℕ) (n : ℕ) (image : Image) (x : Result Scanned StartFault)
    → n ≡ length base
    → scan_read (wanted_there name base store) (scan_of One store n image) ≡ x
    → scan_at (wanted_there name base store) image ≡ clean_by true name store image x
unfolding scan_at
over_scan name base store n image x long is =
    let w : Wanted = wanted_there name base store in
    ap (λ (k : ℕ). clean_by true name store image (scan_read w (scan_of One store k image)))
    (sym long)
    ∙ ap (clean_by true name store image) is

-- by its end
over_ends : (name base store : List ℕ) (n count : ℕ) (image : Image) (s : Scan) (b : Bool)
    → n ≡ length base
    → scan_read (wanted_there name base store) (scan_of One store n image) ≡ Ok (scanned_of s)
    → s.name ≡ name
    → s.chunk ≡ One
    → count ≡ length s.view
    → b ≡ ends_clean store count image
    → scan_at (wanted_there name base store) image
    ≡ unless b (BadStore name)
    (Ok (record { name = name; chunk = One; exceptions = s.view }))
over_ends name base store n count image s b long is named sized counted ends =
    over_scan name base store n image (Ok (scanned_of s)) long is
    ∙ ap (λ (c : Bool). unless c (BadStore name) (Ok (scanned_of s)))
    (ap (λ (k : ℕ). ends_clean store k image) (sym counted) ∙ sym ends)
    ∙ (λ i. unless b (BadStore name) (Ok (record {
      name = named i;
      chunk = sized i;
      exceptions = s.view;
    })))

pub returns-in-Err-clause-fault : goal.returns-in-Err-clause-fault
returns-in-Err-clause-fault g c = λ t base long kind.
    let name = c.args.name.now in
    let store = c.args.store.now in
    let image = g.D.Disk.seen c.args.d.now in
    over_scan name base store c.args.blocks image (Err c.in-Err.fault) long
    (c.in-Err.ensures.fault (wanted_there name base store)
    (scan_of One store c.args.blocks image) refl refl (sym c.len.ensures.count) refl
    (c.scan-scanned.ensures.answers t) kind)

pub returns-in-Ok-true-clause-ok : goal.returns-in-Ok-true-clause-ok
returns-in-Ok-true-clause-ok g c = λ t base long.
    let name = c.args.name.now in
    let store = c.args.store.now in
    let image = g.D.Disk.seen c.args.d.now in
    over_ends name base store c.args.blocks c.count.result image c.in-Ok.scan true long
    (c.in-Ok.ensures.ok (wanted_there name base store)
    (scan_of One store c.args.blocks image) refl refl (sym c.len.ensures.count) refl
    (c.scan-scanned.ensures.answers t))
    c.in-Ok.ensures.name c.in-Ok.ensures.chunk c.count.ensures
    (sym c.in-Ok-true.field-0-test
    ∙ c.in-Ok-true.ensures.exact t
    ∙ ap (ends_clean store c.count.result) (c.scan-scanned.ensures.reads.seen t))

pub returns-in-Ok-false-clause-fault : goal.returns-in-Ok-false-clause-fault
returns-in-Ok-false-clause-fault g c = λ t base long kind.
    let name = c.args.name.now in
    let store = c.args.store.now in
    let image = g.D.Disk.seen c.args.d.now in
    over_ends name base store c.args.blocks c.count.result image c.in-Ok.scan false long
    (c.in-Ok.ensures.ok (wanted_there name base store)
    (scan_of One store c.args.blocks image) refl refl (sym c.len.ensures.count) refl
    (c.scan-scanned.ensures.answers t))
    c.in-Ok.ensures.name c.in-Ok.ensures.chunk c.count.ensures
    (sym c.in-Ok-false.field-0-test
    ∙ c.in-Ok-false.ensures.exact t
    ∙ ap (ends_clean store c.count.result) (c.scan-scanned.ensures.reads.seen t))
