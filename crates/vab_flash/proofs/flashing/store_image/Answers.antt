use Rattle.std.proofs.Common.{◌≡◌, ℕ, ◌≤◌, ◌-◌, ◌++◌, List, length, Some, Ok, Err, true, refl, sym}
use Rattle.std.proofs.Common.{ap, subst, ◌∙◌}
use Rattle.vab_disk.specs.Calls.{InSectors, SameBut}
use Rattle.vab_space.specs.Chunks.{need_at}
use Rattle.vab_marks.specs.declared.status.PartStatus.{PartStatus}
use Rattle.vab_marks.specs.declared.status.StatusImage.TheVariants.{Stored}
use Rattle.vab_store.specs.Layout.{InFirst}
use Rattle.vab_store.specs.Writing.{planned_of}
use Rattle.vab_model.specs.Commands.{Flash}
use Rattle.vab_model.specs.declared.command.Reply.TheVariants.{Done}
use Rattle.vab_exceptions.specs.declared.area.Exception.{Exception}
use Rattle.vab_names.specs.Names.{suffix_of}
use Rattle.vab_install.specs.Counts.{ReadsWithout, CountsFaults}
use Rattle.vab_device.specs.declared.device.Device.{Device}
use Rattle.vab_device.specs.Does.{Does}
use Rattle.vab_device.specs.declared.device.Part.{Part}
use Rattle.vab_marks.specs.Status.{status_spelling}
use Rattle.vab_flash.specs.Chosen.{store_at, store_long, with_written}
use Rattle.vab_flash.specs.Touched.{IsOfFlash}
use Rattle.vab_disk.proofs.CallLaws.{failed_then}
use Rattle.vab_device.proofs.DoesLaws.{does_nothing, fails_dead, fails_gate, does_gate}
use Rattle.vab_flash.proofs.FlashLaws.{base_all}
use Rattle.vab_flash.proofs.ReadyLaws.{apart, disjoint, first_dead, no_memory, room_follows}
use Rattle.vab_flash.proofs.GatedLaws.{name_short, in_flash, stored, name_is, status_in_flash}
use Rattle.vab_flash.proofs.GatedLaws.{kept_stored}
use Rattle.vab_flash.proofs.TakenLaws.{store_other, taken_none, taken_first}
use Rattle.vab_flash.proofs.flashing.store_image.Goals as goal

pub write_place-requires-clause-apart : goal.write_place-requires-clause-apart
write_place-requires-clause-apart g c = λ t.
    apart c.args.device (g.D.Disk.size c.args.d.now) (g.D.Disk.seen c.args.d.now) c.requires.kept
    (c.requires.represents t) c.args.name.now (Some c.args.bytes.now) c.args.place c.args.bytes.now
    c.requires.chosen

pub write_place-requires-clause-disjoint : goal.write_place-requires-clause-disjoint
write_place-requires-clause-disjoint g c = λ t.
    disjoint c.args.device (g.D.Disk.size c.args.d.now) (g.D.Disk.seen c.args.d.now)
    c.requires.kept (c.requires.represents t) c.args.name.now (Some c.args.bytes.now) c.args.place
    c.args.bytes.now c.requires.chosen

pub full_name-requires-clause-short : goal.full_name-requires-clause-short
full_name-requires-clause-short g c =
    name_short c.args.device (g.D.Disk.size c.args.d.now) c.args.place c.planned_at.result.now
    c.requires.kept c.requires.chosen.within c.planned_at.ensures

pub returns-in-Err-NoMemory-clause-does : goal.returns-in-Err-NoMemory-clause-does
returns-in-Err-NoMemory-clause-does g c =
    let d = c.args.device in
    let k = c.args.chunk in
    let name = c.args.name.now in
    let disk = c.args.d.now in
    does_nothing g.D.Disk d (Some c.args.bytes.now) (Flash name k) (IsOfFlash d name) true _ _ _
    c.requires.kept c.requires.represents
    (λ t.
    no_memory d (g.D.Disk.size disk) (g.D.Disk.seen disk) c.requires.kept (c.requires.represents t)
    name (Some c.args.bytes.now) c.args.place c.args.bytes.now c.requires.chosen k
    (λ s lt. (g.met.D.Disk.whole disk s (g.D.Disk.seen disk s) lt
    (g.met.D.Disk.seen_held disk s)).long)
    (base_all d (g.D.Disk.size disk) c.args.place c.requires.kept)
    (subst (λ (l : List ℕ). need_at (length l) k ≤ store_long d c.args.place) (c.requires.exact t)
    c.requires.listed.room))
    (subst (λ f. ReadsWithout {X = List Exception} g.D.Disk disk c.write_place.new.d (Err f))
    c.in-Err-NoMemory.field-0-is c.in-Err-NoMemory.ensures.unwritten)
    (subst (λ f. CountsFaults {X = List Exception} g.D.Disk disk c.write_place.new.d (Err f))
    c.in-Err-NoMemory.field-0-is c.in-Err-NoMemory.ensures.counts)

pub returns-in-Err-Disk-clause-does : goal.returns-in-Err-Disk-clause-does
returns-in-Err-Disk-clause-does g c =
    let d = c.args.device in
    let name = c.args.name.now in
    let disk = c.args.d.now in
    let k = c.args.chunk in
    let n = need_at (length c.args.olds.now) k in
    fails_dead g.D.Disk d (Some c.args.bytes.now) (Flash name k) (IsOfFlash d name) disk
    c.write_place.new.d (InSectors (InFirst (store_at d c.args.place) n))
    (λ t image but.
    first_dead d (g.D.Disk.size disk) (g.D.Disk.seen disk) c.requires.kept (c.requires.represents t)
    name
    (Some c.args.bytes.now) c.args.place c.args.bytes.now c.requires.chosen n image
    c.requires.listed.room but)
    c.write_place.ensures.touches
    (λ t. in_flash d name (Some c.args.bytes.now) c.args.place c.args.bytes.now n c.requires.chosen
    c.requires.listed.room)
    c.in-Err-Disk.fault
    (λ t.
    room_follows d (g.D.Disk.size disk) (g.D.Disk.seen disk) c.requires.kept
    (c.requires.represents t) name (Some c.args.bytes.now) c.args.place c.args.bytes.now
    c.requires.chosen k
    (λ s lt. (g.met.D.Disk.whole disk s (g.D.Disk.seen disk s) lt
    (g.met.D.Disk.seen_held disk s)).long)
    (base_all d (g.D.Disk.size disk) c.args.place c.requires.kept)
    (subst (λ (l : List ℕ). need_at (length l) k ≤ store_long d c.args.place) (c.requires.exact t)
    c.requires.listed.room))
    (subst (λ f. CountsFaults {X = List Exception} g.D.Disk disk c.write_place.new.d (Err f))
    c.in-Err-Disk.field-0-is c.in-Err-Disk.ensures.counts)

pub returns-in-Err-clause-does : goal.returns-in-Err-clause-does
returns-in-Err-clause-does g c =
    let d = c.args.device in
    let name = c.args.name.now in
    let disk = c.args.d.now in
    let mid = c.write_place.new.d in
    let es = c.in-Ok.view in
    let k = c.args.chunk in
    let n = need_at (length c.args.olds.now) k in
    let ok = c.in-Ok.ensures in
    let same : c.planned_at.result.now.name ++ suffix_of (1 - d.mark.slot) ≡ name =
    ap (λ (q : Part). q.name ++ suffix_of (1 - d.mark.slot)) c.planned_at.ensures
    ∙ name_is d name c.args.place c.requires.chosen.has in
    let status : PartStatus =
    record { name = c.full_name.result; image = Stored c.count.result k } in
    let status_is : status ≡ record { name = name; image = Stored (length es) k } =
    (λ j. record { name = (c.full_name.ensures ∙ same) j; image = Stored (c.count.ensures j) k })
    in
    let gate = λ (t : g.D.Disk.is_modelled).
    stored d (g.D.Disk.size disk) (g.D.Disk.seen disk) c.requires.kept (c.requires.represents t)
    name
    (Some c.args.bytes.now) c.args.place c.args.bytes.now c.requires.chosen k
    (λ s lt. (g.met.D.Disk.whole disk s (g.D.Disk.seen disk s) lt
    (g.met.D.Disk.seen_held disk s)).long)
    (base_all d (g.D.Disk.size disk) c.args.place c.requires.kept) (g.D.Disk.seen mid) es
    c.args.free status
    (subst (λ (l : List ℕ). need_at (length l) k ≤ store_long d c.args.place) (c.requires.exact t)
    c.requires.listed.room)
    (ok.planned ∙ ap (planned_of k) (c.requires.exact t)) ok.fits
    (subst (λ (l : List ℕ).
    SameBut (InSectors (InFirst (store_at d c.args.place) (need_at (length l) k)))
    (g.D.Disk.seen disk) (g.D.Disk.seen mid)) (c.requires.exact t)
    (c.write_place.ensures.touches.seen t))
    (ok.scanned t) (ok.holds t) (c.requires.free t) c.requires.there status_is
    c.put_status.ensures.read in
    fails_gate g.D.Disk d (Some c.args.bytes.now) (Flash name k) (IsOfFlash d name) disk mid
    (InSectors (InFirst (store_at d c.args.place) n))
    (λ t image but.
    first_dead d (g.D.Disk.size disk) (g.D.Disk.seen disk) c.requires.kept (c.requires.represents t)
    name
    (Some c.args.bytes.now) c.args.place c.args.bytes.now c.requires.chosen n image
    c.requires.listed.room but)
    c.write_place.ensures.touches
    (λ t. in_flash d name (Some c.args.bytes.now) c.args.place c.args.bytes.now n c.requires.chosen
    c.requires.listed.room)
    c.put_status.new.d (with_written d c.args.place k es) Done c.args.free
    (status_spelling status)
    (λ t. (gate t).0) (λ t. (gate t).1) (λ t rest. c.put_status.ensures.gate t (ok.settled t))
    c.put_status.ensures.touches
    (status_in_flash d name c.args.place c.args.free (Stored (length es) k) status
    c.requires.chosen.has c.requires.there status_is)
    c.in-Err.fault (failed_then _ _ _ ok.counts c.in-Err.ensures.faults.cause)

pub returns-in-Ok-put_status-clause-does : goal.returns-in-Ok-put_status-clause-does
returns-in-Ok-put_status-clause-does g c =
    let d = c.args.device in
    let name = c.args.name.now in
    let disk = c.args.d.now in
    let mid = c.write_place.new.d in
    let es = c.in-Ok.view in
    let k = c.args.chunk in
    let n = need_at (length c.args.olds.now) k in
    let ok = c.in-Ok.ensures in
    let same : c.planned_at.result.now.name ++ suffix_of (1 - d.mark.slot) ≡ name =
    ap (λ (q : Part). q.name ++ suffix_of (1 - d.mark.slot)) c.planned_at.ensures
    ∙ name_is d name c.args.place c.requires.chosen.has in
    let status : PartStatus =
    record { name = c.full_name.result; image = Stored c.count.result k } in
    let status_is : status ≡ record { name = name; image = Stored (length es) k } =
    (λ j. record { name = (c.full_name.ensures ∙ same) j; image = Stored (c.count.ensures j) k })
    in
    let gate = λ (t : g.D.Disk.is_modelled).
    stored d (g.D.Disk.size disk) (g.D.Disk.seen disk) c.requires.kept (c.requires.represents t)
    name
    (Some c.args.bytes.now) c.args.place c.args.bytes.now c.requires.chosen k
    (λ s lt. (g.met.D.Disk.whole disk s (g.D.Disk.seen disk s) lt
    (g.met.D.Disk.seen_held disk s)).long)
    (base_all d (g.D.Disk.size disk) c.args.place c.requires.kept) (g.D.Disk.seen mid) es
    c.args.free status
    (subst (λ (l : List ℕ). need_at (length l) k ≤ store_long d c.args.place) (c.requires.exact t)
    c.requires.listed.room)
    (ok.planned ∙ ap (planned_of k) (c.requires.exact t)) ok.fits
    (subst (λ (l : List ℕ).
    SameBut (InSectors (InFirst (store_at d c.args.place) (need_at (length l) k)))
    (g.D.Disk.seen disk) (g.D.Disk.seen mid)) (c.requires.exact t)
    (c.write_place.ensures.touches.seen t))
    (ok.scanned t) (ok.holds t) (c.requires.free t) c.requires.there status_is
    c.put_status.ensures.read in
    subst (λ (x : Device). Does g.D.Disk d (Some c.args.bytes.now) (Flash name k) (IsOfFlash d name)
    disk
    c.put_status.new.d (Ok (x, Done))) (sym c.written.ensures)
    (does_gate g.D.Disk d (Some c.args.bytes.now) (Flash name k) (IsOfFlash d name) disk mid
    (InSectors (InFirst (store_at d c.args.place) n))
    (λ t image but.
    first_dead d (g.D.Disk.size disk) (g.D.Disk.seen disk) c.requires.kept (c.requires.represents t)
    name
    (Some c.args.bytes.now) c.args.place c.args.bytes.now c.requires.chosen n image
    c.requires.listed.room but)
    c.write_place.ensures.touches
    (λ t. in_flash d name (Some c.args.bytes.now) c.args.place c.args.bytes.now n c.requires.chosen
    c.requires.listed.room)
    c.put_status.new.d (with_written d c.args.place k es) Done c.args.free
    (status_spelling status)
    (λ t. (gate t).0) (λ t. (gate t).1) (λ t rest. c.put_status.ensures.gate t (ok.settled t))
    c.put_status.ensures.touches
    (status_in_flash d name c.args.place c.args.free (Stored (length es) k) status
    c.requires.chosen.has c.requires.there status_is)
    (kept_stored d (g.D.Disk.size disk) name (Some c.args.bytes.now) c.args.place c.args.bytes.now
    k es c.requires.kept c.requires.chosen ok.fits)
    (record { geometry = refl; slot = refl; parts = refl })
    (λ t. c.in-Ok-put_status.ensures.written t) (λ t. c.in-Ok-put_status.ensures.settled t)
    (c.in-Ok-put_status.ensures.faults.steady ∙ ok.counts))

pub returns-in-Err-NoMemory-clause-free : goal.returns-in-Err-NoMemory-clause-free
returns-in-Err-NoMemory-clause-free g c = λ t.
    let d = c.args.device in
    let disk = c.args.d.now in
    let n = need_at (length c.args.olds.now) c.args.chunk in
    taken_none g.D.Disk (InFirst (store_at d c.args.place) n) disk c.write_place.new.d
    c.write_place.ensures.touches
    (λ s. store_other d (g.D.Disk.size disk) (g.D.Disk.seen disk) c.requires.kept
    (c.requires.represents t) c.args.name.now (Some c.args.bytes.now) c.args.place c.args.bytes.now
    c.requires.chosen n s c.requires.listed.room)

pub returns-in-Err-Disk-clause-free : goal.returns-in-Err-Disk-clause-free
returns-in-Err-Disk-clause-free g c = λ t.
    let d = c.args.device in
    let disk = c.args.d.now in
    let n = need_at (length c.args.olds.now) c.args.chunk in
    taken_none g.D.Disk (InFirst (store_at d c.args.place) n) disk c.write_place.new.d
    c.write_place.ensures.touches
    (λ s. store_other d (g.D.Disk.size disk) (g.D.Disk.seen disk) c.requires.kept
    (c.requires.represents t) c.args.name.now (Some c.args.bytes.now) c.args.place c.args.bytes.now
    c.requires.chosen n s c.requires.listed.room)

pub returns-in-Err-clause-free : goal.returns-in-Err-clause-free
returns-in-Err-clause-free g c = λ t.
    let d = c.args.device in
    let disk = c.args.d.now in
    let n = need_at (length c.args.olds.now) c.args.chunk in
    taken_first g.D.Disk (InFirst (store_at d c.args.place) n) disk c.write_place.new.d
    c.put_status.new.d c.args.free _ c.write_place.ensures.touches
    (λ s. store_other d (g.D.Disk.size disk) (g.D.Disk.seen disk) c.requires.kept
    (c.requires.represents t) c.args.name.now (Some c.args.bytes.now) c.args.place c.args.bytes.now
    c.requires.chosen n s c.requires.listed.room)
    c.put_status.ensures.touches (c.requires.free t)

pub returns-in-Ok-put_status-clause-free : goal.returns-in-Ok-put_status-clause-free
returns-in-Ok-put_status-clause-free g c = λ t.
    let d = c.args.device in
    let disk = c.args.d.now in
    let n = need_at (length c.args.olds.now) c.args.chunk in
    taken_first g.D.Disk (InFirst (store_at d c.args.place) n) disk c.write_place.new.d
    c.put_status.new.d c.args.free _ c.write_place.ensures.touches
    (λ s. store_other d (g.D.Disk.size disk) (g.D.Disk.seen disk) c.requires.kept
    (c.requires.represents t) c.args.name.now (Some c.args.bytes.now) c.args.place c.args.bytes.now
    c.requires.chosen n s c.requires.listed.room)
    c.put_status.ensures.touches (c.requires.free t)
