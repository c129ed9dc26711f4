use Rattle.std.proofs.Common.{◌≡◌, ◌∙◌, ◌-◌, ◌++◌, ℕ, List, [], length, Some, Ok, false, refl, sym}
use Rattle.std.proofs.Common.{ap, subst}
use Rattle.vab_disk.specs.Calls.{InSectors, Touches}
use Rattle.vab_names.specs.Names.{suffix_of}
use Rattle.vab_space.specs.declared.Chunk.TheVariants.{One}
use Rattle.vab_marks.specs.declared.status.PartStatus.{PartStatus}
use Rattle.vab_marks.specs.declared.status.StatusImage.TheVariants.{InPlace}
use Rattle.vab_marks.specs.Status.{status_spelling}
use Rattle.vab_store.specs.Layout.{IsApart, InFirst}
use Rattle.vab_install.specs.InPlace.{HoldsImage}
use Rattle.vab_exceptions.specs.declared.area.Exception.{Exception}
use Rattle.vab_model.specs.Commands.{Flash}
use Rattle.vab_model.specs.declared.command.Reply.TheVariants.{Done}
use Rattle.vab_device.specs.declared.device.Device.{Device}
use Rattle.vab_device.specs.declared.device.Part.{Part}
use Rattle.vab_device.specs.Does.{Does}
use Rattle.vab_disk.proofs.CallLaws.{failed_then}
use Rattle.vab_device.proofs.DoesLaws.{fails_dead, fails_gate, does_gate}
use Rattle.vab_flash.specs.Chosen.{with_written}
use Rattle.vab_flash.specs.Place.{planned_at}
use Rattle.vab_flash.specs.Touched.{IsOfFlash}
use Rattle.vab_flash.proofs.GatedLaws.{name_short, name_is, placed, kept_placed, own_in_flash}
use Rattle.vab_flash.proofs.GatedLaws.{status_in_flash}
use Rattle.vab_flash.proofs.InPlaceLaws.{own_apart, own_dead, placed_follows}
use Rattle.vab_flash.proofs.TakenLaws.{own_other, taken_none, taken_first}
use Rattle.vab_flash.proofs.in_place.place_image.Goals as goal

pub write_image-requires-clause-apart : goal.write_image-requires-clause-apart
write_image-requires-clause-apart g c = λ t.
    subst (λ (p : Part). IsApart p.map) (sym c.planned_at.ensures)
    (own_apart c.args.device (g.D.Disk.size c.args.d.now) (g.D.Disk.seen c.args.d.now)
    c.requires.kept (c.requires.represents t) c.args.name.now (Some c.args.bytes.now) c.args.place
    c.args.bytes.now c.requires.chosen)

pub full_name-requires-clause-short : goal.full_name-requires-clause-short
full_name-requires-clause-short g c =
    name_short c.args.device (g.D.Disk.size c.args.d.now) c.args.place
    c.planned_at-in-Ok.result.now c.requires.kept c.requires.chosen.within
    c.planned_at-in-Ok.ensures

pub returns-in-Err-clause-does : goal.returns-in-Err-clause-does
returns-in-Err-clause-does g c = λ chunk.
    let d = c.args.device in
    let name = c.args.name.now in
    let bytes = c.args.bytes.now in
    let place : ℕ = c.args.place in
    let disk = c.args.d.now in
    let own : List ℕ = (planned_at d place).map in
    fails_dead g.D.Disk d (Some bytes) (Flash name chunk) (IsOfFlash d name) disk
    c.write_image.new.d (InSectors (InFirst own (length own)))
    (λ t. own_dead d (g.D.Disk.size disk) (g.D.Disk.seen disk) c.requires.kept
    (c.requires.represents t) name (Some bytes) place bytes c.requires.chosen)
    (subst (λ (p : Part).
    Touches g.D.Disk (InSectors (InFirst p.map (length p.map))) disk c.write_image.new.d)
    c.planned_at.ensures c.write_image.ensures.touches)
    (λ t. own_in_flash d name (Some bytes) place bytes c.requires.chosen)
    c.in-Err.fault
    (λ t. placed_follows d (g.D.Disk.size disk) (g.D.Disk.seen disk) c.requires.kept
    (c.requires.represents t) name (Some bytes) place bytes c.requires.chosen chunk)
    c.in-Err.ensures.faults.cause

pub returns-in-Err-put_status-clause-does : goal.returns-in-Err-put_status-clause-does
returns-in-Err-put_status-clause-does g c = λ chunk.
    let d = c.args.device in
    let name = c.args.name.now in
    let bytes = c.args.bytes.now in
    let place : ℕ = c.args.place in
    let disk = c.args.d.now in
    let mid = c.write_image.new.d in
    let own : List ℕ = (planned_at d place).map in
    let touches : Touches g.D.Disk (InSectors (InFirst own (length own))) disk mid =
    subst (λ (p : Part).
    Touches g.D.Disk (InSectors (InFirst p.map (length p.map))) disk mid)
    c.planned_at.ensures c.write_image.ensures.touches in
    let same : c.planned_at-in-Ok.result.now.name ++ suffix_of (1 - d.mark.slot) ≡ name =
    ap (λ (q : Part). q.name ++ suffix_of (1 - d.mark.slot)) c.planned_at-in-Ok.ensures
    ∙ name_is d name place c.requires.chosen.has in
    let status : PartStatus = record { name = c.full_name.result; image = InPlace } in
    let status_is : status ≡ record { name = name; image = InPlace } =
    ap (λ (n : List ℕ). record { name = n; image = InPlace }) (c.full_name.ensures ∙ same) in
    let gate = λ (t : g.D.Disk.is_modelled).
    placed d (g.D.Disk.size disk) (g.D.Disk.seen disk) c.requires.kept (c.requires.represents t)
    name (Some bytes) place bytes c.requires.chosen chunk (g.D.Disk.seen mid) c.args.free status
    (touches.seen t)
    (subst (λ (p : Part). HoldsImage p.map bytes (g.D.Disk.seen mid) (length p.map))
    c.planned_at.ensures (c.in-Ok.ensures.holds t))
    (c.requires.free t) c.requires.there status_is c.put_status.ensures.read in
    fails_gate g.D.Disk d (Some bytes) (Flash name chunk) (IsOfFlash d name) disk mid
    (InSectors (InFirst own (length own)))
    (λ t. own_dead d (g.D.Disk.size disk) (g.D.Disk.seen disk) c.requires.kept
    (c.requires.represents t) name (Some bytes) place bytes c.requires.chosen)
    touches
    (λ t. own_in_flash d name (Some bytes) place bytes c.requires.chosen)
    c.put_status.new.d (with_written d place One []) Done c.args.free (status_spelling status)
    {wants = false}
    (λ t. (gate t).0) (λ t. (gate t).1)
    (λ t rest. c.put_status.ensures.gate t (c.in-Ok.ensures.settled t))
    c.put_status.ensures.touches
    (status_in_flash d name place c.args.free InPlace status c.requires.chosen.has
    c.requires.there status_is)
    c.in-Err-put_status.fault
    (failed_then _ _ _ c.in-Ok.ensures.faults.steady c.in-Err-put_status.ensures.faults.cause)

pub returns-in-Ok-put_status-clause-does : goal.returns-in-Ok-put_status-clause-does
returns-in-Ok-put_status-clause-does g c = λ chunk.
    let d = c.args.device in
    let name = c.args.name.now in
    let bytes = c.args.bytes.now in
    let place : ℕ = c.args.place in
    let disk = c.args.d.now in
    let mid = c.write_image.new.d in
    let own : List ℕ = (planned_at d place).map in
    let touches : Touches g.D.Disk (InSectors (InFirst own (length own))) disk mid =
    subst (λ (p : Part).
    Touches g.D.Disk (InSectors (InFirst p.map (length p.map))) disk mid)
    c.planned_at.ensures c.write_image.ensures.touches in
    let same : c.planned_at-in-Ok.result.now.name ++ suffix_of (1 - d.mark.slot) ≡ name =
    ap (λ (q : Part). q.name ++ suffix_of (1 - d.mark.slot)) c.planned_at-in-Ok.ensures
    ∙ name_is d name place c.requires.chosen.has in
    let status : PartStatus = record { name = c.full_name.result; image = InPlace } in
    let status_is : status ≡ record { name = name; image = InPlace } =
    ap (λ (n : List ℕ). record { name = n; image = InPlace }) (c.full_name.ensures ∙ same) in
    let gate = λ (t : g.D.Disk.is_modelled).
    placed d (g.D.Disk.size disk) (g.D.Disk.seen disk) c.requires.kept (c.requires.represents t)
    name (Some bytes) place bytes c.requires.chosen chunk (g.D.Disk.seen mid) c.args.free status
    (touches.seen t)
    (subst (λ (p : Part). HoldsImage p.map bytes (g.D.Disk.seen mid) (length p.map))
    c.planned_at.ensures (c.in-Ok.ensures.holds t))
    (c.requires.free t) c.requires.there status_is c.put_status.ensures.read in
    let next : c.written.result ≡ with_written d place One [] =
    c.written.ensures
    ∙ ap (λ (es : List Exception). with_written d place One es) c.empty-view.ensures in
    subst (λ (x : Device). Does g.D.Disk d (Some bytes) (Flash name chunk) (IsOfFlash d name)
    disk c.put_status.new.d (Ok (x, Done))) (sym next)
    (does_gate g.D.Disk d (Some bytes) (Flash name chunk) (IsOfFlash d name) disk mid
    (InSectors (InFirst own (length own)))
    (λ t. own_dead d (g.D.Disk.size disk) (g.D.Disk.seen disk) c.requires.kept
    (c.requires.represents t) name (Some bytes) place bytes c.requires.chosen)
    touches
    (λ t. own_in_flash d name (Some bytes) place bytes c.requires.chosen)
    c.put_status.new.d (with_written d place One []) Done c.args.free (status_spelling status)
    {wants = false}
    (λ t. (gate t).0) (λ t. (gate t).1)
    (λ t rest. c.put_status.ensures.gate t (c.in-Ok.ensures.settled t))
    c.put_status.ensures.touches
    (status_in_flash d name place c.args.free InPlace status c.requires.chosen.has
    c.requires.there status_is)
    (kept_placed d (g.D.Disk.size disk) name (Some bytes) place bytes c.requires.kept
    c.requires.chosen)
    (record { geometry = refl; slot = refl; parts = refl })
    (λ t. c.in-Ok-put_status.ensures.written t) (λ t. c.in-Ok-put_status.ensures.settled t)
    (c.in-Ok-put_status.ensures.faults.steady ∙ c.in-Ok.ensures.faults.steady))

pub returns-in-Err-clause-free : goal.returns-in-Err-clause-free
returns-in-Err-clause-free g c = λ t.
    let d = c.args.device in
    let disk = c.args.d.now in
    let own : List ℕ = (planned_at d c.args.place).map in
    let touches : Touches g.D.Disk (InSectors (InFirst own (length own))) disk c.write_image.new.d =
    subst (λ (p : Part).
    Touches g.D.Disk (InSectors (InFirst p.map (length p.map))) disk c.write_image.new.d)
    c.planned_at.ensures c.write_image.ensures.touches in
    taken_none g.D.Disk (InFirst own (length own)) disk c.write_image.new.d touches
    (λ s. own_other d (g.D.Disk.size disk) (g.D.Disk.seen disk) c.requires.kept
    (c.requires.represents t) c.args.name.now (Some c.args.bytes.now) c.args.place c.args.bytes.now
    c.requires.chosen s)

pub returns-in-Err-put_status-clause-free : goal.returns-in-Err-put_status-clause-free
returns-in-Err-put_status-clause-free g c = λ t.
    let d = c.args.device in
    let disk = c.args.d.now in
    let own : List ℕ = (planned_at d c.args.place).map in
    let touches : Touches g.D.Disk (InSectors (InFirst own (length own))) disk c.write_image.new.d =
    subst (λ (p : Part).
    Touches g.D.Disk (InSectors (InFirst p.map (length p.map))) disk c.write_image.new.d)
    c.planned_at.ensures c.write_image.ensures.touches in
    taken_first g.D.Disk (InFirst own (length own)) disk c.write_image.new.d c.put_status.new.d
    c.args.free _ touches
    (λ s. own_other d (g.D.Disk.size disk) (g.D.Disk.seen disk) c.requires.kept
    (c.requires.represents t) c.args.name.now (Some c.args.bytes.now) c.args.place c.args.bytes.now
    c.requires.chosen s)
    c.put_status.ensures.touches (c.requires.free t)

pub returns-in-Ok-put_status-clause-free : goal.returns-in-Ok-put_status-clause-free
returns-in-Ok-put_status-clause-free g c = λ t.
    let d = c.args.device in
    let disk = c.args.d.now in
    let own : List ℕ = (planned_at d c.args.place).map in
    let touches : Touches g.D.Disk (InSectors (InFirst own (length own))) disk c.write_image.new.d =
    subst (λ (p : Part).
    Touches g.D.Disk (InSectors (InFirst p.map (length p.map))) disk c.write_image.new.d)
    c.planned_at.ensures c.write_image.ensures.touches in
    taken_first g.D.Disk (InFirst own (length own)) disk c.write_image.new.d c.put_status.new.d
    c.args.free _ touches
    (λ s. own_other d (g.D.Disk.size disk) (g.D.Disk.seen disk) c.requires.kept
    (c.requires.represents t) c.args.name.now (Some c.args.bytes.now) c.args.place c.args.bytes.now
    c.requires.chosen s)
    c.put_status.ensures.touches (c.requires.free t)
