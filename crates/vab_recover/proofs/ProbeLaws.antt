-- What a disk means of which a device was opened.
use Rattle.std.proofs.Common.{◌≡◌, ◌∙◌, ℕ, Ok, refl, sym, ap}
use Rattle.vab_disk.specs.Disk.{Image}
use Rattle.vab_bootctl.specs.declared.slots.Control.{Control}
use Rattle.vab_model.specs.State.{control_seen}
use Rattle.vab_model.proofs.SeenLaws.{seen_again}
use Rattle.vab_device.specs.declared.device.Device.{Device}
use Rattle.vab_device.specs.Mounted.{control_on, state_on, mounted_on}
use Rattle.vab_device.specs.Phases.{phase_at}
use Rattle.vab_device.specs.Reading.{Read, kept, device}
use Rattle.vab_device.proofs.ReadingLaws.{device_of, has_images, control_is_seen}
use Rattle.vab_recover.specs.declared.table.Tables.{Tables}
use Rattle.vab_recover.specs.Opened.{read_of, tables_of, with_tables, IsOpened}

-- the whole boot control in the place of what is seen of it
with_whole : (r : Read) (c : Control) (image : Image)
    → control_on (record (kept r) { control = c }) ≡ control_on (kept r)
    → mounted_on (record (kept r) { control = c }) image ≡ mounted_on (kept r) image
unfolding state_on
with_whole r c image same = rw same refl

-- the disk means what the device says that was opened
pub opened_means : (d : Device) (t : Tables) (size : ℕ) (image : Image)
    → IsOpened d t size image
    → device size image ≡ Ok (mounted_on (with_tables t d) image)
opened_means d t size image is =
    let r : Read = read_of d.mark is.statuses d.control d.tail d.geometry (tables_of t)
    is.scanned in
    let a = (phase_at r.mark).has_a in
    let b = (phase_at r.mark).has_b in
    let has = has_images size r image is.reads in
    let seen : r.control ≡ control_seen a b d.control =
    control_is_seen a b image d.control r.control is.reads.control is.control in
    let left : control_on (record (kept r) { control = d.control }) ≡ control_seen a b d.control =
    (λ i. control_seen (has.a i) (has.b i) d.control) in
    let right : control_on (kept r) ≡ control_seen a b d.control =
    (λ i. control_seen (has.a i) (has.b i) (seen i)) ∙ seen_again a b d.control in
    device_of size r image is.reads
    ∙ ap Ok (sym (with_whole r d.control image (left ∙ sym right)))
    ∙ ap (λ (k : Device). Ok (mounted_on k image)) (sym is.is)
