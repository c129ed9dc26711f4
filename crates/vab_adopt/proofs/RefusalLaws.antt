-- Why a disk isn't adopted.
use Rattle.std.proofs.Common.{◌≡◌, ℕ, Ok, Err, refl}
use Rattle.std.specs.Prelude.{Some, None}
use Rattle.vab_disk.specs.Disk.{Image}
use Rattle.vab_device.specs.declared.fault.StartFault.{StartFault}
use Rattle.vab_device.specs.declared.fault.StartFault.TheVariants as faults
use Rattle.vab_device.specs.Faults.{IsOfContents, IsOfDisk}
use Rattle.vab_device.specs.Mounted.{Mounted}
use Rattle.vab_device.specs.Reading.{device}
use Rattle.vab_adopt.specs.declared.fault.AdoptFault.TheVariants.{AlreadyDevice, NoDevice}
use Rattle.vab_adopt.specs.Adopted.{adopted, adopt_refusal}

pub already_refused : (size slot : ℕ) (image : Image) (m : Mounted)
    → device size image ≡ Ok m
    → adopt_refusal size slot image ≡ Some AlreadyDevice
unfolding adopt_refusal
already_refused size slot image m is = rw is refl

pub none_refused : (size slot : ℕ) (image : Image) (f h : StartFault)
    → device size image ≡ Err f
    → adopted size slot image ≡ Err h
    → adopt_refusal size slot image ≡ Some (NoDevice h)
unfolding adopt_refusal
none_refused size slot image f h is means = rw (is, means) refl

pub adopted_unrefused : (size slot : ℕ) (image : Image) (f : StartFault) (m : Mounted)
    → device size image ≡ Err f
    → adopted size slot image ≡ Ok m
    → adopt_refusal size slot image ≡ None
unfolding adopt_refusal
adopted_unrefused size slot image f m is means = rw (is, means) refl

-- what the disk holds is no fault of the disk
pub not_disk : (f : StartFault) → IsOfContents f → IsOfDisk f → ⊥
not_disk (faults.TooSmall need have) is disk = disk
not_disk (faults.BadMark sector) is disk = disk
not_disk (faults.BadControl fault) is disk = disk
not_disk faults.BadPhysical is disk = disk
not_disk faults.BadGeometry is disk = disk
not_disk (faults.BadTable slot) is disk = disk
not_disk (faults.BadPartition name) is disk = disk
not_disk (faults.BadStore name) is disk = disk
not_disk (faults.BadState rule) is disk = disk
not_disk faults.NoMemory is disk = disk
not_disk (faults.Disk fault) is disk = is
