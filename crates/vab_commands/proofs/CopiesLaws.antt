-- The disk of a device that is kept has both copies of its tables.
use Rattle.std.proofs.Common.{◌≡◌, ℕ, subst, sym}
use Rattle.vab_disk.specs.Disk.{Image}
use Rattle.vab_device.specs.declared.device.Device.{Device}
use Rattle.vab_device.specs.Reading.{Represents}
use Rattle.vab_commands.specs.Copies.{HasBothCopies}

pub both_copies : (d : Device) (size : ℕ) (image : Image)
    → Represents d size image
    → HasBothCopies size image
both_copies d size image is = record { read = is.read; reads = is.reads; agree = is.copies }

-- where what is read stays
pub copies_stay : (size : ℕ) (old new : Image)
    → new ≡ old
    → HasBothCopies size old
    → HasBothCopies size new
copies_stay size old new same is = subst (HasBothCopies size) (sym same) is
