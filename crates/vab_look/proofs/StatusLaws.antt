-- The page of the device that a disk is.
use Rattle.std.proofs.Common.{◌≡◌, ◌∙◌, ℕ, List, Ok, ap, subst}
use Rattle.vab_disk.specs.Disk.{Image}
use Rattle.vab_device.specs.declared.device.Device.{Device}
use Rattle.vab_device.specs.Kept.{IsDevice}
use Rattle.vab_device.specs.Mounted.{mounted_on}
use Rattle.vab_device.specs.Reading.{device}
use Rattle.vab_look.specs.declared.form.Form.{Form}
use Rattle.vab_look.specs.Pages.{IsPageOf, IsStatusPage}

-- the page of a device that was read, by what the disk has now
pub page_there : (form : Form) (d : Device) (size : ℕ) (old now : Image) (text : List ℕ)
    → IsDevice d size
    → device size old ≡ Ok (mounted_on d now)
    → now ≡ old
    → IsPageOf form d now text
    → IsStatusPage form size old text
page_there form d size old now text kept is same page = (
  d,
  kept,
  is ∙ ap (λ (i : Image). Ok (mounted_on d i)) same,
  subst (λ (i : Image). IsPageOf form d i text) same page,
)
