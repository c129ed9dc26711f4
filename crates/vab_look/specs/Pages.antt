-- The pages of the device of a disk.
use Rattle.std.specs.Prelude.{◌≡◌, ℕ, List, Ok}
use Rattle.std.specs.List.{flat_map}
use Rattle.vab_disk.specs.Disk.{Image}
use Rattle.vab_device.specs.declared.device.Device.{Device}
use Rattle.vab_device.specs.Kept.{IsDevice}
use Rattle.vab_device.specs.Mounted.{mounted_on, state_on}
use Rattle.vab_device.specs.Reading.{device}
use Rattle.vab_status.specs.Page.{page}
use Rattle.vab_survey.specs.Rows.{rows_of}
use Rattle.vab_look.specs.declared.form.Form.{Form}
use Rattle.vab_look.specs.declared.form.Form.TheVariants.{Text, Json}
use Rattle.vab_look.specs.Facts.{status_facts}
use Rattle.vab_look.specs.StoresText.{store_line}

-- It is the page of `status` of a kept device; as facts they are those of the device.
abbrev pub IsPageOf : Form → Device → Image → List ℕ → Type 0
IsPageOf Text d image text = text ≡ page (state_on d image)
IsPageOf Json d image text = text ≡ status_facts Json d

-- It is that of the device that the disk is.
abbrev pub IsStatusPage : Form → ℕ → Image → List ℕ → Type 0
IsStatusPage form size image text =
    (d : Device)
    × IsDevice d size
    × (device size image ≡ Ok (mounted_on d image))
    × IsPageOf form d image text

-- It is the page of the stores of the device that the disk is.
abbrev pub IsStoresPage : Form → ℕ → Image → List ℕ → Type 0
IsStoresPage form size image text =
    (d : Device)
    × IsDevice d size
    × (device size image ≡ Ok (mounted_on d image))
    × (text ≡ flat_map (store_line form) (rows_of d))
