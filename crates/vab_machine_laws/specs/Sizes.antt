-- How large the states of devices are.
use Rattle.std.specs.Prelude.{ℕ, ◌≤◌, ◌^◌}
use Rattle.vab_disk.specs.Disk.{Image}
use Rattle.vab_machine.specs.Small.{IsSmall}
use Rattle.vab_device.specs.declared.device.Device.{Device}
use Rattle.vab_device.specs.Kept.{IsDevice}
use Rattle.vab_device.specs.Mounted.{state_on}
use Rattle.vab_targets.specs.Sectors.{HasWholeSectors}

-- On a disk of fewer than 2^55 sectors, each a whole one.
abbrev pub DevicesAreSmall : Type 0
DevicesAreSmall = (size : ℕ) (image : Image) (d : Device)
    → size ≤ 2 ^ 55
    → HasWholeSectors size image
    → IsDevice d size
    → IsSmall (state_on d image)
