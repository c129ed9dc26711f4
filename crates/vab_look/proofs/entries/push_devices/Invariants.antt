use Rattle.std.proofs.Common.{◌≡◌, ◌++◌, take}
use Rattle.std.specs.List.{flat_map}
use Rattle.vab_look.specs.TablesText.{device_line}
use Rattle.vab_look.proofs.entries.push_devices.Given as goal

abbrev pub invariant-loop-device : goal.invariant-loop-device
invariant-loop-device l =
    l.page.items
    ≡ l.fn.page.items ++ flat_map (device_line l.form l.slot) (take l.device-index l.devices)
