-- What is kept of a device where its overlay is dropped.
use Rattle.std.specs.Prelude.{false, None}
use Rattle.vab_marks.specs.Mark.{overlaid_by}
use Rattle.vab_device.specs.declared.device.Device.{Device}

-- the device without an overlay
abbrev pub without_overlay : Device → Device
without_overlay d = record d { mark = overlaid_by false d.mark; overlay = None }
