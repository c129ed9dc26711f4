-- What is kept of a device as an update begins or ends.
use Rattle.std.specs.Prelude.{◌==◌, if◌then◌else◌, List, Option, None}
use Rattle.vab_bootctl.specs.declared.slots.Control.{Control}
use Rattle.vab_marks.specs.declared.mark.MarkPhase.TheVariants as marks
use Rattle.vab_marks.specs.declared.mark.UpdateMark.{UpdateMark}
use Rattle.vab_marks.specs.Mark.{rephased}
use Rattle.vab_tables.specs.declared.table.Table.{Table}
use Rattle.vab_device.specs.declared.device.Part.{Part}
use Rattle.vab_device.specs.declared.device.Device.{Device}

-- the device with this mark of the same slot, with this table of the other slot, and this plan
abbrev pub with_update : Device → UpdateMark → Option Table → Option (List Part) → Device
with_update d m t plan = record d {
  mark = m;
  table_a = if d.mark.slot == 0 then d.table_a else t;
  table_b = if d.mark.slot == 0 then t else d.table_b;
  plan = plan;
}

-- the same, with this boot control
abbrev pub with_control : Control → Device → Device
with_control c d = record d { control = c }

-- the device without images of the slot that isn't the mark's
abbrev pub without_target : Device → Device
without_target d = record d {
  a = if d.mark.slot == 0 then d.a else None;
  b = if d.mark.slot == 0 then None else d.b;
}

-- the device without an update
abbrev pub without_update : Device → Device
without_update d = without_target (with_update d (rephased marks.Idle d.mark) None None)
