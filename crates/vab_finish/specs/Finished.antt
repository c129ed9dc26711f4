-- The device as its installation ends.
use Rattle.std.specs.Prelude.{◌==◌, if◌then◌else◌, None}
use Rattle.vab_marks.specs.declared.mark.MarkPhase.TheVariants as marks
use Rattle.vab_layout.specs.Slots.{other_slot}
use Rattle.vab_install.specs.Control.{cleared_of}
use Rattle.vab_device.specs.declared.device.Device.{Device}
use Rattle.vab_marks.specs.Mark.{rephased}

-- its plan has become the images of the target, and boot control says nothing of that
abbrev pub finished_device : Device → Device
finished_device d = record d {
  control = cleared_of d.control (other_slot d.mark.slot);
  mark = rephased marks.Staged d.mark;
  a = if d.mark.slot == 0 then d.a else d.plan;
  b = if d.mark.slot == 0 then d.plan else d.b;
  plan = None;
}
