-- What is kept of a device as a merge begins, and as it ends.
use Rattle.std.specs.Prelude.{◌==◌, if◌then◌else◌, List, map, Option, Some, None}
use Rattle.vab_marks.specs.declared.mark.MarkPhase.TheVariants as marks
use Rattle.vab_device.specs.declared.device.Part.{Part}
use Rattle.vab_device.specs.declared.device.PartImage.TheVariants.{Kept}
use Rattle.vab_device.specs.declared.device.Device.{Device}
use Rattle.vab_marks.specs.Mark.{rephased}
use Rattle.vab_merging.specs.GateWrites.{merging_mark}

-- the source's images and its table are given up
abbrev pub merging_device : Device → Device
merging_device d = record d {
  mark = merging_mark d.mark;
  a = if d.mark.slot == 0 then None else d.a;
  b = if d.mark.slot == 0 then d.b else None;
  table_a = if d.mark.slot == 0 then None else d.table_a;
  table_b = if d.mark.slot == 0 then d.table_b else None;
}

-- a partition is its blocks
abbrev pub plain_part : Part → Part
plain_part p = record p { store = None; image = Kept }

abbrev pub plain_parts : Option (List Part) → Option (List Part)
plain_parts None = None
plain_parts (Some parts) = Some (map plain_part parts)

-- There is no update any more, and the images are read without stores. The mark on the disk says
-- that all stores are merged, which is read so.
abbrev pub ended_device : Device → Device
ended_device d = record d {
  mark = rephased marks.Idle d.mark;
  a = plain_parts d.a;
  b = plain_parts d.b;
}
