-- What is read where there is an update, and what is kept of a reading.
use Rattle.std.proofs.Common.{List, [], ◌∷◌}
use Rattle.std.specs.Prelude.{Option}
use Rattle.vab_bootctl.specs.declared.slots.Control.{Control}
use Rattle.vab_marks.specs.declared.mark.UpdateMark.{UpdateMark}
use Rattle.vab_marks.specs.declared.status.PartStatus.{PartStatus}
use Rattle.vab_geometry.specs.declared.geometry.Geometry.{Geometry}
use Rattle.vab_tables.specs.declared.table.Table.{Table}
use Rattle.vab_physical.specs.declared.tail.Tail.{Tail}
use Rattle.vab_device.specs.declared.device.Device.{Device}
use Rattle.vab_device.specs.Reading.{Read, kept}
use Rattle.vab_device.specs.Stores.{Scanned}

-- what is read where there is an update
abbrev pub update_read : UpdateMark
    → List (Option PartStatus)
    → Control
    → Tail
    → Geometry
    → Table
    → Table
    → List Scanned
    → Read
update_read m ss c tail g t u scanned = record {
  mark = m;
  statuses = ss;
  control = c;
  tail = tail;
  geometry = g;
  tables = t ∷ u ∷ [];
  scanned = scanned;
}

abbrev pub kept_with : Read → Control → Device
kept_with r c = record (kept r) { control = c }
