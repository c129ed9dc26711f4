-- What is read of a disk without an update.
use Rattle.std.specs.Prelude.{ℕ, ◌==◌, [], ◌∷◌}
use Rattle.vab_bootctl.specs.declared.slots.Control.{Control}
use Rattle.vab_marks.specs.declared.mark.UpdateMark.{UpdateMark}
use Rattle.vab_geometry.specs.declared.geometry.Geometry.{Geometry}
use Rattle.vab_tables.specs.declared.table.Table.{Table}
use Rattle.vab_model.specs.State.{control_seen}
use Rattle.vab_physical.specs.declared.tail.Tail.{Tail}
use Rattle.vab_device.specs.Reading.{Read}

-- the boot control as far as the one slot with images goes
abbrev pub control_read_of : ℕ → Control → Control
control_read_of slot c = control_seen (slot == 0) (slot == 1) c

abbrev pub idle_read : UpdateMark → Control → Tail → Geometry → Table → Read
idle_read m c tail g t = record {
  mark = m;
  statuses = [];
  control = control_read_of m.slot c;
  tail = tail;
  geometry = g;
  tables = t ∷ [];
  scanned = [];
}
