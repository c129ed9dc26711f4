-- The device that is kept behind a merge that has ended.
use Rattle.std.specs.Prelude.{◌==◌, if◌then◌else◌, Option, Some, None}
use Rattle.vab_tables.specs.declared.table.Table.{Table}
use Rattle.vab_device.specs.declared.device.Device.{Device}
use Rattle.vab_tidy.specs.declared.prepared.Alone.{Alone}
use Rattle.vab_tidy.specs.declared.prepared.Tidying.{Tidying}

-- with another table of the slot of its mark
abbrev pub with_table : Table → Device → Device
with_table t d = record d {
  table_a = if d.mark.slot == 0 then Some t else d.table_a;
  table_b = if d.mark.slot == 0 then d.table_b else Some t;
}

abbrev pub with_alone : Option Alone → Device → Device
with_alone None d = d
with_alone (Some x) d = with_table x.table d

-- with what was done
abbrev pub tidied_device : Tidying → Device → Device
tidied_device x d = with_alone x.alone d

abbrev pub device_after : Option Tidying → Device → Device
device_after None d = d
device_after (Some x) d = tidied_device x d
