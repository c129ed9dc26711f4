-- The tables of an update that is installed.
use Rattle.std.specs.Prelude.{◌≡◌, List, Some}
use Rattle.vab_tables.specs.declared.table.Table.{Table}
use Rattle.vab_layout.specs.Slots.{other_slot}
use Rattle.vab_device.specs.declared.device.Part.{Part}
use Rattle.vab_device.specs.declared.device.Device.{Device}
use Rattle.vab_device.specs.Kept.{table_of_slot}

-- an update is installed, and these are the tables of its source and of its target
pub record HasTables (d : Device) (s t : Table) : Type 0 where
  pub source : table_of_slot d d.mark.slot ≡ Some s
  pub target : table_of_slot d (other_slot d.mark.slot) ≡ Some t
  pub old_plan : List Part
  pub is_planned : d.plan ≡ Some old_plan
