-- The device that is kept behind a wipe.
use Rattle.std.specs.Prelude.{◌==◌, if◌then◌else◌, List, Some}
use Rattle.vab_tables.specs.declared.table.Table.{Table}
use Rattle.vab_layout.specs.Layout.{layout_of}
use Rattle.vab_model.specs.declared.state.GroupLimit.{GroupLimit}
use Rattle.vab_device.specs.declared.device.Part.{Part}
use Rattle.vab_device.specs.declared.device.Device.{Device}
use Rattle.vab_device.specs.Kept.{limits_of, parts_of}

-- with this table of the slot of its mark, these partitions of the slot, and these groups
abbrev pub with_slot : Device → Table → List Part → List GroupLimit → Device
with_slot d t parts groups =
    if d.mark.slot == 0
    then record d { groups = groups; a = Some parts; table_a = Some t }
    else record d { groups = groups; b = Some parts; table_b = Some t }

-- with the partitions and the groups of the table
abbrev pub with_wiped : Device → Table → Device
with_wiped d t =
    with_slot d t (parts_of d.mark.slot (layout_of t)) (limits_of d.mark.slot t.groups)
