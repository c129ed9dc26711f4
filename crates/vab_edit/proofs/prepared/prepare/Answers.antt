use Rattle.std.proofs.Common.{ℕ, arith}
use Rattle.vab_tables.specs.declared.table.Table.{Table}
use Rattle.vab_layout.specs.Slots.{other_slot}
use Rattle.vab_device.specs.declared.device.Device.{Device}
use Rattle.vab_device.specs.Kept.{IsDevice}
use Rattle.vab_edit.specs.Prepared.{MayBeEdited}
use Rattle.vab_edit.specs.Tables.{HasTables}
use Rattle.vab_device.proofs.SlotTable.{kept_table_at}
use Rattle.vab_edit.proofs.DeviceLaws.{kept_update}
use Rattle.vab_edit.proofs.prepared.prepare.Goals as goal

-- the tables of a device may be edited
may_be_edited : (d : Device) (size : ℕ) (s t : Table)
    → IsDevice d size
    → HasTables d s t
    → MayBeEdited d.mark.apart d.geometry.max d.mark.slot s t
may_be_edited d size s t kept has =
    let source = kept_table_at d size d.mark.slot s kept kept.slot has.source in
    let target = kept_table_at d size (other_slot d.mark.slot) t kept (omega arith) has.target in
    let update = kept_update d size s t kept has in
    record {
      slot = kept.slot;
      most = kept.geometry.most;
      source_keeps = source.rules;
      target_keeps = target.rules;
      source_small = source.small;
      target_small = target.small;
      own = source.own;
      target = update.target;
      device = update.device;
    }

pub given-requires : goal.given-requires
given-requires c =
    record {
      tables = may_be_edited c.args.device.now c.requires.kept.0 c.in-Some.source.now
          c.in-Some.target.now c.requires.kept.1 c.in-Some.ensures.some;
    }
