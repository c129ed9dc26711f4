use Rattle.std.proofs.Common.{ℕ, ◌-◌, List, Ok, sym, subst, arith}
use Rattle.vab_disk.specs.Calls.{Touches}
use Rattle.vab_lpstore.specs.Layout.{BothHold}
use Rattle.vab_lpstore.specs.Storing.{IsOfTable}
use Rattle.vab_model.specs.declared.command.Reply.TheVariants as replies
use Rattle.vab_device.specs.declared.device.Device.{Device}
use Rattle.vab_device.specs.Does.{Does}
use Rattle.vab_edit.specs.Writes.{command_by, edit_by, guard_by, IsOfEdit}
use Rattle.vab_edit.proofs.CommandLaws.{copies_within, prepared_differs, StoresTable, refused_by}
use Rattle.vab_edit.proofs.CommandLaws.{fails_edit, does_edit}
use Rattle.vab_edit.proofs.command.edit.Goals as goal

pub store_table-requires-clause-on_disk : goal.store_table-requires-clause-on_disk
store_table-requires-clause-on_disk g c =
    copies_within c.args.device (g.D.Disk.size c.args.d.now) (1 - c.args.device.mark.slot)
    c.requires.kept (omega arith)

pub with_table-requires : goal.with_table-requires
with_table-requires g c =
    prepared_differs c.args.device c.args.edit.now c.in-Ok.next.table c.in-Ok.next.text.items
    c.in-Ok.next.plan c.in-Ok.ensures.prepared

pub returns-in-Err : goal.returns-in-Err
returns-in-Err g c = λ staged.
    refused_by g.D.Disk c.args.device c.args.edit.now staged c.in-Err.refusal c.args.d.now
    c.requires.kept c.requires.represents c.in-Err.ensures.refused

pub returns-in-Err-store_table : goal.returns-in-Err-store_table
returns-in-Err-store_table g c = λ staged.
    let target : ℕ = 1 - c.args.device.mark.slot in
    fails_edit g.D.Disk c.args.device c.args.edit.now staged c.in-Ok.next.table
    c.in-Ok.next.text.items c.in-Ok.next.plan c.in-Ok.ensures.prepared c.args.d.now
    c.store_table.new.d c.requires.kept c.requires.represents
    (subst
    (λ (l : List ℕ).
    Touches g.D.Disk (IsOfTable c.args.device.geometry target l) c.args.d.now c.store_table.new.d)
    c.deref.ensures.value c.store_table.ensures.touches)
    (subst
    (StoresTable g.D.Disk c.args.device.geometry target c.args.d.now c.store_table.new.d)
    c.deref.ensures.value c.store_table.ensures.table)
    c.in-Err-store_table.fault c.in-Err-store_table.ensures.faults.cause

pub returns-in-Ok-store_table : goal.returns-in-Ok-store_table
returns-in-Ok-store_table g c = λ staged.
    let target : ℕ = 1 - c.args.device.mark.slot in
    subst
    (λ (x : Device).
    Does g.D.Disk c.args.device staged (command_by c.args.edit.now)
    (IsOfEdit c.args.device (guard_by c.args.edit.now) (edit_by c.args.edit.now))
    c.args.d.now c.store_table.new.d (Ok (x, replies.Done)))
    (sym c.with_table.ensures)
    (does_edit g.D.Disk c.args.device c.args.edit.now staged c.in-Ok.next.table
    c.in-Ok.next.text.items c.in-Ok.next.plan c.in-Ok.ensures.prepared c.args.d.now
    c.store_table.new.d c.requires.kept c.requires.represents
    (subst
    (λ (l : List ℕ).
    Touches g.D.Disk (IsOfTable c.args.device.geometry target l) c.args.d.now c.store_table.new.d)
    c.deref.ensures.value c.store_table.ensures.touches)
    (subst
    (StoresTable g.D.Disk c.args.device.geometry target c.args.d.now c.store_table.new.d)
    c.deref.ensures.value c.store_table.ensures.table)
    (λ t.
    subst
    (λ (l : List ℕ).
    BothHold c.args.device.geometry target l (g.D.Disk.seen c.store_table.new.d))
    c.deref.ensures.value (c.in-Ok-store_table.ensures.stored t))
    c.in-Ok-store_table.ensures.settled c.in-Ok-store_table.ensures.faults.steady)
