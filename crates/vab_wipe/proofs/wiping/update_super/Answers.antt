use Rattle.std.proofs.Common.{ℕ, List, Ok, sym, subst, arith}
use Rattle.std.specs.Prelude.{option_map}
use Rattle.vab_disk.specs.Calls.{Touches}
use Rattle.vab_lpstore.specs.Layout.{BothHold}
use Rattle.vab_lpstore.specs.Storing.{IsOfTable}
use Rattle.vab_model.specs.declared.command.Reply.TheVariants as replies
use Rattle.vab_model.specs.Commands.{UpdateSuper}
use Rattle.vab_device.specs.declared.device.Device.{Device}
use Rattle.vab_device.specs.Does.{Does}
use Rattle.vab_device.proofs.PlaceLaws.{copies_on_disk}
use Rattle.vab_wipe.specs.Writes.{IsOfWipe}
use Rattle.vab_wipe.proofs.CommandLaws.{StoresTable, refused_by, fails_wipe, does_wipe}
use Rattle.vab_wipe.proofs.wiping.update_super.Goals as goal

pub store_table-requires-clause-on_disk : goal.store_table-requires-clause-on_disk
store_table-requires-clause-on_disk g c =
    let dev = c.requires.kept in
    let on = copies_on_disk c.args.device.geometry c.args.device.mark.slot
    c.args.device.tail.super_end dev.geometry dev.slot dev.copies_on in
    omega (arith, on, dev.ends)

pub returns-in-Err : goal.returns-in-Err
returns-in-Err g c =
    refused_by g.D.Disk c.args.device (option_map (λ s. s.now) c.args.staged) c.in-Err.refusal
    c.args.d.now c.requires.kept c.requires.represents c.in-Err.ensures.refused

pub returns-in-Err-store_table : goal.returns-in-Err-store_table
returns-in-Err-store_table g c =
    let d = c.args.device in
    let p = c.in-Ok.next in
    fails_wipe g.D.Disk d (option_map (λ s. s.now) c.args.staged) p.table p.text.items p.parts
    p.groups c.in-Ok.ensures.prepared c.args.d.now c.store_table.new.d c.requires.kept
    c.requires.represents
    (subst
    (λ (l : List ℕ).
    Touches g.D.Disk (IsOfTable d.geometry d.mark.slot l) c.args.d.now c.store_table.new.d)
    c.deref.ensures.value c.store_table.ensures.touches)
    (subst
    (StoresTable g.D.Disk d.geometry d.mark.slot c.args.d.now c.store_table.new.d)
    c.deref.ensures.value c.store_table.ensures.table)
    c.in-Err-store_table.fault c.in-Err-store_table.ensures.faults.cause

pub returns-in-Ok-store_table : goal.returns-in-Ok-store_table
returns-in-Ok-store_table g c =
    let d = c.args.device in
    let p = c.in-Ok.next in
    let staged = option_map (λ s. s.now) c.args.staged in
    subst
    (λ (x : Device).
    Does g.D.Disk d staged UpdateSuper (IsOfWipe d staged) c.args.d.now c.store_table.new.d
    (Ok (x, replies.Done)))
    (sym c.with_wiped.ensures)
    (does_wipe g.D.Disk d staged p.table p.text.items p.parts p.groups c.in-Ok.ensures.prepared
    c.args.d.now c.store_table.new.d c.requires.kept c.requires.represents
    (subst
    (λ (l : List ℕ).
    Touches g.D.Disk (IsOfTable d.geometry d.mark.slot l) c.args.d.now c.store_table.new.d)
    c.deref.ensures.value c.store_table.ensures.touches)
    (subst
    (StoresTable g.D.Disk d.geometry d.mark.slot c.args.d.now c.store_table.new.d)
    c.deref.ensures.value c.store_table.ensures.table)
    (λ t.
    subst
    (λ (l : List ℕ). BothHold d.geometry d.mark.slot l (g.D.Disk.seen c.store_table.new.d))
    c.deref.ensures.value (c.in-Ok-store_table.ensures.stored t))
    c.in-Ok-store_table.ensures.settled c.in-Ok-store_table.ensures.faults.steady)
