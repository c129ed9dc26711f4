use Rattle.std.proofs.Common.{Ok, Err}
use Rattle.vab_model.specs.Commands.{command_of}
use Rattle.vab_update.specs.declared.stop.Stop.TheVariants as stops
use Rattle.vab_update.proofs.CarriesLaws.{carries_single, carries_failed, carries_done}
use Rattle.vab_update.proofs.CarriesLaws.{carries_refused}
use Rattle.vab_update.proofs.WrittenLaws.{order_done, order_failed, order_refused}
use Rattle.vab_update.proofs.carry.follow_order.Goals as goal

pub returns-in-Err : goal.returns-in-Err
returns-in-Err g c = λ order same bytes.
    let old = c.args.d.now in
    let new = c.run_one.new.d in
    let command = command_of c.args.command.now in
    order_failed g.D.Disk c.args.device order _ command old new same bytes c.in-Err.fault
    (carries_single g.D.Disk c.args.device order _ command old new (Err (stops.Disk c.in-Err.fault))
    same bytes
    (carries_failed g.D.Disk c.args.device _ command old new c.requires.plain c.requires.kept
    c.requires.represents c.in-Err.fault c.in-Err.ensures))
    c.in-Err.ensures

pub returns-in-Some : goal.returns-in-Some
returns-in-Some g c = λ order same bytes.
    let old = c.args.d.now in
    let new = c.run_one.new.d in
    let command = command_of c.args.command.now in
    order_refused g.D.Disk c.args.device order _ command old new same bytes
    (c.in-Ok.device, c.in-Ok.reply) c.in-Ok.ensures c.in-Some.refusal
    (carries_single g.D.Disk c.args.device order _ command old new
    (Err (stops.Refused c.in-Some.refusal)) same bytes
    (carries_refused g.D.Disk c.args.device _ command old new c.requires.plain c.requires.kept
    c.requires.represents c.in-Ok.device c.in-Ok.reply c.in-Ok.ensures
    c.in-Some.refusal c.in-Some.ensures.some))

pub returns-in-None : goal.returns-in-None
returns-in-None g c = λ order same bytes.
    let old = c.args.d.now in
    let new = c.run_one.new.d in
    let command = command_of c.args.command.now in
    order_done g.D.Disk c.args.device order _ command old new same bytes
    (c.in-Ok.device, c.in-Ok.reply) c.in-Ok.ensures c.in-Ok.device
    (carries_single g.D.Disk c.args.device order _ command old new (Ok c.in-Ok.device) same bytes
    (carries_done g.D.Disk c.args.device _ command old new c.requires.plain c.requires.kept
    c.requires.represents c.in-Ok.device c.in-Ok.reply c.in-Ok.ensures
    (c.refusal_in.ensures.none c.in-None.is)))
