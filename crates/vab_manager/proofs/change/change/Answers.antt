use Rattle.vab_manager.proofs.CommandLaws.{fails_change, does_change}
use Rattle.vab_manager.proofs.change.change.Goals as goal

pub returns-in-Ok : goal.returns-in-Ok
returns-in-Ok g c = λ staged command gives writes.
    does_change g.D.Disk c.args.device staged command c.args.reply c.args.control
    c.args.d.now c.put_control.new.d
    c.requires.kept c.requires.represents c.requires.current c.requires.runs gives writes
    c.put_control.ensures.touches c.put_control.ensures.quiet c.put_control.ensures.gate
    c.requires.fits c.in-Ok.ensures.sector c.in-Ok.ensures.settled c.in-Ok.ensures.faults.steady

pub returns-in-Err : goal.returns-in-Err
returns-in-Err g c = λ staged command gives writes.
    fails_change g.D.Disk c.args.device staged command c.args.reply c.args.control
    c.args.d.now c.put_control.new.d
    c.requires.kept c.requires.represents c.requires.current c.requires.runs gives writes
    c.put_control.ensures.touches c.put_control.ensures.quiet c.put_control.ensures.gate
    _ c.in-Err.ensures.faults.cause
