use Rattle.std.proofs.Common.{sym, subst}
use Rattle.std.proofs.lemmas.Result.{on_ok_weaker}
use Rattle.vab_device.specs.Reading.{SameRead}
use Rattle.vab_tidy.proofs.RaiseLaws.{zeroing_time, raising_touches, raising_same, raising_time}
use Rattle.vab_tidy.proofs.migration.raise.Goals as goal

pub returns-in_err-zero_added-clause-time : goal.returns-in_err-zero_added-clause-time
returns-in_err-zero_added-clause-time g c =
    zeroing_time g.D.Disk c.args.d.now c.zero_added.new.d c.requires.old
    c.zero_added.ensures.touches

pub returns-clause-same : goal.returns-clause-same
returns-clause-same g c = λ t r reads.
    on_ok_weaker c.put_gate.result
    (λ now.
    subst (SameRead (g.D.Disk.size c.args.d.now) r (g.D.Disk.seen c.args.d.now)) (sym now)
    (raising_same g.D.Disk c.args.d.now c.zero_added.new.d c.requires.old
    c.zero_added.ensures.touches c.put_gate.new.d c.args.mark.now c.encode_mark.result
    c.requires.mark
    c.encode_mark.ensures.spelled c.encode_mark.ensures.decoded c.encode_mark.ensures.version
    c.in_ok-zero_added.ensures.zeros t r reads))
    (c.put_gate.ensures.written t)

pub returns-clause-touches : goal.returns-clause-touches
returns-clause-touches g c =
    raising_touches g.D.Disk c.args.d.now c.zero_added.new.d c.requires.old
    c.zero_added.ensures.touches c.put_gate.new.d c.args.mark.now c.encode_mark.result
    c.requires.mark
    c.encode_mark.ensures.spelled c.encode_mark.ensures.decoded c.encode_mark.ensures.version
    c.put_gate.ensures.touches

pub returns-clause-time : goal.returns-clause-time
returns-clause-time g c =
    raising_time g.D.Disk c.args.d.now c.zero_added.new.d c.requires.old
    c.zero_added.ensures.touches c.put_gate.new.d c.args.mark.now c.encode_mark.result
    c.requires.mark
    c.encode_mark.ensures.spelled c.encode_mark.ensures.decoded c.encode_mark.ensures.version
    c.in_ok-zero_added.ensures.zeros c.in_ok-zero_added.ensures.settled c.put_gate.ensures.gate
