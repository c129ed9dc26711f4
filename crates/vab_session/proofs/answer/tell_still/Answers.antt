use Rattle.std.proofs.Common.{inl, sym, subst}
use Rattle.vab_disk.specs.Disk.{Image}
use Rattle.vab_disk.proofs.CallLaws.{changes_telling}
use Rattle.vab_device.specs.Reading.{IsIn}
use Rattle.vab_device.proofs.DoesLaws.{keeps_all}
use Rattle.vab_device.proofs.ReadingLaws.{device_stands}
use Rattle.vab_exchanges.specs.Runs.{Answers}
use Rattle.vab_session.specs.Responses.{response}
use Rattle.vab_session.specs.Served.{kept_on}
use Rattle.vab_session.proofs.Data.{still_answers, still_fails}
use Rattle.vab_commands.proofs.CopiesLaws.{both_copies, copies_stay}
use Rattle.vab_session.proofs.WrittenLaws.{writes_telling}
use Rattle.vab_session.proofs.answer.tell_still.Goals as goal

pub returns-in-Ok-clause-does : goal.returns-in-Ok-clause-does
returns-in-Ok-clause-does g c = λ t command before beyond count total most asked is none same.
    let old = c.args.p.now in
    let new = c.tell_reply.new.p in
    let size = g.P.Disk.size old in
    let kept = c.args.kept in
    let k = kept_on kept (g.P.Disk.seen old) in
    let stands = device_stands kept.device size (g.P.Disk.seen old) (c.requires.stands t) in
    subst
    (λ (image : Image).
    Answers response (IsIn size) g.P.Disk k (kept_on kept image) command before before beyond old
    new)
    (sym (c.tell_reply.ensures.seen t))
    (still_answers size g.P.Disk k command before beyond asked is none c.args.text.now same old new
    stands (c.tell_reply.ensures.seen t) (c.tell_reply.ensures.crash t)
    (c.tell_reply.ensures.heard t) (c.tell_reply.ensures.time t) (c.in-Ok.ensures.told t))

pub returns-in-Err-clause-does : goal.returns-in-Err-clause-does
returns-in-Err-clause-does g c = λ t command before beyond count total most asked is none same.
    let old = c.args.p.now in
    let size = g.P.Disk.size old in
    let kept = c.args.kept in
    let stands = device_stands kept.device size (g.P.Disk.seen old) (c.requires.stands t) in
    inl (still_fails size g.P.Disk (kept_on kept (g.P.Disk.seen old)) command before beyond asked is
    none c.args.text.now same old c.tell_reply.new.p stands
    (c.tell_reply.ensures.seen t) (c.tell_reply.ensures.crash t)
    (c.tell_reply.ensures.heard t) (c.tell_reply.ensures.time t) (c.tell_reply.ensures.front t))

pub returns-in-Ok-clause-changes : goal.returns-in-Ok-clause-changes
returns-in-Ok-clause-changes g c = λ t.
    let said = c.tell_reply.ensures in
    changes_telling g.P.Disk _ _ c.args.p.now c.tell_reply.new.p
    said.size said.seen said.crash said.time

pub returns-in-Err-clause-changes : goal.returns-in-Err-clause-changes
returns-in-Err-clause-changes g c = λ t.
    let said = c.tell_reply.ensures in
    changes_telling g.P.Disk _ _ c.args.p.now c.tell_reply.new.p
    said.size said.seen said.crash said.time

pub returns-in-Ok-clause-source : goal.returns-in-Ok-clause-source
returns-in-Ok-clause-source g c = keeps_all c.args.kept.device

pub returns-in-Ok-clause-copies : goal.returns-in-Ok-clause-copies
returns-in-Ok-clause-copies g c = λ t held.
    copies_stay (g.P.Disk.size c.args.p.now) (g.P.Disk.seen c.args.p.now)
    (g.P.Disk.seen c.tell_reply.new.p) (c.tell_reply.ensures.seen t)
    (both_copies c.args.kept.device _ _ (c.requires.stands t))

pub returns-in-Err-clause-copies : goal.returns-in-Err-clause-copies
returns-in-Err-clause-copies g c = λ t held.
    absurd held

pub returns-in-Ok-clause-writes : goal.returns-in-Ok-clause-writes
returns-in-Ok-clause-writes g c = λ t.
    writes_telling g.P.Disk (λ s b. ⊥) c.args.p.now c.tell_reply.new.p _
    (c.tell_reply.ensures.seen t)
    (c.tell_reply.ensures.time t)

pub returns-in-Err-clause-writes : goal.returns-in-Err-clause-writes
returns-in-Err-clause-writes g c = λ t.
    writes_telling g.P.Disk (λ s b. ⊥) c.args.p.now c.tell_reply.new.p _
    (c.tell_reply.ensures.seen t)
    (c.tell_reply.ensures.time t)
