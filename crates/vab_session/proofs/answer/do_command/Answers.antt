use Rattle.std.proofs.Common.{◌≡◌, inl, ◌∙◌, ℕ, List, Ok, refl, ap, subst, false}
use Rattle.std.specs.Prelude.{Option}
use Rattle.vab_disk.proofs.CallLaws.{changes_telling}
use Rattle.vab_model.specs.Commands.{command_of}
use Rattle.vab_model.specs.Effects.{after_of}
use Rattle.vab_device.specs.Does.{Does, effect_of}
use Rattle.vab_model.specs.Kinds.{changes_source}
use Rattle.vab_device.specs.Mounted.{Mounted, mounted_on}
use Rattle.vab_device.specs.Reading.{IsIn}
use Rattle.vab_device.proofs.ReadingLaws.{device_stands}
use Rattle.vab_commands.specs.Writes.{IsOfCommand}
use Rattle.vab_commands.proofs.ChangeLaws.{command_changes_by}
use Rattle.vab_fbproto.specs.Texts.{reply_text}
use Rattle.vab_exchanges.specs.Items.{staged_after}
use Rattle.vab_session.specs.Responses.{takes_staged}
use Rattle.vab_session.specs.declared.kept.KeptDevice.{KeptDevice}
use Rattle.vab_session.specs.Served.{kept_on}
use Rattle.vab_session.proofs.Changing.{changes_told, follows_done}
use Rattle.vab_session.proofs.Data.{command_before, command_done, command_told}
use Rattle.vab_commands.proofs.CopiesLaws.{both_copies, copies_stay}
use Rattle.vab_session.proofs.WrittenLaws.{command_writes, writes_told}
use Rattle.vab_session.proofs.answer.do_command.Goals as goal

pub returns-in-Err-clause-does : goal.returns-in-Err-clause-does
returns-in-Err-clause-does g c = λ t packet before beyond count total most asked is none same.
    let old = c.args.p.now in
    let mid = c.run_one.new.d in
    let size = g.P.Disk.size old in
    let device = c.args.kept.device in
    let cmd = command_of c.args.command.now in
    let W = IsOfCommand g.P.Disk.is_modelled device (g.P.Disk.seen old 4) cmd in
    let k = kept_on c.args.kept (g.P.Disk.seen old) in
    let did : Does g.P.Disk device k.staged cmd W old mid c.run_one.result =
    subst (λ (st : Option (List ℕ)). Does g.P.Disk device st cmd W old mid c.run_one.result)
    c.bytes_of.ensures c.run_one.ensures in
    command_before size g.P.Disk k packet before beyond did.refused asked is none cmd same old mid
    (did.quiet.told t) (did.quiet.heard t) (did.time t)

pub returns-in-Ok-tell_reply-clause-does : goal.returns-in-Ok-tell_reply-clause-does
returns-in-Ok-tell_reply-clause-does g c =
    λ t packet before beyond count total most asked is none same.
    let old = c.args.p.now in
    let mid = c.run_one.new.d in
    let size = g.P.Disk.size old in
    let device = c.args.kept.device in
    let cmd = command_of c.args.command.now in
    let W = IsOfCommand g.P.Disk.is_modelled device (g.P.Disk.seen old 4) cmd in
    let k = kept_on c.args.kept (g.P.Disk.seen old) in
    let did : Does g.P.Disk device k.staged cmd W old mid (Ok c.in-Ok.done) =
    subst (λ (st : Option (List ℕ)). Does g.P.Disk device st cmd W old mid (Ok c.in-Ok.done))
    c.bytes_of.ensures c.in-Ok.ensures in
    let e = effect_of g.P.Disk device k.staged cmd did.refused old in
    let after = after_of k.now e in
    let text_is : c.as_slice.result.now ≡ reply_text e.reply =
    c.as_slice.ensures.value ∙ c.reply_text.ensures.text ∙ ap reply_text (did.reply t) in
    let stands : IsIn size after (g.P.Disk.seen mid) =
    subst (λ (m : Mounted). IsIn size m (g.P.Disk.seen mid)) (did.after t)
    (device_stands c.in-Ok.done.0 size (g.P.Disk.seen mid) (did.represents t)) in
    let new = c.tell_reply.new.p in
    let next : KeptDevice =
    record { device = c.in-Ok.done.0; staged = c.left_staged-staged.result } in
    let now : mounted_on c.in-Ok.done.0 (g.P.Disk.seen new) ≡ after =
    ap (mounted_on c.in-Ok.done.0) (c.tell_reply.ensures.seen t) ∙ did.after t in
    let left : (kept_on next (g.P.Disk.seen new)).staged
    ≡ staged_after (takes_staged cmd e.reply) k.staged =
    c.left_staged-staged.ensures
    ∙ ap (λ r. staged_after (takes_staged cmd r) k.staged) (did.reply t) in
    command_done size g.P.Disk k packet before beyond did.refused asked is none cmd same old mid
    (did.quiet.told t) (did.quiet.heard t) (did.time t)
    new c.as_slice.result.now text_is stands (λ rest. did.rest t rest)
    (c.tell_reply.ensures.seen t) (c.tell_reply.ensures.crash t) (c.tell_reply.ensures.heard t)
    (c.tell_reply.ensures.time t) (kept_on next (g.P.Disk.seen new))
    (λ i. record { now = now i; staged = left i }) (c.in-Ok-tell_reply.ensures.told t)

pub returns-in-Err-tell_reply-clause-does : goal.returns-in-Err-tell_reply-clause-does
returns-in-Err-tell_reply-clause-does g c =
    λ t packet before beyond count total most asked is none same.
    let old = c.args.p.now in
    let mid = c.run_one.new.d in
    let size = g.P.Disk.size old in
    let device = c.args.kept.device in
    let cmd = command_of c.args.command.now in
    let W = IsOfCommand g.P.Disk.is_modelled device (g.P.Disk.seen old 4) cmd in
    let k = kept_on c.args.kept (g.P.Disk.seen old) in
    let did : Does g.P.Disk device k.staged cmd W old mid (Ok c.in-Ok.done) =
    subst (λ (st : Option (List ℕ)). Does g.P.Disk device st cmd W old mid (Ok c.in-Ok.done))
    c.bytes_of.ensures c.in-Ok.ensures in
    let e = effect_of g.P.Disk device k.staged cmd did.refused old in
    let after = after_of k.now e in
    let text_is : c.as_slice.result.now ≡ reply_text e.reply =
    c.as_slice.ensures.value ∙ c.reply_text.ensures.text ∙ ap reply_text (did.reply t) in
    let stands : IsIn size after (g.P.Disk.seen mid) =
    subst (λ (m : Mounted). IsIn size m (g.P.Disk.seen mid)) (did.after t)
    (device_stands c.in-Ok.done.0 size (g.P.Disk.seen mid) (did.represents t)) in
    inl (command_told size g.P.Disk k packet before beyond did.refused asked is none cmd same old
    mid
    (did.quiet.told t) (did.quiet.heard t) (did.time t)
    c.tell_reply.new.p c.as_slice.result.now text_is stands (λ rest. did.rest t rest)
    (c.tell_reply.ensures.seen t) (c.tell_reply.ensures.crash t) (c.tell_reply.ensures.heard t)
    (c.tell_reply.ensures.time t) (c.tell_reply.ensures.front t))

pub returns-in-Err-clause-changes : goal.returns-in-Err-clause-changes
returns-in-Err-clause-changes g c = λ t.
    command_changes_by g.P.Disk c.args.kept.device (command_of c.args.command.now)
    c.args.p.now c.run_one.new.d t c.requires.device (c.requires.stands t)
    (c.run_one.ensures.touches t)

pub returns-in-Ok-tell_reply-clause-changes : goal.returns-in-Ok-tell_reply-clause-changes
returns-in-Ok-tell_reply-clause-changes g c = λ t.
    let said = c.tell_reply.ensures in
    let d = c.args.kept.device in
    let cmd = command_of c.args.command.now in
    changes_told g.P.Disk d (changes_source cmd ≡ false) c.args.p.now c.run_one.new.d
    c.tell_reply.new.p
    (command_changes_by g.P.Disk d cmd c.args.p.now c.run_one.new.d t c.requires.device
    (c.requires.stands t) (c.run_one.ensures.touches t))
    (λ W.
    changes_telling g.P.Disk W _ c.run_one.new.d c.tell_reply.new.p
    said.size said.seen said.crash said.time)

pub returns-in-Err-tell_reply-clause-changes : goal.returns-in-Err-tell_reply-clause-changes
returns-in-Err-tell_reply-clause-changes g c = λ t.
    let said = c.tell_reply.ensures in
    let d = c.args.kept.device in
    let cmd = command_of c.args.command.now in
    changes_told g.P.Disk d (changes_source cmd ≡ false) c.args.p.now c.run_one.new.d
    c.tell_reply.new.p
    (command_changes_by g.P.Disk d cmd c.args.p.now c.run_one.new.d t c.requires.device
    (c.requires.stands t) (c.run_one.ensures.touches t))
    (λ W.
    changes_telling g.P.Disk W _ c.run_one.new.d c.tell_reply.new.p
    said.size said.seen said.crash said.time)

pub returns-in-Ok-tell_reply-clause-follows : goal.returns-in-Ok-tell_reply-clause-follows
returns-in-Ok-tell_reply-clause-follows g c =
    follows_done c.args.kept.device (command_of c.args.command.now) c.in-Ok.done.0
    c.in-Ok.ensures.follows

pub returns-in-Err-clause-copies : goal.returns-in-Err-clause-copies
returns-in-Err-clause-copies g c = λ t held.
    absurd held

pub returns-in-Ok-tell_reply-clause-copies : goal.returns-in-Ok-tell_reply-clause-copies
returns-in-Ok-tell_reply-clause-copies g c = λ t held.
    copies_stay (g.P.Disk.size c.args.p.now) (g.P.Disk.seen c.run_one.new.d)
    (g.P.Disk.seen c.tell_reply.new.p) (c.tell_reply.ensures.seen t)
    (both_copies c.in-Ok.done.0 _ _ (c.in-Ok.ensures.represents t))

pub returns-in-Err-tell_reply-clause-copies : goal.returns-in-Err-tell_reply-clause-copies
returns-in-Err-tell_reply-clause-copies g c = λ t held.
    absurd held

pub returns-in-Err-clause-writes : goal.returns-in-Err-clause-writes
returns-in-Err-clause-writes g c = λ t.
    let old = c.args.p.now in
    let mid = c.run_one.new.d in
    let device = c.args.kept.device in
    let cmd = command_of c.args.command.now in
    let W = IsOfCommand g.P.Disk.is_modelled device (g.P.Disk.seen old 4) cmd in
    let k = kept_on c.args.kept (g.P.Disk.seen old) in
    let did : Does g.P.Disk device k.staged cmd W old mid c.run_one.result =
    subst (λ (st : Option (List ℕ)). Does g.P.Disk device st cmd W old mid c.run_one.result)
    c.bytes_of.ensures c.run_one.ensures in
    command_writes g.P.Disk t device k cmd old mid refl c.run_one.result did

pub returns-in-Ok-tell_reply-clause-writes : goal.returns-in-Ok-tell_reply-clause-writes
returns-in-Ok-tell_reply-clause-writes g c = λ t.
    let old = c.args.p.now in
    let mid = c.run_one.new.d in
    let new = c.tell_reply.new.p in
    let device = c.args.kept.device in
    let cmd = command_of c.args.command.now in
    let W = IsOfCommand g.P.Disk.is_modelled device (g.P.Disk.seen old 4) cmd in
    let k = kept_on c.args.kept (g.P.Disk.seen old) in
    let did : Does g.P.Disk device k.staged cmd W old mid (Ok c.in-Ok.done) =
    subst (λ (st : Option (List ℕ)). Does g.P.Disk device st cmd W old mid (Ok c.in-Ok.done))
    c.bytes_of.ensures c.in-Ok.ensures in
    writes_told g.P.Disk _ old mid new _
    (command_writes g.P.Disk t device k cmd old mid refl (Ok c.in-Ok.done) did)
    (λ rest. did.rest t rest) (c.tell_reply.ensures.seen t) (c.tell_reply.ensures.time t)

pub returns-in-Err-tell_reply-clause-writes : goal.returns-in-Err-tell_reply-clause-writes
returns-in-Err-tell_reply-clause-writes g c = λ t.
    let old = c.args.p.now in
    let mid = c.run_one.new.d in
    let new = c.tell_reply.new.p in
    let device = c.args.kept.device in
    let cmd = command_of c.args.command.now in
    let W = IsOfCommand g.P.Disk.is_modelled device (g.P.Disk.seen old 4) cmd in
    let k = kept_on c.args.kept (g.P.Disk.seen old) in
    let did : Does g.P.Disk device k.staged cmd W old mid (Ok c.in-Ok.done) =
    subst (λ (st : Option (List ℕ)). Does g.P.Disk device st cmd W old mid (Ok c.in-Ok.done))
    c.bytes_of.ensures c.in-Ok.ensures in
    writes_told g.P.Disk _ old mid new _
    (command_writes g.P.Disk t device k cmd old mid refl (Ok c.in-Ok.done) did)
    (λ rest. did.rest t rest) (c.tell_reply.ensures.seen t) (c.tell_reply.ensures.time t)
