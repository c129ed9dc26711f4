use Rattle.std.proofs.Common.{◌≡◌, ◌∙◌, List, [], ◌∷◌, ℕ, Result, Ok, Err, refl, sym, ap, subst}
use Rattle.std.specs.Prelude.{None}
use Rattle.vab_disk.proofs.CallLaws.{changes_then, changes_telling}
use Rattle.vab_model.specs.declared.command.Reply.{Reply}
use Rattle.vab_model.specs.Commands.{Command, command_of}
use Rattle.vab_device.specs.declared.device.Device.{Device}
use Rattle.vab_device.specs.Mounted.{Mounted, mounted_on}
use Rattle.vab_device.specs.Updates.{effect_on}
use Rattle.vab_cli.specs.declared.status.Status.{Status}
use Rattle.vab_cli.specs.declared.status.Status.TheVariants.{Port}
use Rattle.vab_cli.specs.Acts.{PerformsActs, command_act}
use Rattle.vab_cli.specs.Codes.{reply_status}
use Rattle.vab_cli.specs.Telling.{Says}
use Rattle.vab_cli.specs.Verbs.{line_behind}
use Rattle.vab_cli.proofs.Acting.{command_broken, command_closed, command_failed, told_behind}
use Rattle.vab_cli.proofs.ActsWritten.{writes_broken, writes_closed, writes_failed}
use Rattle.vab_cli.specs.Written.{WritesActs}
use Rattle.vab_update.specs.Install.{order}
use Rattle.vab_cli.proofs.Items.{replied, says_err, says_ok}
use Rattle.vab_cli.proofs.Touching.{verb_changes}
use Rattle.std.specs.Prelude.{IsErrOf}
use Rattle.vab_cli.specs.declared.status.Status.TheVariants.{Refused}
use Rattle.vab_cli.proofs.Causing.{closed_refused}
use Rattle.vab_cli.proofs.acts.perform.Goals as goal

pub returns-in-Err-clause-performs : goal.returns-in-Err-clause-performs
returns-in-Err-clause-performs g c =
    command_failed g.P.Disk c.args.device (command_of c.args.command.now) c.requires.verb
    c.args.front.now c.args.port.now c.run_one.new.d c.requires.kept c.requires.represents _
    c.in-Err.ensures

pub returns-in-Ok-say_line-clause-performs : goal.returns-in-Ok-say_line-clause-performs
returns-in-Ok-say_line-clause-performs g c =
    let d = c.args.device in
    let old = c.args.port.now in
    let mid = c.run_one.new.d in
    let new = c.say_line.new.port in
    let front : List ℕ = c.args.front.now in
    let command : Command = command_of c.args.command.now in
    let m : Mounted = mounted_on d (g.P.Disk.seen old) in
    let reply : Reply = c.in-Ok.done.1 in
    let same : g.P.Disk.is_modelled → reply ≡ (effect_on m None command).reply = λ t.
    c.in-Ok.ensures.reply t ∙ replied c.in-Ok.ensures.refused command m c.requires.verb in
    let text : g.P.Disk.is_modelled → c.as_slice.result.now ≡ line_behind front m command = λ t.
    c.as_slice.ensures.value
    ∙ told_behind d (g.P.Disk.seen old) m command front _ _ reply _ _ refl
    c.current-current.ensures c.left-blocks.ensures.is (same t) c.put_front.ensures
    c.reply_line.ensures in
    subst
    (λ (r : Result Device Status).
    PerformsActs g.P.Disk d (command_act front command ∷ []) old new r)
    (sym c.closed.ensures)
    (command_closed g.P.Disk d command c.requires.verb front old mid c.requires.kept
    c.requires.represents _ reply new c.in-Ok.ensures c.say_line.ensures.size
    (λ t.
    subst
    (λ (l : List ℕ). Says g.P.Disk {A = Status} {E = Status} l mid new (Ok (reply_status reply)))
    (text t) (says_ok g.P.Disk _ mid new _ (reply_status reply) (c.in-Ok-say_line.ensures.says t)))
    (λ t. ap reply_status (same t))
    c.in-Ok-say_line.ensures.steady
    (λ t. (let says = c.in-Ok-say_line.ensures.says t in says.seen)))

pub returns-in-Err-say_line-clause-performs : goal.returns-in-Err-say_line-clause-performs
returns-in-Err-say_line-clause-performs g c =
    let d = c.args.device in
    let old = c.args.port.now in
    let mid = c.run_one.new.d in
    let new = c.say_line.new.port in
    let front : List ℕ = c.args.front.now in
    let command : Command = command_of c.args.command.now in
    let m : Mounted = mounted_on d (g.P.Disk.seen old) in
    let reply : Reply = c.in-Ok.done.1 in
    let text : g.P.Disk.is_modelled → c.as_slice.result.now ≡ line_behind front m command = λ t.
    c.as_slice.ensures.value
    ∙ told_behind d (g.P.Disk.seen old) m command front _ _ reply _ _ refl
    c.current-current.ensures c.left-blocks.ensures.is
    (c.in-Ok.ensures.reply t ∙ replied c.in-Ok.ensures.refused command m c.requires.verb)
    c.put_front.ensures c.reply_line.ensures in
    subst
    (λ (s : Status). PerformsActs g.P.Disk d (command_act front command ∷ []) old new (Err s))
    (sym c.in-Err-say_line.ensures.failed)
    (command_broken g.P.Disk d command c.requires.verb front old mid c.requires.kept
    c.requires.represents _ reply new c.in-Ok.ensures c.say_line.ensures.size
    (λ t.
    subst (λ (l : List ℕ). Says g.P.Disk {A = Status} {E = Status} l mid new (Err Port)) (text t)
    (says_err g.P.Disk _ mid new _ Port (c.in-Err-say_line.ensures.says t)))
    c.in-Err-say_line.ensures.port)

pub returns-in-Err-clause-changes : goal.returns-in-Err-clause-changes
returns-in-Err-clause-changes g c = λ t s stands boot there.
    verb_changes g.P.Disk c.args.device (g.P.Disk.size c.args.port.now) c.args.port.now
    c.run_one.new.d s boot (command_of c.args.command.now) c.requires.verb c.requires.kept
    (c.requires.represents t) stands there (c.in-Err.ensures.touches t)

pub returns-in-Ok-say_line-clause-changes : goal.returns-in-Ok-say_line-clause-changes
returns-in-Ok-say_line-clause-changes g c = λ t s stands boot there.
    let says = c.say_line.ensures.says t in
    changes_then g.P.Disk _ c.args.port.now c.run_one.new.d c.say_line.new.port
    (verb_changes g.P.Disk c.args.device (g.P.Disk.size c.args.port.now) c.args.port.now
    c.run_one.new.d s boot (command_of c.args.command.now) c.requires.verb c.requires.kept
    (c.requires.represents t) stands there (c.in-Ok.ensures.touches t))
    (changes_telling g.P.Disk _ _ c.run_one.new.d c.say_line.new.port c.say_line.ensures.size
    (λ t. says.seen) (λ t. says.crash) (λ t. says.time))

pub returns-in-Err-say_line-clause-changes : goal.returns-in-Err-say_line-clause-changes
returns-in-Err-say_line-clause-changes g c = λ t s stands boot there.
    let says = c.say_line.ensures.says t in
    changes_then g.P.Disk _ c.args.port.now c.run_one.new.d c.say_line.new.port
    (verb_changes g.P.Disk c.args.device (g.P.Disk.size c.args.port.now) c.args.port.now
    c.run_one.new.d s boot (command_of c.args.command.now) c.requires.verb c.requires.kept
    (c.requires.represents t) stands there (c.in-Ok.ensures.touches t))
    (changes_telling g.P.Disk _ _ c.run_one.new.d c.say_line.new.port c.say_line.ensures.size
    (λ t. says.seen) (λ t. says.crash) (λ t. says.time))

pub returns-in-Ok-say_line-clause-refused : goal.returns-in-Ok-say_line-clause-refused
returns-in-Ok-say_line-clause-refused g c = λ t refused.
    let m : Mounted = mounted_on c.args.device (g.P.Disk.seen c.args.port.now) in
    let command : Command = command_of c.args.command.now in
    let reply : Reply = c.in-Ok.done.1 in
    closed_refused c.in-Ok.done.0 reply c.args.cause.now c.note_reply.new.cause m command
    c.note_reply.ensures
    (sym (c.in-Ok.ensures.reply t ∙ replied c.in-Ok.ensures.refused command m c.requires.verb))
    (subst (λ (r : Result Device Status). IsErrOf r Refused) c.closed.ensures refused)

pub returns-in-Err-clause-writes : goal.returns-in-Err-clause-writes
returns-in-Err-clause-writes g c = λ t.
    writes_failed g.P.Disk t c.args.device (command_of c.args.command.now) c.args.port.now
    c.run_one.new.d _ c.in-Err.ensures

pub returns-in-Ok-say_line-clause-writes : goal.returns-in-Ok-say_line-clause-writes
returns-in-Ok-say_line-clause-writes g c = λ t.
    let d = c.args.device in
    let old = c.args.port.now in
    let new = c.say_line.new.port in
    let command : Command = command_of c.args.command.now in
    subst
    (λ (r : Result Device Status). WritesActs g.P.Disk d (order command ∷ []) old new r)
    (sym c.closed.ensures)
    (writes_closed g.P.Disk t d command old c.run_one.new.d c.requires.verb c.in-Ok.done.0
    c.in-Ok.done.1 c.in-Ok.ensures new _ _ (c.say_line.ensures.says t))

pub returns-in-Err-say_line-clause-writes : goal.returns-in-Err-say_line-clause-writes
returns-in-Err-say_line-clause-writes g c = λ t.
    let d = c.args.device in
    let old = c.args.port.now in
    let new = c.say_line.new.port in
    let command : Command = command_of c.args.command.now in
    subst
    (λ (s : Status). WritesActs g.P.Disk d (order command ∷ []) old new (Err s))
    (sym c.in-Err-say_line.ensures.failed)
    (writes_broken g.P.Disk t d command old c.run_one.new.d c.requires.verb c.in-Ok.done.0
    c.in-Ok.done.1 c.in-Ok.ensures new _ _ (c.say_line.ensures.says t))
