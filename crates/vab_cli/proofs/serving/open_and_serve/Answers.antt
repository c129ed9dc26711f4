use Rattle.std.proofs.Common.{inl, ℕ, sym, subst, ◌^◌}
use Rattle.vab_disk.proofs.CallLaws.{changes_wider}
use Rattle.vab_commands.specs.Touched.{IsOfAll, IsOfCommands}
use Rattle.vab_session.specs.Sparing.{SparesSource}
use Rattle.vab_session.specs.Served.{ServesDevice}
use Rattle.vab_cli.specs.declared.status.Status.{Status}
use Rattle.vab_cli.specs.Runs.{RunsSession}
use Rattle.vab_cli.proofs.Sessions.{opened_runs}
use Rattle.vab_cli.specs.Touched.{IsOfServing}
use Rattle.vab_cli.proofs.Touching.{served_changes}
use Rattle.std.proofs.Common.{◌∙◌, []}
use Rattle.vab_cli.proofs.Causing.{opening_kind, session_broken, session_opened, unopened_read}
use Rattle.vab_commands.specs.Copies.{HasBothCopies}
use Rattle.vab_cli.specs.Copies.{IsAnswered}
use Rattle.vab_cli.proofs.CopiesLeft.{early_unanswered, session_held}
use Rattle.std.proofs.Common.{inr}
use Rattle.vab_cli.proofs.Writing.{changes_as, writes_opened}
use Rattle.vab_cli.proofs.serving.open_and_serve.Goals as goal

pub returns-clause-runs : goal.returns-clause-runs
returns-clause-runs g c = λ t s stands.
    let old = c.args.port.now in
    let mid = c.open.new.port in
    let new = c.serve_with-answer.new.p in
    let size = g.P.Disk.size old in
    let d = c.in-Ok.device in
    let serves = subst
    (λ (n : ℕ). ServesDevice n g.P.Disk d (2 ^ 44) c.args.turns mid new c.serve_with-answer.result)
    c.open.ensures.size (c.serve_with-answer.ensures.serves t) in
    let runs = opened_runs g.P.Disk g.met.P.Disk.only_now size c.args.turns d s old mid new
    c.serve_with-answer.result
    (c.in-Ok.ensures.opens t) stands (c.in-Ok.ensures.represents t) serves in
    inl (subst
    (λ (x : Status). RunsSession g.P.Disk size (λ o. ⊥) c.args.turns s old new x)
    (sym c.session_status.ensures) runs)

pub returns-in-Err-clause-changes : goal.returns-in-Err-clause-changes
returns-in-Err-clause-changes g c = λ t s stands.
    changes_wider g.P.Disk
    (IsOfServing IsOfAll (g.P.Disk.size c.args.port.now) (g.P.Disk.seen c.args.port.now)) _
    c.args.port.now c.open.new.port (c.open.ensures.changes t) (λ n x w. inl w)

pub returns-in-Err-clause-spared : goal.returns-in-Err-clause-spared
returns-in-Err-clause-spared g c = λ t s stands none.
    changes_wider g.P.Disk
    (IsOfServing IsOfCommands (g.P.Disk.size c.args.port.now) (g.P.Disk.seen c.args.port.now)) _
    c.args.port.now c.open.new.port (c.open.ensures.changes t) (λ n x w. inl w)

pub returns-clause-changes : goal.returns-clause-changes
returns-clause-changes g c = λ t s stands.
    let by = c.serve_with-answer.ensures.changes t in
    served_changes g.P.Disk (g.P.Disk.size c.args.port.now) IsOfAll c.in-Ok.device
    c.args.port.now c.open.new.port c.serve_with-answer.new.p t (c.in-Ok.ensures.represents t)
    (c.open.ensures.changes t) by.all

pub returns-clause-spared : goal.returns-clause-spared
returns-clause-spared g c = λ t s stands none.
    let by = c.serve_with-answer.ensures.changes t in
    let opens = c.in-Ok.ensures.opens t in
    served_changes g.P.Disk (g.P.Disk.size c.args.port.now) IsOfCommands c.in-Ok.device
    c.args.port.now c.open.new.port c.serve_with-answer.new.p t (c.in-Ok.ensures.represents t)
    (c.open.ensures.changes t)
    (by.plain (subst (SparesSource (2 ^ 44) c.args.turns) (sym opens.left) none))

pub returns-in-Err-clause-broken_off : goal.returns-in-Err-clause-broken_off
returns-in-Err-clause-broken_off g c = λ t bad.
    unopened_read
    (opening_kind g.P.Disk [] c.args.port.now c.open.new.port c.in-Err.status
    (c.in-Err.ensures.early t) (c.in-Err.ensures.none t))
    bad

pub returns-clause-unopened : goal.returns-clause-unopened
returns-clause-unopened g c = λ t none.
    session_opened c.serve_with-answer.result (sym c.session_status.ensures ∙ none)

pub returns-clause-broken_off : goal.returns-clause-broken_off
returns-clause-broken_off g c = λ t bad.
    let opens = c.in-Ok.ensures.opens t in
    session_broken c.args.turns g.P.Disk (g.P.Disk.size c.open.new.port) c.in-Ok.device
    c.args.port.now
    c.open.new.port c.serve_with-answer.new.p c.serve_with-answer.result c.session_cause.result
    opens.left
    (c.serve_with-answer.ensures.serves t) c.session_cause.ensures
    (sym c.session_status.ensures ∙ bad)

pub returns-in-Err-clause-copies : goal.returns-in-Err-clause-copies
returns-in-Err-clause-copies g c = λ t s stands answers.
    absurd
    ((let fails = c.in-Err.ensures.early t s stands in
    early_unanswered c.in-Err.status fails.early) answers)

pub returns-clause-copies : goal.returns-clause-copies
returns-clause-copies g c = λ t s stands answers.
    subst (λ (n : ℕ). HasBothCopies n (g.P.Disk.seen c.serve_with-answer.new.p)) c.open.ensures.size
    (c.serve_with-answer.ensures.copies t
    (session_held c.serve_with-answer.result (subst IsAnswered c.session_status.ensures answers)))

pub returns-in-Err-clause-writes : goal.returns-in-Err-clause-writes
returns-in-Err-clause-writes g c = λ t s stands.
    inr (changes_as g.P.Disk _ c.args.port.now c.open.new.port t (c.open.ensures.changes t))

pub returns-clause-writes : goal.returns-clause-writes
returns-clause-writes g c = λ t s stands.
    let opens = c.in-Ok.ensures.opens t in
    writes_opened c.args.turns g.P.Disk _ (g.P.Disk.size c.args.port.now) c.in-Ok.device
    c.args.port.now c.open.new.port c.serve_with-answer.new.p t
    c.open.ensures.size opens.left (c.in-Ok.ensures.represents t) (c.open.ensures.changes t)
    opens.settled (c.serve_with-answer.ensures.writes t)

pub returns-in-Err-clause-unheard : goal.returns-in-Err-clause-unheard
returns-in-Err-clause-unheard g c = λ t fault none. c.open.ensures.quiet t

pub returns-clause-unheard : goal.returns-clause-unheard
returns-clause-unheard g c = λ t fault none. absurd (c.in-Ok.ensures.found t fault none)
