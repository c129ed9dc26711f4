use Rattle.std.proofs.Common.{◌∙◌, ⊎_elim, inl, [], ℕ, List, sym, subst}
use Rattle.vab_disk.specs.Disk.{Faults, DiskFailed, SinkFailed}
use Rattle.vab_device.specs.Mounted.{Mounted}
use Rattle.vab_device.specs.Reading.{IsIn, Represents}
use Rattle.vab_model.specs.Commands.{command_of}
use Rattle.vab_cli.specs.declared.status.Status.{Status}
use Rattle.vab_cli.specs.Acts.{command_act, status_in}
use Rattle.vab_cli.specs.Runs.{Held, RunsItem}
use Rattle.vab_cli.specs.Verbs.{command_line, command_item, none_line, verb_status}
use Rattle.vab_cli.proofs.Acting.{acted_disk, acted_port, acted_words, command_is_act, front_none}
use Rattle.vab_cli.proofs.Acting.{runs_act, wanted}
use Rattle.vab_cli.proofs.Running.{opened_in, same_opened}
use Rattle.vab_cli.proofs.Touching.{opening_changes, Behind, verb_opened}
use Rattle.vab_cli.specs.Causes.{IsRefusedOn}
use Rattle.vab_cli.proofs.Causing.{device_opened, ended_opened, ended_refused, opening_kind}
use Rattle.vab_cli.proofs.Causing.{unopened_unrefused}
use Rattle.vab_cli.proofs.CopiesLeft.{early_unanswered, performed_copies}
use Rattle.vab_cli.proofs.commands.run_command.Goals as goal

pub returns-clause-runs : goal.returns-clause-runs
returns-clause-runs g c = λ t s stands.
    let old = c.args.port.now in
    let mid = c.open.new.port in
    let new = c.perform.new.port in
    let size = g.P.Disk.size old in
    let command = command_of c.args.command.now in
    let runs = runs_act g.P.Disk g.met.P.Disk.only_now (command_act [] command)
    (command_is_act [] command) c.in-Ok.device s old mid new c.perform.result
    (same_opened g.P.Disk size old mid (c.in-Ok.ensures.opens t)) c.open.ensures.size stands
    (subst (λ (n : ℕ). Represents c.in-Ok.device n (g.P.Disk.seen mid)) (sym c.open.ensures.size)
    (c.in-Ok.ensures.represents t))
    t c.perform.ensures.performs in
    inl (subst (λ (x : Status).
    RunsItem g.P.Disk size s (command_item s command (command_line s command))
    (verb_status s command) old new x)
    (sym c.ended.ensures)
    (subst (λ (l : List ℕ).
    RunsItem g.P.Disk size s (command_item s command l) (verb_status s command) old new
    (status_in c.perform.result))
    (front_none s command)
    (⊎_elim (λ item. item)
    (λ short. absurd (c.perform.ensures.memory (wanted c.perform.result short.memory)))
    runs)))

pub returns-clause-quiet : goal.returns-clause-quiet
returns-clause-quiet g c = λ t.
    let opens = c.open.ensures.quiet t in
    let p = c.perform.ensures.performs in
    let does = p.quiet t in
    record { left = does.left ∙ opens.left; heard = does.heard ∙ opens.heard }

pub returns-clause-steady : goal.returns-clause-steady
returns-clause-steady g c = λ held.
    let p = c.perform.ensures.performs in
    p.steady (subst Held c.ended.ensures held) ∙ c.in-Ok.ensures.steady

pub returns-clause-words : goal.returns-clause-words
returns-clause-words g c = λ is.
    acted_words g.P.Disk c.in-Ok.device _ c.open.new.port c.perform.new.port c.perform.result
    c.perform.ensures.performs (sym c.ended.ensures ∙ is)

pub returns-clause-disk : goal.returns-clause-disk
returns-clause-disk g c = λ is.
    subst (λ (f : Faults). DiskFailed f (g.P.Disk.faults c.perform.new.port))
    c.in-Ok.ensures.steady
    (acted_disk g.P.Disk c.in-Ok.device _ c.open.new.port c.perform.new.port c.perform.result
    c.perform.ensures.performs (sym c.ended.ensures ∙ is))

pub returns-clause-port : goal.returns-clause-port
returns-clause-port g c = λ is.
    subst (λ (f : Faults). SinkFailed f (g.P.Disk.faults c.perform.new.port))
    c.in-Ok.ensures.steady
    (acted_port g.P.Disk c.in-Ok.device _ c.open.new.port c.perform.new.port c.perform.result
    c.perform.ensures.performs (sym c.ended.ensures ∙ is))

pub returns-in-Err-clause-changes : goal.returns-in-Err-clause-changes
returns-in-Err-clause-changes g c = λ t s stands boot there.
    let size = g.P.Disk.size c.args.port.now in
    opening_changes g.P.Disk size
    (Behind g.P.Disk size (g.P.Disk.seen c.args.port.now) s boot (command_of c.args.command.now))
    c.args.port.now c.open.new.port (c.open.ensures.changes t)

pub returns-clause-changes : goal.returns-clause-changes
returns-clause-changes g c = λ t s stands boot there.
    let old = c.args.port.now in
    let mid = c.open.new.port in
    let size = g.P.Disk.size old in
    let here = opened_in g.P.Disk g.met.P.Disk.only_now size old mid s (c.in-Ok.ensures.opens t)
    stands in
    verb_opened g.P.Disk size c.in-Ok.device s boot (command_of c.args.command.now)
    old mid c.perform.new.port t
    (c.in-Ok.ensures.represents t)
    (c.open.ensures.changes t)
    (c.perform.ensures.changes t s
    (subst (λ (n : ℕ). IsIn n s (g.P.Disk.seen mid)) (sym c.open.ensures.size) here) boot)
    there

pub returns-in-Err-clause-refused : goal.returns-in-Err-clause-refused
returns-in-Err-clause-refused g c = λ t refused.
    unopened_unrefused
    (opening_kind g.P.Disk none_line c.args.port.now c.open.new.port c.in-Err.status
    (c.in-Err.ensures.early t) (c.in-Err.ensures.none t))
    refused

pub returns-clause-unopened : goal.returns-clause-unopened
returns-clause-unopened g c = λ t none.
    ended_opened c.perform.result c.perform.ensures.performs.stop
    (sym c.ended.ensures ∙ none)

pub returns-clause-refused : goal.returns-clause-refused
returns-clause-refused g c = λ t refused s stands.
    let opens = c.in-Ok.ensures.opens t in
    subst
    (λ (m : Mounted). IsRefusedOn m (command_of c.args.command.now) c.perform.new.cause)
    (device_opened c.in-Ok.device (g.P.Disk.size c.args.port.now) (g.P.Disk.seen c.open.new.port)
    (g.P.Disk.seen c.args.port.now) s (c.in-Ok.ensures.represents t) opens.device stands)
    (c.perform.ensures.refused t
    (ended_refused c.perform.result (sym c.ended.ensures ∙ refused)))

pub returns-in-Err-clause-copies : goal.returns-in-Err-clause-copies
returns-in-Err-clause-copies g c = λ t s stands answers.
    absurd
    ((let fails = c.in-Err.ensures.early t s stands in
    early_unanswered c.in-Err.status fails.early) answers)

pub returns-clause-copies : goal.returns-clause-copies
returns-clause-copies g c = λ t s stands answers.
    performed_copies g.P.Disk c.in-Ok.device _ (g.P.Disk.size c.args.port.now) c.open.new.port
    c.perform.new.port c.perform.result c.ended.result t c.open.ensures.size
    c.perform.ensures.performs c.ended.ensures answers
