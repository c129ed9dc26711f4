use Rattle.std.proofs.Common.{◌≡◌, inl, inr, ℕ, Ok, Err, refl, sym, subst}
use Rattle.vab_device.specs.Mounted.{Mounted}
use Rattle.vab_device.specs.Reading.{IsIn}
use Rattle.vab_disk.proofs.CallLaws.{changes_wider}
use Rattle.vab_model.specs.Commands.{Print}
use Rattle.vab_model.specs.Effects.{found_of}
use Rattle.vab_cli.specs.Verbs.{print_told, command_item, verb_status}
use Rattle.vab_cli.proofs.Items.{print_last}
use Rattle.vab_cli.proofs.Lines.{verb_kind}
use Rattle.vab_cli.proofs.Running.{opened_in, runs_done, runs_failed, does_sized}
use Rattle.vab_cli.proofs.Running.{same_opened}
use Rattle.vab_cli.proofs.Touching.{opening_changes, opened_changes, Behind}
use Rattle.vab_cli.specs.Causes.{IsRefusedOn}
use Rattle.vab_cli.specs.Verbs.{none_line}
use Rattle.vab_cli.proofs.Causing.{device_opened, failed_opened, failed_unrefused}
use Rattle.vab_cli.proofs.Causing.{opening_kind, unopened_unrefused}
use Rattle.vab_commands.proofs.CopiesLaws.{both_copies, copies_stay}
use Rattle.vab_cli.proofs.CopiesLeft.{early_unanswered, failed_unanswered, unwritten}
use Rattle.vab_cli.proofs.printing.print.Goals as goal

pub returns-in-Ok-print_image-clause-runs : goal.returns-in-Ok-print_image-clause-runs
returns-in-Ok-print_image-clause-runs g c = λ t s stands.
    let old = c.args.port.now in
    let mid = c.open.new.port in
    let new = c.print_image.new.port in
    let size = g.P.Disk.size old in
    let command = Print c.args.name.now in
    let line = λ (x : Mounted). print_told (found_of x.state c.args.name.now) in
    let status = c.in-Ok-print_image.status in
    let opens = c.in-Ok.ensures.opens t in
    let opened = same_opened g.P.Disk size old mid opens in
    let here = opened_in g.P.Disk g.met.P.Disk.only_now size old mid s opens stands in
    let sized : g.P.Disk.size mid ≡ size = c.open.ensures.size in
    let does = does_sized g.P.Disk (g.P.Disk.size mid) size (λ x. command_item x command (line x))
    mid new (Ok status) sized (c.in-Ok-print_image.ensures.does t) s here in
    let is = c.in-Ok-print_image.ensures.status t s
    (subst (λ (n : ℕ). IsIn n s (g.P.Disk.seen mid)) (sym sized) here) in
    inl (runs_done g.P.Disk g.met.P.Disk.only_now size s (command_item s command (line s))
    (inl refl) (inr (print_last size s c.args.name.now (line s))) (verb_status s command)
    old mid new opened
    stands status is does)

pub returns-clause-runs : goal.returns-clause-runs
returns-clause-runs g c = λ t s stands.
    let old = c.args.port.now in
    let mid = c.open.new.port in
    let new = c.print_image.new.port in
    let size = g.P.Disk.size old in
    let command = Print c.args.name.now in
    let line = λ (x : Mounted). print_told (found_of x.state c.args.name.now) in
    let status = c.in-Err-print_image.status in
    let opens = c.in-Ok.ensures.opens t in
    let opened = same_opened g.P.Disk size old mid opens in
    let here = opened_in g.P.Disk g.met.P.Disk.only_now size old mid s opens stands in
    let sized : g.P.Disk.size mid ≡ size = c.open.ensures.size in
    let does = does_sized g.P.Disk (g.P.Disk.size mid) size (λ x. command_item x command (line x))
    mid new (Err status) sized (c.in-Err-print_image.ensures.does t) s here in
    inl (runs_failed g.P.Disk g.met.P.Disk.only_now size s (command_item s command (line s))
    (inl refl) (inr (print_last size s c.args.name.now (line s))) (verb_status s command)
    old mid new opened
    stands status c.in-Err-print_image.ensures.failed (verb_kind s command) does)

pub returns-in-Err-clause-changes : goal.returns-in-Err-clause-changes
returns-in-Err-clause-changes g c = λ t s stands boot there.
    let size = g.P.Disk.size c.args.port.now in
    opening_changes g.P.Disk size
    (Behind g.P.Disk size (g.P.Disk.seen c.args.port.now) s boot (Print c.args.name.now))
    c.args.port.now c.open.new.port (c.open.ensures.changes t)

pub returns-in-Ok-print_image-clause-changes : goal.returns-in-Ok-print_image-clause-changes
returns-in-Ok-print_image-clause-changes g c = λ t s stands boot there.
    let size = g.P.Disk.size c.args.port.now in
    opened_changes g.P.Disk size
    (Behind g.P.Disk size (g.P.Disk.seen c.args.port.now) s boot (Print c.args.name.now))
    boot c.args.port.now c.open.new.port c.print_image.new.port t (c.open.ensures.changes t)
    (λ is. changes_wider g.P.Disk _ _ c.open.new.port c.print_image.new.port
    (c.print_image.ensures.changes t) (λ n x w. absurd w)) there

pub returns-clause-changes : goal.returns-clause-changes
returns-clause-changes g c = λ t s stands boot there.
    let size = g.P.Disk.size c.args.port.now in
    opened_changes g.P.Disk size
    (Behind g.P.Disk size (g.P.Disk.seen c.args.port.now) s boot (Print c.args.name.now))
    boot c.args.port.now c.open.new.port c.print_image.new.port t (c.open.ensures.changes t)
    (λ is. changes_wider g.P.Disk _ _ c.open.new.port c.print_image.new.port
    (c.print_image.ensures.changes t) (λ n x w. absurd w)) there

pub returns-in-Err-clause-refused : goal.returns-in-Err-clause-refused
returns-in-Err-clause-refused g c = λ t refused.
    unopened_unrefused
    (opening_kind g.P.Disk none_line c.args.port.now c.open.new.port c.in-Err.status
    (c.in-Err.ensures.early t) (c.in-Err.ensures.none t))
    refused

pub returns-in-Ok-print_image-clause-refused : goal.returns-in-Ok-print_image-clause-refused
returns-in-Ok-print_image-clause-refused g c = λ t refused s stands.
    let opens = c.in-Ok.ensures.opens t in
    subst
    (λ (m : Mounted). IsRefusedOn m (Print c.args.name.now) c.print_image.new.cause)
    (device_opened c.in-Ok.device (g.P.Disk.size c.args.port.now) (g.P.Disk.seen c.open.new.port)
    (g.P.Disk.seen c.args.port.now) s (c.in-Ok.ensures.represents t) opens.device stands)
    (c.in-Ok-print_image.ensures.refused refused (g.P.Disk.seen c.open.new.port))

pub returns-clause-unopened : goal.returns-clause-unopened
returns-clause-unopened g c = λ t none. failed_opened c.in-Err-print_image.ensures.failed none

pub returns-clause-refused : goal.returns-clause-refused
returns-clause-refused g c = λ t refused.
    failed_unrefused c.in-Err-print_image.ensures.failed refused

pub returns-in-Err-clause-copies : goal.returns-in-Err-clause-copies
returns-in-Err-clause-copies g c = λ t s stands answers.
    absurd
    ((let fails = c.in-Err.ensures.early t s stands in
    early_unanswered c.in-Err.status fails.early) answers)

pub returns-in-Ok-print_image-clause-copies : goal.returns-in-Ok-print_image-clause-copies
returns-in-Ok-print_image-clause-copies g c = λ t s stands answers.
    copies_stay (g.P.Disk.size c.args.port.now) (g.P.Disk.seen c.open.new.port)
    (g.P.Disk.seen c.print_image.new.port)
    (unwritten g.P.Disk c.open.new.port c.print_image.new.port t (c.print_image.ensures.changes t))
    (both_copies c.in-Ok.device _ _ (c.in-Ok.ensures.represents t))

pub returns-clause-copies : goal.returns-clause-copies
returns-clause-copies g c = λ t s stands answers.
    absurd
    (failed_unanswered c.in-Err-print_image.status c.in-Err-print_image.ensures.failed answers)
