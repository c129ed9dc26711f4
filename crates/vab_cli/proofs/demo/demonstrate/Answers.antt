use Rattle.std.proofs.Common.{◌≡◌, ◌≢◌, ◌∙◌, ℕ, Err, sym, subst, arith}
use Rattle.vab_device.specs.Reading.{device, Represents}
use Rattle.vab_device.proofs.ReadingLaws.{device_stands}
use Rattle.vab_make.specs.Made.{made_device_of}
use Rattle.vab_cli.specs.declared.status.Status.{Status}
use Rattle.vab_cli.specs.declared.status.Status.TheVariants.{NotADevice}
use Rattle.vab_cli.specs.Codes.{start_status}
use Rattle.vab_cli.specs.Demo.{Demonstrates}
use Rattle.vab_cli.specs.Runs.{IsEarly}
use Rattle.vab_cli.proofs.Demos.{demo_lives, demo_unmade, demo_unopened}
use Rattle.vab_cli.proofs.Makings.{enough_sectors}
use Rattle.vab_cli.proofs.Running.{contents_of, early_of, is_one, memory_other, not_of_disk_by}
use Rattle.vab_cli.proofs.Sessions.{opens_sized}
use Rattle.std.proofs.Common.{inl, refl}
use Rattle.vab_cli.proofs.Causing.{ended_opened, unmade_told}
use Rattle.vab_cli.specs.Copies.{IsAnswered}
use Rattle.vab_cli.proofs.CopiesLeft.{either_unanswered, making_unanswered, performed_copies}
use Rattle.vab_cli.proofs.CopiesLeft.{start_unanswered}
use Rattle.vab_cli.proofs.demo.demonstrate.Goals as goal

pub returns-in-Err-clause-does : goal.returns-in-Err-clause-does
returns-in-Err-clause-does g c =
    demo_unmade g.P.Disk g.met.P.Disk.only_now c.args.set.now c.args.next.now c.args.port.now
    c.in-Err.fault c.make_device.new.d c.tell_unmade.new.port c.tell_unmade.result
    c.in-Err.ensures.exact c.in-Err.ensures.untouched c.make_device.ensures.touches
    c.make_device.ensures.time c.tell_unmade.ensures.tells c.tell_unmade.ensures.size
    c.tell_unmade.ensures.silent c.tell_unmade.ensures.either

pub returns-in-Err-start-clause-does : goal.returns-in-Err-start-clause-does
returns-in-Err-start-clause-does g c =
    let mid = c.make_device.new.d in
    let size = g.P.Disk.size c.args.port.now in
    let sized : g.P.Disk.size mid ≡ size = c.make_device.ensures.touches.quiet.size in
    demo_unopened g.P.Disk g.met.P.Disk.only_now c.args.set.now c.args.next.now c.args.port.now
    mid c.in-Ok.ensures.exact c.make_device.ensures.touches c.in-Ok.ensures.made
    c.in-Ok.ensures.version c.in-Ok.ensures.settled c.make_device.ensures.time c.start.new.d
    c.from.result
    (λ t.
    let other : start_status c.in-Err-start.fault ≢ NotADevice = λ is.
    is_one size (made_device_of c.args.set.now 0 65536 size) (g.P.Disk.seen mid)
    c.in-Err-start.fault (c.in-Ok.ensures.made t)
    (subst (λ (n : ℕ). device n (g.P.Disk.seen mid) ≡ Err c.in-Err-start.fault) sized
    (c.in-Err-start.ensures.fault t (contents_of c.in-Err-start.fault is))) in
    subst IsEarly (sym c.from.ensures) (early_of c.in-Err-start.fault other))
    (λ t memory.
    (c.in-Err-start.ensures.unwritten
    (not_of_disk_by c.in-Err-start.fault (memory_other (sym c.from.ensures ∙ memory)))).seen t)
    c.start.ensures.touches c.start.ensures.time

pub live-requires-clause-size : goal.live-requires-clause-size
live-requires-clause-size g c =
    let enough = enough_sectors c.args.set.now 0 65536 (g.P.Disk.size c.args.port.now)
    c.in-Ok.ensures.exact in
    omega (arith, enough, c.make_device.ensures.touches.quiet.size, c.start.ensures.quiet.size)

pub returns-clause-does : goal.returns-clause-does
returns-clause-does g c =
    let old = c.args.port.now in
    let mid = c.make_device.new.d in
    let now = c.start.new.d in
    let size = g.P.Disk.size old in
    let sized : g.P.Disk.size mid ≡ size = c.make_device.ensures.touches.quiet.size in
    let d = c.in-Ok-start.device in
    subst
    (λ (s : Status).
    Demonstrates g.P.Disk c.args.set.now c.args.next.now old c.live.new.port s)
    (sym c.ended.ensures)
    (demo_lives g.P.Disk g.met.P.Disk.only_now c.args.set.now c.args.next.now old mid
    c.in-Ok.ensures.exact c.make_device.ensures.touches c.in-Ok.ensures.made
    c.in-Ok.ensures.version c.in-Ok.ensures.settled c.make_device.ensures.time d now c.live.new.port
    c.live.result
    c.start.ensures.touches
    (λ t.
    opens_sized g.P.Disk (g.P.Disk.size mid) size mid now sized (record {
      told = c.start.ensures.quiet.told t;
      left = c.start.ensures.quiet.left t;
      heard = c.start.ensures.quiet.heard t;
      device = device_stands d _ _ (c.in-Ok-start.ensures.represents t)
          ∙ sym (c.in-Ok-start.ensures.device t);
      settled = c.in-Ok-start.ensures.settled t;
      time = c.start.ensures.time t;
    }))
    (λ t.
    subst (λ (n : ℕ). Represents d n (g.P.Disk.seen now)) sized
    (c.in-Ok-start.ensures.represents t))
    (c.start.ensures.quiet.size ∙ sized)
    c.live.ensures)

pub returns-in-Err-clause-unmade : goal.returns-in-Err-clause-unmade
returns-in-Err-clause-unmade g c = λ t none.
    unmade_told g.P.Disk c.args.port.now c.args.set.now 0 65536 c.in-Err.fault _
    c.tell_unmade.result c.in-Err.ensures.exact refl c.tell_unmade.ensures.either (inl none)

pub returns-in-Err-start-clause-unmade : goal.returns-in-Err-start-clause-unmade
returns-in-Err-start-clause-unmade g c = λ t none.
    let mid = c.make_device.new.d in
    let size = g.P.Disk.size c.args.port.now in
    let sized : g.P.Disk.size mid ≡ size = c.make_device.ensures.touches.quiet.size in
    is_one size (made_device_of c.args.set.now 0 65536 size) (g.P.Disk.seen mid)
    c.in-Err-start.fault (c.in-Ok.ensures.made t)
    (subst (λ (n : ℕ). device n (g.P.Disk.seen mid) ≡ Err c.in-Err-start.fault) sized
    (c.in-Err-start.ensures.fault t
    (contents_of c.in-Err-start.fault (sym c.from.ensures ∙ none))))

pub returns-clause-unmade : goal.returns-clause-unmade
returns-clause-unmade g c = λ t none.
    ended_opened c.live.result c.live.ensures.performs.stop (sym c.ended.ensures ∙ none)

pub returns-in-Err-clause-copies : goal.returns-in-Err-clause-copies
returns-in-Err-clause-copies g c = λ t none answers.
    absurd
    (either_unanswered c.tell_unmade.result _ c.tell_unmade.ensures.either
    (making_unanswered c.in-Err.fault _ c.in-Err.ensures.exact none)
    answers)

pub returns-in-Err-start-clause-copies : goal.returns-in-Err-start-clause-copies
returns-in-Err-start-clause-copies g c = λ t none answers.
    absurd
    (start_unanswered c.in-Err-start.fault (subst IsAnswered c.from.ensures answers))

pub returns-clause-copies : goal.returns-clause-copies
returns-clause-copies g c = λ t none answers.
    performed_copies g.P.Disk c.in-Ok-start.device _ (g.P.Disk.size c.args.port.now) c.start.new.d
    c.live.new.port c.live.result c.ended.result t
    (c.start.ensures.quiet.size ∙ c.make_device.ensures.touches.quiet.size)
    c.live.ensures.performs c.ended.ensures answers
