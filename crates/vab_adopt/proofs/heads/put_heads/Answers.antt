use Rattle.std.proofs.Common.{◌≡◌, ◌∙◌, Ok, inl, inr, refl, ap, arith}
use Rattle.std.proofs.lemmas.Result.{on_ok_weaker}
use Rattle.vab_disk.specs.Disk.{IsSector, set_sector}
use Rattle.vab_disk.proofs.Moments.{adds_on, adds_wider}
use Rattle.vab_disk.proofs.CallLaws.{touches_wider, touches_on, touches_then}
use Rattle.vab_copies.specs.Copies.{zeros}
use Rattle.vab_marks.specs.Mark.{mark_spelling, idle_mark}
use Rattle.vab_adopt.specs.Adopted.{HasHeadsOf}
use Rattle.vab_adopt.proofs.GateLaws.{blanked_mark, all_heads, first_adopting}
use Rattle.vab_adopt.proofs.GateLaws.{blank_adopting, last_adopting, control_moved}
use Rattle.vab_adopt.proofs.heads.put_heads.Goals as goal

pub returns-in_err-put_gate-clause-touches : goal.returns-in_err-put_gate-clause-touches
returns-in_err-put_gate-clause-touches g c = λ t.
    touches_wider g.D.Disk _ _ _ _ c.put_gate.ensures.touches (λ s b is. inl (is.0, inl is.1))

pub returns-in_err-put_gate-clause-time : goal.returns-in_err-put_gate-clause-time
returns-in_err-put_gate-clause-time g c = λ t m means rest.
    adds_wider g.D.Disk.moment g.D.Disk.outcomes _ _ _ _ (c.put_gate.ensures.gate t rest)
    (first_adopting (g.D.Disk.told c.args.d.now) (g.D.Disk.size c.args.d.now) c.args.slot
    (g.D.Disk.seen c.args.d.now) c.requires.enough)

pub returns-in_err-put_control-clause-touches : goal.returns-in_err-put_control-clause-touches
returns-in_err-put_control-clause-touches g c = λ t.
    let old = g.D.Disk.seen c.args.d.now in
    let one = g.D.Disk.seen c.put_gate.new.d in
    touches_on g.D.Disk _ _ _ _ _ _ c.put_gate.ensures.touches (c.put_control.ensures.touches t)
    (λ s b is. inl (is.0, inl is.1))
    (λ s b is. inr (control_moved c.args.slot old one (c.in_ok-put_gate.ensures.written t) s b is))

pub returns-in_err-put_control-clause-time : goal.returns-in_err-put_control-clause-time
returns-in_err-put_control-clause-time g c = λ t m means rest.
    let told = g.D.Disk.told c.args.d.now in
    let size = g.D.Disk.size c.args.d.now in
    let old = g.D.Disk.seen c.args.d.now in
    let one = g.D.Disk.seen c.put_gate.new.d in
    adds_on g.D.Disk.moment g.D.Disk.outcomes _ _ _ _ _
    (adds_wider g.D.Disk.moment g.D.Disk.outcomes _ _ _ _ (c.put_gate.ensures.gate t rest)
    (first_adopting told size c.args.slot old c.requires.enough))
    ((c.put_control.ensures.touches t).time t)
    (blank_adopting told size c.args.slot old c.requires.enough
    (g.D.Disk.told c.put_gate.new.d) one (g.D.Disk.may_leave c.put_gate.new.d)
    (c.put_gate.ensures.touches.quiet.told t)
    (c.in_ok-put_gate.ensures.settled t)
    (blanked_mark old one (c.in_ok-put_gate.ensures.written t)))

pub returns-clause-touches : goal.returns-clause-touches
returns-clause-touches g c = λ t.
    let old = g.D.Disk.seen c.args.d.now in
    let one = g.D.Disk.seen c.put_gate.new.d in
    let is : c.encode_mark.result ≡ mark_spelling (idle_mark c.args.slot) =
    c.encode_mark.ensures.spelled ∙ ap mark_spelling c.idle_mark.ensures in
    touches_then g.D.Disk _ _ _ _
    (touches_on g.D.Disk _ _ _ _ _ _ c.put_gate.ensures.touches (c.put_control.ensures.touches t)
    (λ s b is. inl (is.0, inl is.1))
    (λ s b is.
    inr (control_moved c.args.slot old one (c.in_ok-put_gate.ensures.written t) s b is)))
    (touches_wider g.D.Disk _ _ _ _ c.put_gate-2.ensures.touches
    (λ s b at. inl (at.0, inr (at.1 ∙ is))))

pub returns-clause-heads : goal.returns-clause-heads
returns-clause-heads g c = λ t.
    on_ok_weaker c.put_gate-2.result
    (λ now.
    all_heads c.args.slot (g.D.Disk.seen c.args.d.now) (g.D.Disk.seen c.put_gate.new.d)
    (g.D.Disk.seen c.put_control.new.d) (g.D.Disk.seen c.put_gate-2.new.d) c.encode_mark.result
    (c.in_ok-put_gate.ensures.written t) (c.in_ok-put_control.ensures.control t)
    (c.in_ok-put_control.ensures.others t) now
    (c.encode_mark.ensures.decoded ∙ ap Ok c.idle_mark.ensures) c.encode_mark.ensures.version)
    (c.put_gate-2.ensures.written t)

pub returns-clause-time : goal.returns-clause-time
returns-clause-time g c = λ t m means rest.
    let told = g.D.Disk.told c.args.d.now in
    let size = g.D.Disk.size c.args.d.now in
    let old = g.D.Disk.seen c.args.d.now in
    let one = g.D.Disk.seen c.put_gate.new.d in
    let two = g.D.Disk.seen c.put_control.new.d in
    let blank = blanked_mark old one (c.in_ok-put_gate.ensures.written t) in
    let still : two 2048 ≡ zeros =
    c.in_ok-put_control.ensures.others t 2048 (λ e. omega (arith, e)) ∙ blank in
    let sector : IsSector (old 4) =
    g.met.D.Disk.whole c.args.d.now 4 (old 4) (omega (arith, c.requires.enough))
    (g.met.D.Disk.seen_held c.args.d.now 4) in
    let has : HasHeadsOf c.args.slot old (set_sector two 2048 c.encode_mark.result) =
    all_heads c.args.slot old one two (set_sector two 2048 c.encode_mark.result)
    c.encode_mark.result (c.in_ok-put_gate.ensures.written t)
    (c.in_ok-put_control.ensures.control t) (c.in_ok-put_control.ensures.others t) refl
    (c.encode_mark.ensures.decoded ∙ ap Ok c.idle_mark.ensures) c.encode_mark.ensures.version in
    adds_on g.D.Disk.moment g.D.Disk.outcomes _ _ _ _ _
    (adds_on g.D.Disk.moment g.D.Disk.outcomes _ _ _ _ _
    (adds_wider g.D.Disk.moment g.D.Disk.outcomes _ _ _ _ (c.put_gate.ensures.gate t rest)
    (first_adopting told size c.args.slot old c.requires.enough))
    ((c.put_control.ensures.touches t).time t)
    (blank_adopting told size c.args.slot old c.requires.enough
    (g.D.Disk.told c.put_gate.new.d) one (g.D.Disk.may_leave c.put_gate.new.d)
    (c.put_gate.ensures.touches.quiet.told t)
    (c.in_ok-put_gate.ensures.settled t) blank))
    (c.put_gate-2.ensures.gate t (c.in_ok-put_control.ensures.settled t))
    (last_adopting told size c.args.slot old c.requires.enough
    (g.D.Disk.told c.put_control.new.d) c.encode_mark.result two m c.requires.slot sector means
    (c.put_control.ensures.quiet.told t ∙ c.put_gate.ensures.touches.quiet.told t)
    still has)
