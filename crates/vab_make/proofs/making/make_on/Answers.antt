use Rattle.std.proofs.Common.{◌≡◌, ℕ, List, inl, inr, ap, subst, sym, refl, ◌∙◌, arith}
use Rattle.std.proofs.lemmas.Result.{on_ok_weaker}
use Rattle.vab_disk.specs.Disk.{Image, set_sector}
use Rattle.vab_disk.specs.Written.{set_here, set_there}
use Rattle.vab_disk.proofs.Moments.{adds_on, adds_wider}
use Rattle.vab_disk.proofs.CallLaws.{touches_wider, touches_on, touches_then}
use Rattle.vab_bootctl.specs.Control.{control_of, KeepsRest}
use Rattle.vab_copies.specs.Copies.{zeros}
use Rattle.vab_marks.specs.Version.{version_in}
use Rattle.vab_make.specs.Making.{IsMade}
use Rattle.vab_make.specs.Steps.{blanked}
use Rattle.vab_make.proofs.TouchLaws.{mark_stays}
use Rattle.vab_make.proofs.Gates.{marked, places_marked, blank_making, first_making, last_making}
use Rattle.vab_make.proofs.making.make_on.Goals as goal
use Rattle.vab_make.proofs.StateLaws.{IsIdle}

-- the mark's sector after the first gate
blanked_mark : (old new : Image) → new ≡ set_sector old 2048 zeros → new 2048 ≡ zeros
blanked_mark old new is = ap (λ (i : Image). i 2048) is ∙ set_here old 2048 zeros 2048 refl

pub returns-in_err-put_gate-clause-touches : goal.returns-in_err-put_gate-clause-touches
returns-in_err-put_gate-clause-touches g c =
    touches_wider g.D.Disk _ _ _ _ c.put_gate.ensures.touches (λ s b is. inl is.0)

pub returns-in_err-put_gate-clause-time : goal.returns-in_err-put_gate-clause-time
returns-in_err-put_gate-clause-time g c = λ t limit is rest.
    adds_wider g.D.Disk.moment g.D.Disk.outcomes _ _ _ _ (c.put_gate.ensures.gate t rest)
    (first_making (g.D.Disk.told c.args.d.now) c.args.set.now limit c.args.max
    (g.D.Disk.size c.args.d.now) (g.D.Disk.seen c.args.d.now) c.requires.room.enough)

pub returns-in_err-settle_contents-clause-touches
    : goal.returns-in_err-settle_contents-clause-touches
returns-in_err-settle_contents-clause-touches g c =
    touches_on g.D.Disk _ _ _ _ _ _ c.put_gate.ensures.touches c.settle_contents.ensures.touches
    (λ s b is. inl is.0) (λ s b is. inr is)

pub returns-in_err-settle_contents-clause-time : goal.returns-in_err-settle_contents-clause-time
returns-in_err-settle_contents-clause-time g c = λ t limit is rest.
    let told = g.D.Disk.told c.args.d.now in
    let size = g.D.Disk.size c.args.d.now in
    let old = g.D.Disk.seen c.args.d.now in
    let mid = g.D.Disk.seen c.put_gate.new.d in
    adds_on g.D.Disk.moment g.D.Disk.outcomes _ _ _ _ _
    (adds_wider g.D.Disk.moment g.D.Disk.outcomes _ _ _ _ (c.put_gate.ensures.gate t rest)
    (first_making told c.args.set.now limit c.args.max size old c.requires.room.enough))
    (c.settle_contents.ensures.touches.time t)
    (blank_making told c.args.set.now limit c.args.max size old c.requires.room.enough
    (g.D.Disk.told c.put_gate.new.d) mid (g.D.Disk.may_leave c.put_gate.new.d)
    (c.put_gate.ensures.touches.quiet.told t)
    (c.in_ok-put_gate.ensures.settled t)
    (blanked_mark old mid (c.in_ok-put_gate.ensures.written t)))

pub returns-clause-touches : goal.returns-clause-touches
returns-clause-touches g c =
    touches_then g.D.Disk _ _ _ _
    (touches_on g.D.Disk _ _ _ _ _ _ c.put_gate.ensures.touches c.settle_contents.ensures.touches
    (λ s b is. inl is.0) (λ s b is. inr is))
    (touches_wider g.D.Disk _ _ _ _ c.put_gate-2.ensures.touches (λ s b is. inl is.0))

pub returns-clause-made : goal.returns-clause-made
returns-clause-made g c = λ t limit is.
    let size = g.D.Disk.size c.args.d.now in
    let idle : IsIdle c.mark_sector.result =
    record { mark = c.mark_sector.ensures.mark; version = c.mark_sector.ensures.version } in
    on_ok_weaker c.put_gate-2.result
    (λ now.
    subst (λ (i : Image). IsMade c.args.set.now limit c.args.max size i) (sym now)
    (marked c.args.set.now limit c.args.max size c.args.text.now c.mark_sector.result
    (g.D.Disk.seen c.settle_contents.new.d) (g.met.D.Disk.small c.args.d.now) is
    (c.in_ok-settle_contents.ensures.all t) idle))
    (c.put_gate-2.ensures.written t)

pub returns-clause-copies : goal.returns-clause-copies
returns-clause-copies g c = λ t.
    on_ok_weaker c.put_gate-2.result
    (λ now.
    places_marked c.args.max c.args.text.now c.mark_sector.result
    (g.D.Disk.seen c.settle_contents.new.d) (g.D.Disk.seen c.put_gate-2.new.d) c.requires.most now
    (c.in_ok-settle_contents.ensures.all t).places)
    (c.put_gate-2.ensures.written t)

pub returns-clause-control : goal.returns-clause-control
returns-clause-control g c = λ t.
    let full = g.D.Disk.seen c.settle_contents.new.d in
    on_ok_weaker c.put_gate-2.result
    (λ now.
    ap control_of
    (ap (λ (i : Image). i 4) now
    ∙ set_there full 2048 c.mark_sector.result 4 (λ e. omega (arith, e)))
    ∙ (c.in_ok-settle_contents.ensures.all t).control)
    (c.put_gate-2.ensures.written t)

pub returns-clause-version : goal.returns-clause-version
returns-clause-version g c = λ t.
    let full = g.D.Disk.seen c.settle_contents.new.d in
    on_ok_weaker c.put_gate-2.result
    (λ now.
    ap (λ (i : Image). version_in (i 2048)) now
    ∙ ap version_in (set_here full 2048 c.mark_sector.result 2048 refl)
    ∙ c.mark_sector.ensures.version)
    (c.put_gate-2.ensures.written t)

pub returns-clause-rest : goal.returns-clause-rest
returns-clause-rest g c = λ t.
    let old = g.D.Disk.seen c.args.d.now in
    let mid = g.D.Disk.seen c.put_gate.new.d in
    let full = g.D.Disk.seen c.settle_contents.new.d in
    let new = g.D.Disk.seen c.put_gate-2.new.d in
    let first : mid 4 ≡ old 4 =
    ap (λ (i : Image). i 4) (c.in_ok-put_gate.ensures.written t)
    ∙ set_there old 2048 zeros 4 (λ e. omega (arith, e)) in
    on_ok_weaker c.put_gate-2.result
    (λ now.
    let last : new 4 ≡ full 4 =
    ap (λ (i : Image). i 4) now
    ∙ set_there full 2048 c.mark_sector.result 4 (λ e. omega (arith, e)) in
    subst (λ (b : List ℕ). KeepsRest (blanked b) (new 4)) first
    (subst (λ (b : List ℕ). KeepsRest (blanked (mid 4)) b) (sym last)
    (c.in_ok-settle_contents.ensures.rest t)))
    (c.put_gate-2.ensures.written t)

pub returns-clause-time : goal.returns-clause-time
returns-clause-time g c = λ t limit is rest.
    let told = g.D.Disk.told c.args.d.now in
    let size = g.D.Disk.size c.args.d.now in
    let old = g.D.Disk.seen c.args.d.now in
    let mid = g.D.Disk.seen c.put_gate.new.d in
    let full = g.D.Disk.seen c.settle_contents.new.d in
    let blank = blanked_mark old mid (c.in_ok-put_gate.ensures.written t) in
    let still : full 2048 ≡ zeros =
    mark_stays c.args.set.now c.args.max mid full (c.settle_contents.ensures.touches.seen t)
    ∙ blank in
    let made =
    marked c.args.set.now limit c.args.max size c.args.text.now c.mark_sector.result full
    (g.met.D.Disk.small c.args.d.now) is (c.in_ok-settle_contents.ensures.all t)
    (record { mark = c.mark_sector.ensures.mark; version = c.mark_sector.ensures.version }) in
    adds_on g.D.Disk.moment g.D.Disk.outcomes _ _ _ _ _
    (adds_on g.D.Disk.moment g.D.Disk.outcomes _ _ _ _ _
    (adds_wider g.D.Disk.moment g.D.Disk.outcomes _ _ _ _ (c.put_gate.ensures.gate t rest)
    (first_making told c.args.set.now limit c.args.max size old c.requires.room.enough))
    (c.settle_contents.ensures.touches.time t)
    (blank_making told c.args.set.now limit c.args.max size old c.requires.room.enough
    (g.D.Disk.told c.put_gate.new.d) mid (g.D.Disk.may_leave c.put_gate.new.d)
    (c.put_gate.ensures.touches.quiet.told t)
    (c.in_ok-put_gate.ensures.settled t) blank))
    (c.put_gate-2.ensures.gate t (c.in_ok-settle_contents.ensures.settled t))
    (last_making told c.args.set.now limit c.args.max size old c.requires.room.enough
    (g.D.Disk.told c.settle_contents.new.d) c.mark_sector.result full
    (c.settle_contents.ensures.touches.quiet.told t ∙ c.put_gate.ensures.touches.quiet.told t)
    still made)
