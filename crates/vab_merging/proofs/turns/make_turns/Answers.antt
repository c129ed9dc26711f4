use Rattle.std.proofs.Common.{◌≡◌, ℕ, ◌+◌, ◌-◌, arith, subst, Ok}
use Rattle.vab_merging.specs.Run.{MakesTurns}
use Rattle.vab_merging.proofs.MadeLaws.{SoFar, starts, fails, goes_on, all_made, none_more}
use Rattle.vab_merging.proofs.turns.make_turns.Goals as goal

pub loop-wanted-init : goal.loop-wanted-init
loop-wanted-init g c =
    let blocks = c.args.blocks in
    let none : 0 ≡ blocks - blocks = omega arith in (
      omega arith,
      subst
          (λ (n : ℕ).
          SoFar g.D.Disk c.args.device blocks n c.args.d.now c.args.d.now c.args.device)
          none
          (starts g.D.Disk c.args.device blocks c.args.d.now c.requires.kept c.requires.represents
          c.requires.merging),
      c.next_place-place.ensures,
    )

pub returns-in-Err : goal.returns-in-Err
returns-in-Err g c =
    let blocks = c.args.blocks in
    let wanted = c.loop-wanted.wanted in
    let all : (blocks - wanted) + wanted ≡ blocks = omega (arith, c.loop-wanted.invariant.0) in
    fails g.D.Disk c.args.device blocks (blocks - wanted) wanted c.args.d.now c.loop-wanted.d
    c.merge_run.new.d c.loop-wanted.device c.loop-wanted.invariant.1 all c.in-Err.fault
    c.loop-wanted-test.true c.in-Err.ensures.makes

pub returns-then-made-eq0 : goal.returns-then-made-eq0
returns-then-made-eq0 g c =
    let blocks = c.args.blocks in
    let wanted = c.loop-wanted.wanted in
    let d = c.loop-wanted.device in
    let all : (blocks - wanted) + wanted ≡ blocks = omega (arith, c.loop-wanted.invariant.0) in
    let run : MakesTurns g.D.Disk d wanted c.loop-wanted.d c.merge_run.new.d
    (Ok (c.in-Ok.next, 0)) =
    subst
    (λ (n : ℕ).
    MakesTurns g.D.Disk d wanted c.loop-wanted.d c.merge_run.new.d (Ok (c.in-Ok.next, n)))
    c.if-made-eq0.true c.in-Ok.ensures.makes in
    none_more g.D.Disk c.args.device blocks (blocks - wanted) wanted c.args.d.now c.loop-wanted.d
    c.merge_run.new.d d c.in-Ok.next c.loop-wanted.invariant.1 all c.loop-wanted-test.true run

pub loop-wanted-preserved : goal.loop-wanted-preserved
loop-wanted-preserved g c =
    let blocks = c.args.blocks in
    let wanted = c.loop-wanted.wanted in
    let made = c.in-Ok.made in
    let all : (blocks - wanted) + wanted ≡ blocks = omega (arith, c.loop-wanted.invariant.0) in
    let few = c.in-Ok.ensures.makes.at_most in
    let more : (blocks - wanted) + made ≡ blocks - (wanted - made) =
    omega (arith, c.loop-wanted.invariant.0, few) in (
      omega (arith, c.loop-wanted.invariant.0),
      subst
          (λ (n : ℕ).
          SoFar g.D.Disk c.args.device blocks n c.args.d.now c.merge_run.new.d c.in-Ok.next)
          more
          (goes_on g.D.Disk c.args.device blocks (blocks - wanted) wanted c.args.d.now
          c.loop-wanted.d c.merge_run.new.d c.loop-wanted.device c.loop-wanted.invariant.1 all
          c.in-Ok.next made c.in-Ok.ensures.makes (omega (arith, c.if-made-eq0.false))),
      c.in-Ok.ensures.there,
    )

pub returns : goal.returns
returns g c =
    let blocks = c.args.blocks in
    let all : blocks - c.loop-wanted.wanted ≡ blocks = omega (arith, c.loop-wanted-test.false) in
    all_made g.D.Disk c.args.device blocks c.args.d.now c.loop-wanted.d c.loop-wanted.device
    (subst
    (λ (n : ℕ).
    SoFar g.D.Disk c.args.device blocks n c.args.d.now c.loop-wanted.d c.loop-wanted.device)
    all c.loop-wanted.invariant.1)
