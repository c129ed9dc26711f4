use Rattle.std.proofs.Common.{ℕ, arith, subst, Ok}
use Rattle.std.specs.Prelude.{None}
use Rattle.vab_merging.specs.Made.{MakesSome}
use Rattle.vab_merging.proofs.DoneLaws.{fails_turns, does_turns, fails_end, does_end}
use Rattle.vab_merging.proofs.DoneLaws.{phase_after, none_after}
use Rattle.vab_merging.proofs.merging.merge_blocks.Goals as goal

pub end_merge-requires-clause-merging : goal.end_merge-requires-clause-merging
end_merge-requires-clause-merging g c =
    phase_after g.D.Disk c.args.device None c.args.blocks c.args.d.now c.requires.kept
    c.requires.merging c.in-Ok.next c.in-Ok.more c.make_turns.new.d c.in-Ok.ensures

pub end_merge-requires-clause-none : goal.end_merge-requires-clause-none
end_merge-requires-clause-none g c =
    none_after g.D.Disk c.args.device None c.args.blocks c.args.d.now c.requires.kept
    c.requires.merging c.in-Ok.next c.in-Ok.more c.make_turns.new.d c.in-Ok.ensures
    (omega (arith, c.if-more-eq0.false))

pub returns-in-Err : goal.returns-in-Err
returns-in-Err g c = λ staged.
    fails_turns g.D.Disk c.args.device staged c.args.blocks c.args.d.now c.requires.kept
    c.requires.merging c.in-Err.fault c.make_turns.new.d c.in-Err.ensures

pub returns-then-more-eq0 : goal.returns-then-more-eq0
returns-then-more-eq0 g c = λ staged.
    let d = c.args.device in
    let old = c.args.d.now in
    let new = c.make_turns.new.d in
    does_turns g.D.Disk d staged c.args.blocks old c.requires.kept c.requires.merging c.in-Ok.next
    c.left-count.result new
    (subst (λ (n : ℕ). MakesSome g.D.Disk d c.args.blocks old new (Ok (c.in-Ok.next, n)))
    c.if-more-eq0.true c.in-Ok.ensures)
    c.left-count.ensures.is

pub returns-in-Err-end_merge : goal.returns-in-Err-end_merge
returns-in-Err-end_merge g c = λ staged.
    fails_end g.D.Disk c.args.device staged c.args.blocks c.args.d.now c.requires.kept
    c.requires.merging c.in-Ok.next c.in-Ok.more c.make_turns.new.d c.in-Ok.ensures
    c.in-Err-end_merge.fault c.end_merge.new.d (omega (arith, c.if-more-eq0.false))
    c.in-Err-end_merge.ensures

pub returns-in-Ok-end_merge : goal.returns-in-Ok-end_merge
returns-in-Ok-end_merge g c = λ staged.
    does_end g.D.Disk c.args.device staged c.args.blocks c.args.d.now c.requires.kept
    c.requires.merging c.in-Ok.next c.in-Ok.more c.make_turns.new.d c.in-Ok.ensures
    c.in-Ok-end_merge.ended c.end_merge.new.d (omega (arith, c.if-more-eq0.false))
    c.in-Ok-end_merge.ensures
