use Rattle.std.proofs.lemmas.Bool.{OnFalse_at}
use Rattle.vab_input.proofs.HearingLaws.{ends_then, within_then}
use Rattle.vab_input.proofs.input.hear_all.Goals as goal

pub returns-clause-heard : goal.returns-clause-heard
returns-clause-heard g c = λ t.
    ends_then (g.P.Disk.heard c.args.p.now) (g.P.Disk.heard c.loop-heard.p)
    (g.P.Disk.heard c.hear_piece.new.p) (c.loop-heard.invariant.heard t)
    (OnFalse_at c.if-branch.false (c.in_ok-hear_piece.ensures.heard_end t))

pub returns-in_err-hear_piece-clause-within : goal.returns-in_err-hear_piece-clause-within
returns-in_err-hear_piece-clause-within g c = λ t.
    within_then (g.P.Disk.heard c.args.p.now) (g.P.Disk.heard c.loop-heard.p)
    (g.P.Disk.heard c.hear_piece.new.p) (c.loop-heard.invariant.heard t)
    (c.hear_piece.ensures.within t)

pub returns-clause-within : goal.returns-clause-within
returns-clause-within g c = λ t.
    within_then (g.P.Disk.heard c.args.p.now) (g.P.Disk.heard c.loop-heard.p)
    (g.P.Disk.heard c.hear_piece.new.p) (c.loop-heard.invariant.heard t)
    (c.hear_piece.ensures.within t)
