use Rattle.std.proofs.Common.{◌-◌, length, sym, subst, arith}
use Rattle.std.proofs.lemmas.List.{take_all}
use Rattle.vab_disk.proofs.CallLaws.{touches_none}
use Rattle.vab_disk.proofs.Moments.{adds_none}
use Rattle.vab_space.specs.Chunks.{entries_in}
use Rattle.vab_merge.specs.Run.{IsLongest}
use Rattle.vab_merge.proofs.RunSteps.{leaves_more, merging_more, without_none, empty_run}
use Rattle.vab_merge.proofs.RunSteps.{clears_none}
use Rattle.vab_merge.proofs.merge.run_turn.Goals as goal

pub returns-then-n-eq0-clause-ran : goal.returns-then-n-eq0-clause-ran
returns-then-n-eq0-clause-ran g c =
    empty_run c.args.chunk c.args.view.now c.args.most c.requires.some
    (subst (IsLongest (entries_in c.args.chunk) c.args.view.now c.args.most) c.if-n-eq0.true
    c.run_length-n.ensures)

pub returns-then-n-eq0-clause-kept : goal.returns-then-n-eq0-clause-kept
returns-then-n-eq0-clause-kept g c =
    sym (take_all (length c.args.view.now - 0) c.args.view.now (omega arith))

pub returns-then-n-eq0-clause-merged : goal.returns-then-n-eq0-clause-merged
returns-then-n-eq0-clause-merged g c = λ t scanned.
    without_none c.args.chunk c.args.base.now c.args.store.now c.args.view.now
    (g.D.Disk.seen c.args.d.now) scanned

pub returns-then-n-eq0-clause-time : goal.returns-then-n-eq0-clause-time
returns-then-n-eq0-clause-time g c = λ t rest scanned.
    adds_none g.D.Disk.moment g.D.Disk.outcomes c.args.d.now _

pub returns-then-n-eq0-clause-touches : goal.returns-then-n-eq0-clause-touches
returns-then-n-eq0-clause-touches g c = touches_none g.D.Disk _ _

pub returns-in-Err-clause-time : goal.returns-in-Err-clause-time
returns-in-Err-clause-time g c = λ t rest scanned.
    leaves_more g.D.Disk c.args.chunk c.args.base.now c.args.store.now c.args.view.now
    c.run_length-n.result c.args.most c.args.d.now c.merge_last.new.d c.run_length-n.ensures.at_most
    (c.merge_last.ensures.time t rest scanned)

pub returns-in-Err-clause-touches : goal.returns-in-Err-clause-touches
returns-in-Err-clause-touches g c =
    merging_more g.D.Disk c.args.chunk c.args.base.now c.args.store.now c.args.view.now
    c.run_length-n.result c.args.most c.args.d.now c.merge_last.new.d c.run_length-n.ensures.at_most
    c.merge_last.ensures.touches

pub returns-in-Ok-clause-time : goal.returns-in-Ok-clause-time
returns-in-Ok-clause-time g c = λ t rest scanned.
    leaves_more g.D.Disk c.args.chunk c.args.base.now c.args.store.now c.args.view.now
    c.run_length-n.result c.args.most c.args.d.now c.merge_last.new.d c.run_length-n.ensures.at_most
    (c.merge_last.ensures.time t rest scanned)

pub returns-in-Ok-clause-touches : goal.returns-in-Ok-clause-touches
returns-in-Ok-clause-touches g c =
    merging_more g.D.Disk c.args.chunk c.args.base.now c.args.store.now c.args.view.now
    c.run_length-n.result c.args.most c.args.d.now c.merge_last.new.d c.run_length-n.ensures.at_most
    c.merge_last.ensures.touches

pub returns-then-n-eq0-clause-cleared : goal.returns-then-n-eq0-clause-cleared
returns-then-n-eq0-clause-cleared g c = λ t.
    clears_none c.args.chunk c.args.store.now (length c.args.view.now - 0)
    (length c.args.view.now) (g.D.Disk.seen c.args.d.now) (omega arith)
