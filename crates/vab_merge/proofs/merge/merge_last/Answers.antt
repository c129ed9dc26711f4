use Rattle.std.proofs.Common.{◌≡◌, ◌-◌, ◌<◌, ℕ, List, length, subst, arith}
use Rattle.std.proofs.lemmas.Result.{IfOk-weaker}
use Rattle.vab_disk.specs.Calls.{InSectors, Touches}
use Rattle.vab_space.specs.declared.Chunk.{Chunk}
use Rattle.vab_exceptions.specs.declared.area.Exception.{Exception}
use Rattle.vab_merge.specs.Copied.{InCopied, AreCopied}
use Rattle.vab_merge.specs.Cleared.{IsClearing, AreCleared}
use Rattle.vab_merge.specs.Merged.{WithoutLast}
use Rattle.vab_merge.proofs.RunSteps.{touches_copied, touches_merged}
use Rattle.vab_merge.proofs.RunSteps.{time_copied, time_merged, merged, cleared_since}
use Rattle.vab_merge.proofs.merge.merge_last.Goals as goal

pub clear_run-requires : goal.clear_run-requires
clear_run-requires g c =
    let k : Chunk = c.args.chunk in
    let es : List Exception = c.args.view.now in
    let n : ℕ = c.args.n in
    let end_is : c.count-end.result ≡ length es = c.count-end.ensures in
    let first_below : length es - n < length es =
    omega (arith, c.requires.some, c.requires.run.within) in
    record {
      order = omega (arith, end_is, first_below);
      there = omega (arith, end_is, c.requires.may.fits.room);
      on_disk = λ i below.
          omega (
            arith,
            c.requires.may.store_on_disk i below,
            c.copy_run.ensures.touches.quiet.size,
          );
      apart = λ t. (c.requires.can t).store_apart;
    }

pub returns-in_err-copy_run-clause-touches : goal.returns-in_err-copy_run-clause-touches
returns-in_err-copy_run-clause-touches g c =
    let k : Chunk = c.args.chunk in
    let es : List Exception = c.args.view.now in
    let n : ℕ = c.args.n in
    touches_copied g.D.Disk k c.args.base.now c.args.store.now es n c.requires.run c.args.d.now
    c.copy_run.new.d
    (subst (λ (m : ℕ). Touches g.D.Disk
    (InSectors (InCopied k c.args.base.now es (m - n))) c.args.d.now c.copy_run.new.d)
    c.count-end.ensures c.copy_run.ensures.touches)

pub returns-in_err-copy_run-clause-time : goal.returns-in_err-copy_run-clause-time
returns-in_err-copy_run-clause-time g c = λ t rest scanned.
    let k : Chunk = c.args.chunk in
    let es : List Exception = c.args.view.now in
    let n : ℕ = c.args.n in
    time_copied g.D.Disk k c.args.base.now c.args.store.now es n c.requires.run c.args.d.now
    c.copy_run.new.d t (c.requires.can t) rest scanned
    (subst (λ (m : ℕ). Touches g.D.Disk
    (InSectors (InCopied k c.args.base.now es (m - n))) c.args.d.now c.copy_run.new.d)
    c.count-end.ensures c.copy_run.ensures.touches)

pub returns-clause-touches : goal.returns-clause-touches
returns-clause-touches g c =
    let k : Chunk = c.args.chunk in
    let es : List Exception = c.args.view.now in
    let n : ℕ = c.args.n in
    touches_merged g.D.Disk k c.args.base.now c.args.store.now es n c.requires.run c.args.d.now
    c.copy_run.new.d c.clear_run.new.d c.requires.some c.requires.can
    (subst (λ (m : ℕ). Touches g.D.Disk
    (InSectors (InCopied k c.args.base.now es (m - n))) c.args.d.now c.copy_run.new.d)
    c.count-end.ensures c.copy_run.ensures.touches)
    (subst (λ (m : ℕ). Touches g.D.Disk
    (IsClearing k c.args.store.now (m - n) m
    (g.D.Disk.seen c.copy_run.new.d)) c.copy_run.new.d c.clear_run.new.d)
    c.count-end.ensures c.clear_run.ensures.touches)

pub returns-clause-time : goal.returns-clause-time
returns-clause-time g c = λ t rest scanned.
    let k : Chunk = c.args.chunk in
    let es : List Exception = c.args.view.now in
    let n : ℕ = c.args.n in
    let mid = c.copy_run.new.d in
    time_merged g.D.Disk k c.args.base.now c.args.store.now es n c.requires.run c.args.d.now
    mid c.clear_run.new.d t c.requires.some (c.requires.can t) rest scanned
    (subst (λ (m : ℕ). Touches g.D.Disk
    (InSectors (InCopied k c.args.base.now es (m - n))) c.args.d.now mid)
    c.count-end.ensures c.copy_run.ensures.touches)
    (subst (λ (m : ℕ). AreCopied k c.args.base.now c.args.store.now es (m - n) (length es)
    (g.D.Disk.seen c.args.d.now) (g.D.Disk.seen mid))
    c.count-end.ensures (c.in_ok-copy_run.ensures.copied t))
    (λ s below. (g.met.D.Disk.whole mid s (g.D.Disk.seen mid s) below
    (g.met.D.Disk.seen_held mid s)).long)
    (c.in_ok-copy_run.ensures.rest t)
    (subst (λ (m : ℕ). Touches g.D.Disk
    (IsClearing k c.args.store.now (m - n) m (g.D.Disk.seen mid)) mid c.clear_run.new.d)
    c.count-end.ensures c.clear_run.ensures.touches)

pub returns-clause-merged : goal.returns-clause-merged
returns-clause-merged g c = λ t scanned.
    let k : Chunk = c.args.chunk in
    let es : List Exception = c.args.view.now in
    let n : ℕ = c.args.n in
    let mid = c.copy_run.new.d in
    IfOk-weaker c.clear_run.result
    (λ u. AreCleared k c.args.store.now (c.count-end.result - n) c.count-end.result
    (g.D.Disk.seen mid) (g.D.Disk.seen c.clear_run.new.d))
    (λ u. WithoutLast k c.args.base.now c.args.store.now es n (g.D.Disk.seen c.args.d.now)
    (g.D.Disk.seen c.clear_run.new.d))
    (λ u all.
    merged g.D.Disk k c.args.base.now c.args.store.now es n c.requires.run c.args.d.now
    mid c.clear_run.new.d t c.requires.some (c.requires.can t) scanned
    (subst (λ (m : ℕ). Touches g.D.Disk
    (InSectors (InCopied k c.args.base.now es (m - n))) c.args.d.now mid)
    c.count-end.ensures c.copy_run.ensures.touches)
    (subst (λ (m : ℕ). AreCopied k c.args.base.now c.args.store.now es (m - n) (length es)
    (g.D.Disk.seen c.args.d.now) (g.D.Disk.seen mid))
    c.count-end.ensures (c.in_ok-copy_run.ensures.copied t))
    (λ s below. (g.met.D.Disk.whole mid s (g.D.Disk.seen mid s) below
    (g.met.D.Disk.seen_held mid s)).long)
    (subst (λ (m : ℕ). Touches g.D.Disk
    (IsClearing k c.args.store.now (m - n) m (g.D.Disk.seen mid)) mid c.clear_run.new.d)
    c.count-end.ensures c.clear_run.ensures.touches)
    (subst (λ (m : ℕ). AreCleared k c.args.store.now (m - n) m (g.D.Disk.seen mid)
    (g.D.Disk.seen c.clear_run.new.d))
    c.count-end.ensures all))
    (c.clear_run.ensures.cleared t)

pub returns-clause-cleared : goal.returns-clause-cleared
returns-clause-cleared g c = λ t.
    let k : Chunk = c.args.chunk in
    let es : List Exception = c.args.view.now in
    let n : ℕ = c.args.n in
    let mid = c.copy_run.new.d in
    IfOk-weaker c.clear_run.result
    (λ u. AreCleared k c.args.store.now (c.count-end.result - n) c.count-end.result
    (g.D.Disk.seen mid) (g.D.Disk.seen c.clear_run.new.d))
    (λ u. AreCleared k c.args.store.now (length es - n) (length es)
    (g.D.Disk.seen c.args.d.now) (g.D.Disk.seen c.clear_run.new.d))
    (λ u all.
    cleared_since g.D.Disk k c.args.base.now c.args.store.now es n c.requires.run c.args.d.now
    mid c.clear_run.new.d t (c.requires.can t)
    (subst (λ (m : ℕ). Touches g.D.Disk
    (InSectors (InCopied k c.args.base.now es (m - n))) c.args.d.now mid)
    c.count-end.ensures c.copy_run.ensures.touches)
    (subst (λ (m : ℕ). AreCleared k c.args.store.now (m - n) m (g.D.Disk.seen mid)
    (g.D.Disk.seen c.clear_run.new.d))
    c.count-end.ensures all))
    (c.clear_run.ensures.cleared t)
