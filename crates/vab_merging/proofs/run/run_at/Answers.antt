use Rattle.std.proofs.Common.{◌≡◌, ◌∙◌, ℕ, true, length, set, refl, sym, ap, subst, arith, Ok, Err}
use Rattle.std.specs.Prelude.{IsSome}
use Rattle.vab_device.specs.declared.device.Device.{Device}
use Rattle.std.proofs.lemmas.Bool.{lt-ltb}
use Rattle.vab_merge.specs.Merged.{MayMerge, CanMerge}
use Rattle.vab_device.specs.declared.device.Part.{Part}
use Rattle.vab_device.specs.Mounted.{blocks_there, count_of}
use Rattle.vab_merging.specs.Part.{chunk_in, RunsPart}
use Rattle.vab_device.specs.Mounted.{exceptions_in}
use Rattle.vab_merging.specs.Turns.{part_at, has_exceptions, cut_part, with_own}
use Rattle.vab_merging.proofs.RunLaws.{runs_here, below, some, can, taken_is, counted, failed}
use Rattle.vab_merging.proofs.run.run_at.Goals as goal

pub index_mut-requires : goal.index_mut-requires
index_mut-requires g c =
    let d = c.args.device in
    omega (
      arith,
      ap length (c.into_vec-parts.ensures ∙ c.take_own-rest.ensures.parts),
      below d (g.D.Disk.size c.args.d.now) c.args.place c.requires.kept c.requires.merging
          c.requires.next,
    )

pub run_part-requires-clause-stored : goal.run_part-requires-clause-stored
run_part-requires-clause-stored g c =
    let d = c.args.device in
    let size = g.D.Disk.size c.args.d.now in
    let place = c.args.place in
    let here = taken_is d c.into_vec-parts.result.items place c.index_mut.result.now
    (below d size place c.requires.kept c.requires.merging c.requires.next)
    (c.into_vec-parts.ensures ∙ c.take_own-rest.ensures.parts) c.index_mut.ensures.value in
    subst (λ (p : Part). IsSome p.store) (sym here)
    (runs_here d size place c.requires.kept c.requires.merging c.requires.next).store

pub run_part-requires-clause-written : goal.run_part-requires-clause-written
run_part-requires-clause-written g c =
    let d = c.args.device in
    let size = g.D.Disk.size c.args.d.now in
    let place = c.args.place in
    let here = taken_is d c.into_vec-parts.result.items place c.index_mut.result.now
    (below d size place c.requires.kept c.requires.merging c.requires.next)
    (c.into_vec-parts.ensures ∙ c.take_own-rest.ensures.parts) c.index_mut.ensures.value in
    subst (λ (p : Part). has_exceptions p ≡ true) (sym here)
    (lt-ltb 0 (count_of (part_at d place).image)
    (some d size place c.requires.kept c.requires.merging c.requires.next))

pub run_part-requires-clause-may : goal.run_part-requires-clause-may
run_part-requires-clause-may g c =
    let d = c.args.device in
    let size = g.D.Disk.size c.args.d.now in
    let place = c.args.place in
    let here = taken_is d c.into_vec-parts.result.items place c.index_mut.result.now
    (below d size place c.requires.kept c.requires.merging c.requires.next)
    (c.into_vec-parts.ensures ∙ c.take_own-rest.ensures.parts) c.index_mut.ensures.value in
    subst
    (λ (p : Part).
    MayMerge (chunk_in p.image) p.map (blocks_there p.store) (exceptions_in p.image) size)
    (sym here)
    (runs_here d size place c.requires.kept c.requires.merging c.requires.next).may

pub run_part-requires-clause-can : goal.run_part-requires-clause-can
run_part-requires-clause-can g c = λ t.
    let d = c.args.device in
    let size = g.D.Disk.size c.args.d.now in
    let place = c.args.place in
    let here = taken_is d c.into_vec-parts.result.items place c.index_mut.result.now
    (below d size place c.requires.kept c.requires.merging c.requires.next)
    (c.into_vec-parts.ensures ∙ c.take_own-rest.ensures.parts) c.index_mut.ensures.value in
    subst
    (λ (p : Part).
    CanMerge (chunk_in p.image) p.map (blocks_there p.store) (exceptions_in p.image) size)
    (sym here)
    (can d size place c.requires.kept c.requires.merging c.requires.next
    (g.D.Disk.seen c.args.d.now) (c.requires.represents t))

pub returns-in-Ok-clause-is : goal.returns-in-Ok-clause-is
returns-in-Ok-clause-is g c =
    let d = c.args.device in
    let size = g.D.Disk.size c.args.d.now in
    let place = c.args.place in
    let whole = c.into_vec-parts.ensures ∙ c.take_own-rest.ensures.parts in
    let here = taken_is d c.into_vec-parts.result.items place c.index_mut.result.now
    (below d size place c.requires.kept c.requires.merging c.requires.next) whole
    c.index_mut.ensures.value in
    let part = c.in-Ok.ensures.kept ∙ ap (cut_part c.in-Ok.n) here in
    c.give_own.ensures
    ∙ c.take_own-rest.ensures.rest c.from_vec.result
    ∙ ap (with_own d) c.from_vec.ensures
    ∙ (λ i. with_own d (set (whole i) place (part i)))

pub returns-in-Ok-clause-runs : goal.returns-in-Ok-clause-runs
returns-in-Ok-clause-runs g c =
    let d = c.args.device in
    let size = g.D.Disk.size c.args.d.now in
    let place = c.args.place in
    let here = taken_is d c.into_vec-parts.result.items place c.index_mut.result.now
    (below d size place c.requires.kept c.requires.merging c.requires.next)
    (c.into_vec-parts.ensures ∙ c.take_own-rest.ensures.parts) c.index_mut.ensures.value in
    subst
    (λ (p : Part).
    RunsPart g.D.Disk p (λ (r : Device × ℕ). r.1) c.args.most c.args.d.now c.run_part.new.d
    (Ok (c.give_own.result, c.in-Ok.n)))
    here
    (counted g.D.Disk c.index_mut.result.now (λ (n : ℕ). n) (λ (r : Device × ℕ). r.1) c.args.most
    c.args.d.now
    c.run_part.new.d c.in-Ok.n (c.give_own.result, c.in-Ok.n) refl c.in-Ok.ensures.runs)

pub returns-in-Err-clause-runs : goal.returns-in-Err-clause-runs
returns-in-Err-clause-runs g c =
    let d = c.args.device in
    let size = g.D.Disk.size c.args.d.now in
    let place = c.args.place in
    let here = taken_is d c.into_vec-parts.result.items place c.index_mut.result.now
    (below d size place c.requires.kept c.requires.merging c.requires.next)
    (c.into_vec-parts.ensures ∙ c.take_own-rest.ensures.parts) c.index_mut.ensures.value in
    subst
    (λ (p : Part).
    RunsPart g.D.Disk p (λ (r : Device × ℕ). r.1) c.args.most c.args.d.now c.run_part.new.d
    (Err c.in-Err.fault))
    here
    (failed g.D.Disk c.index_mut.result.now (λ (n : ℕ). n) (λ (r : Device × ℕ). r.1) c.args.most
    c.args.d.now
    c.run_part.new.d c.in-Err.fault c.in-Err.ensures.runs)
