use Rattle.std.proofs.Common.{◌≡◌, ◌∙◌, ◌+◌, ◌-◌, ◌≤◌, ◌++◌, ◌∷◌, [], ℕ, List, Ok, Err, replicate}
use Rattle.std.proofs.Common.{ap}
use Rattle.std.proofs.Common.{subst, arith}
use Rattle.std.proofs.lemmas.List.{replicate-append-replicate}
use Rattle.std.proofs.lemmas.Result.{err_from_is_err_and}
use Rattle.vab_model.specs.Commands.{Merge}
use Rattle.vab_update.specs.Install.{order}
use Rattle.vab_update.specs.Orders.{Order}
use Rattle.vab_cli.specs.Acts.{Act, DoesActs, command_act}
use Rattle.vab_cli.proofs.ActsWritten.{does_more, does_none, does_one, does_same, does_short}
use Rattle.vab_cli.proofs.Courses.{kept_next, one_more, represents_next}
use Rattle.vab_cli.proofs.demo.merge_by_sevens.Goals as goal

-- so many of them, and the others
parted : {A : Type 0} (n all : ℕ) (a : A)
    → n ≤ all
    → replicate n a ++ replicate (all - n) a ≡ replicate all a
parted n all a below =
    let same : n + (all - n) ≡ all = omega (arith, below) in
    replicate-append-replicate n (all - n) a ∙ ap (λ (k : ℕ). replicate k a) same

-- one more, and the others
one_parted : {A : Type 0} (n all : ℕ) (a : A)
    → n + 1 ≤ all
    → (replicate n a ++ a ∷ []) ++ replicate (all - (n + 1)) a ≡ replicate all a
one_parted {A} n all a below =
    ap (λ (l : List A). l ++ replicate (all - (n + 1)) a) (one_more n a)
    ∙ parted (n + 1) all a below

pub loop-time-init : goal.loop-time-init
loop-time-init g c =
    does_none g.P.Disk c.args.device c.args.port.now c.requires.kept c.requires.represents

pub perform-requires-clause-kept : goal.perform-requires-clause-kept
perform-requires-clause-kept g c =
    kept_next g.P.Disk c.args.device c.loop-time.next _ c.args.port.now c.loop-time.port
    c.loop-time.invariant.performs

pub perform-requires-clause-represents : goal.perform-requires-clause-represents
perform-requires-clause-represents g c =
    represents_next g.P.Disk c.args.device c.loop-time.next _ c.args.port.now
    c.loop-time.port c.loop-time.invariant.performs

pub loop-time-preserved : goal.loop-time-preserved
loop-time-preserved g c =
    let a : Act = command_act [] (Merge 7) in
    let o : Order = order (Merge 7) in
    let n : ℕ = c.loop-time._time in
    let old = c.args.port.now in
    let mid = c.loop-time.port in
    let new = c.perform.new.port in
    let next = c.in_ok-next.next in
    does_same g.P.Disk c.args.device (replicate n a ++ a ∷ []) (replicate (n + 1) a)
    (replicate n o ++ o ∷ []) (replicate (n + 1) o) old new (Ok next) (one_more n a) (one_more n o)
    (does_more g.P.Disk c.args.device c.loop-time.next (replicate n a) (a ∷ [])
    (replicate n o) (o ∷ []) old mid c.requires.represents c.loop-time.invariant new (Ok next)
    (does_one g.P.Disk c.loop-time.next a o mid new (Ok next) c.in_ok-next.ensures.performs
    c.in_ok-next.ensures.writes))

pub returns-in_err-next : goal.returns-in_err-next
returns-in_err-next g c =
    let p = err_from_is_err_and c.from_residual.result c.from_residual.ensures.1 in
    let a : Act = command_act [] (Merge 7) in
    let o : Order = order (Merge 7) in
    let n : ℕ = c.loop-time._time in
    let e = c.in_err-next.field-0.0 in
    let d = c.args.device in
    let old = c.args.port.now in
    let mid = c.loop-time.port in
    let new = c.perform.new.port in
    let below : n + 1 ≤ c.args.times = omega (arith, c.loop-time-test.true) in
    let left : ℕ = c.args.times - (n + 1) in
    rw (p.1, p.2)
    (does_same g.P.Disk d ((replicate n a ++ a ∷ []) ++ replicate left a)
    (replicate c.args.times a) ((replicate n o ++ o ∷ []) ++ replicate left o)
    (replicate c.args.times o) old new (Err e) (one_parted n c.args.times a below)
    (one_parted n c.args.times o below)
    (does_short g.P.Disk d (replicate n a ++ a ∷ []) (replicate left a)
    (replicate n o ++ o ∷ []) (replicate left o) old new e
    (does_more g.P.Disk d c.loop-time.next (replicate n a) (a ∷ []) (replicate n o) (o ∷ [])
    old mid c.requires.represents c.loop-time.invariant new (Err e)
    (does_one g.P.Disk c.loop-time.next a o mid new (Err e) c.in_err-next.ensures.performs
    c.in_err-next.ensures.writes))))

pub returns : goal.returns
returns g c =
    let a : Act = command_act [] (Merge 7) in
    let o : Order = order (Merge 7) in
    let n : ℕ = c.loop-time._time in
    let all : n ≡ c.args.times = omega (arith, c.loop-time-test.false, c.loop-time.auto) in
    subst
    (λ (k : ℕ).
    DoesActs g.P.Disk c.args.device (replicate k a) (replicate k o) c.args.port.now
    c.loop-time.port (Ok c.loop-time.next))
    all c.loop-time.invariant
