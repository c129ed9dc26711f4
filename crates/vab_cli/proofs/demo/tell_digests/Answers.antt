use Rattle.std.proofs.Common.{◌≡◌, ◌∙◌, ◌+◌, ◌<◌, ◌≤◌, ◌++◌, ◌∷◌, [], ℕ, List, Ok, Err, length, map}
use Rattle.std.proofs.Common.{take, drop, get_or, sym, ap, arith}
use Rattle.std.proofs.lemmas.Result.{err_from_is_err_and}
use Rattle.vab_set.specs.declared.set.SetImage.{SetImage}
use Rattle.vab_update.specs.Orders.{Order}
use Rattle.vab_cli.specs.Acts.{Act}
use Rattle.vab_cli.specs.Demo.{digest_act, digest_order}
use Rattle.vab_cli.proofs.ActsWritten.{does_more, does_none, does_same, does_short}
use Rattle.vab_cli.proofs.Courses.{kept_next, map_all, map_both, map_more, represents_next}
use Rattle.vab_cli.proofs.demo.tell_digests.Goals as goal

-- so many images, the next one, and the others
map_parted : {A : Type 0} (f : SetImage → A) (set : List SetImage) (i : ℕ) (image : SetImage)
    → i < length set
    → get_or set i image ≡ image
    → (map f (take i set) ++ f image ∷ []) ++ map f (drop (i + 1) set) ≡ map f set
map_parted {A} f set i image below here =
    ap (λ (l : List A). l ++ map f (drop (i + 1) set)) (map_more f set i image below here)
    ∙ map_both f set (i + 1)

pub loop-image-init : goal.loop-image-init
loop-image-init g c =
    does_none g.P.Disk c.args.device c.args.port.now c.requires.kept c.requires.represents

pub tell_digest-requires-clause-kept : goal.tell_digest-requires-clause-kept
tell_digest-requires-clause-kept g c =
    kept_next g.P.Disk c.args.device c.loop-image.next _ c.args.port.now c.loop-image.port
    c.loop-image.invariant.performs

pub tell_digest-requires-clause-represents : goal.tell_digest-requires-clause-represents
tell_digest-requires-clause-represents g c =
    represents_next g.P.Disk c.args.device c.loop-image.next _ c.args.port.now
    c.loop-image.port c.loop-image.invariant.performs

pub loop-image-preserved : goal.loop-image-preserved
loop-image-preserved g c =
    let set : List SetImage = c.args.set.now in
    let image : SetImage = c.image-item.result in
    let i : ℕ = c.loop-image.image-index in
    let old = c.args.port.now in
    let new = c.tell_digest.new.port in
    let next = c.in_ok-next.next in
    let acts : List Act = map digest_act (take i set) in
    let orders : List Order = map digest_order (take i set) in
    let below : i < length set =
    omega (arith, ap length c.as_slice-image-items.ensures, c.loop-image-test.true) in
    let here : get_or set i image ≡ image =
    sym
    (c.image-item.is
    ∙ ap (λ (l : List SetImage). get_or l i image) c.as_slice-image-items.ensures) in
    does_same g.P.Disk c.args.device (acts ++ digest_act image ∷ [])
    (map digest_act (take (i + 1) set)) (orders ++ digest_order image ∷ [])
    (map digest_order (take (i + 1) set)) old new (Ok next)
    (map_more digest_act set i image below here) (map_more digest_order set i image below here)
    (does_more g.P.Disk c.args.device c.loop-image.next acts (digest_act image ∷ []) orders
    (digest_order image ∷ []) old c.loop-image.port c.requires.represents
    c.loop-image.invariant new (Ok next) c.in_ok-next.ensures)

pub returns-in_err-next : goal.returns-in_err-next
returns-in_err-next g c =
    let p = err_from_is_err_and c.from_residual.result c.from_residual.ensures.1 in
    let set : List SetImage = c.args.set.now in
    let image : SetImage = c.image-item.result in
    let i : ℕ = c.loop-image.image-index in
    let d = c.args.device in
    let old = c.args.port.now in
    let new = c.tell_digest.new.port in
    let e = c.in_err-next.field-0.0 in
    let acts : List Act = map digest_act (take i set) in
    let orders : List Order = map digest_order (take i set) in
    let below : i < length set =
    omega (arith, ap length c.as_slice-image-items.ensures, c.loop-image-test.true) in
    let here : get_or set i image ≡ image =
    sym
    (c.image-item.is
    ∙ ap (λ (l : List SetImage). get_or l i image) c.as_slice-image-items.ensures) in
    rw (p.1, p.2)
    (does_same g.P.Disk d ((acts ++ digest_act image ∷ []) ++ map digest_act (drop (i + 1) set))
    (map digest_act set)
    ((orders ++ digest_order image ∷ []) ++ map digest_order (drop (i + 1) set))
    (map digest_order set) old new (Err e) (map_parted digest_act set i image below here)
    (map_parted digest_order set i image below here)
    (does_short g.P.Disk d (acts ++ digest_act image ∷ []) (map digest_act (drop (i + 1) set))
    (orders ++ digest_order image ∷ []) (map digest_order (drop (i + 1) set)) old new e
    (does_more g.P.Disk d c.loop-image.next acts (digest_act image ∷ []) orders
    (digest_order image ∷ []) old c.loop-image.port c.requires.represents c.loop-image.invariant
    new (Err e) c.in_err-next.ensures)))

pub returns : goal.returns
returns g c =
    let set : List SetImage = c.args.set.now in
    let i : ℕ = c.loop-image.image-index in
    let above : length set ≤ i =
    omega (arith, ap length c.as_slice-image-items.ensures, c.loop-image-test.false) in
    does_same g.P.Disk c.args.device (map digest_act (take i set)) (map digest_act set)
    (map digest_order (take i set)) (map digest_order set) c.args.port.now c.loop-image.port
    (Ok c.loop-image.next) (map_all digest_act set i above) (map_all digest_order set i above)
    c.loop-image.invariant
