use Rattle.std.proofs.Common.{◌≡◌, ◌∙◌, [], ◌∷◌, ◌+◌, ◌<◌, ◌≤◌, List, ℕ, Ok, Err, length, get_or}
use Rattle.std.proofs.Common.{take, refl, sym, ap, subst, arith}
use Rattle.std.specs.List.{flat_map}
use Rattle.std.proofs.lemmas.Result.{err_from_is_err_and}
use Rattle.vab_set.specs.declared.set.SetImage.{SetImage}
use Rattle.vab_layout.specs.Slots.{other_slot}
use Rattle.vab_model.specs.Commands.{Begin, Finish, SetActive}
use Rattle.vab_update.specs.Written.{CarriesOrders}
use Rattle.vab_update.specs.Install.{order, image_orders, install_orders}
use Rattle.vab_update.specs.Orders.{Order}
use Rattle.vab_update.proofs.WrittenLaws.{kept_next, orders_more, orders_short}
use Rattle.vab_update.proofs.WrittenLaws.{represents_next}
use Rattle.vab_update.proofs.InstallLaws.{orders_next, orders_both, orders_behind, orders_all}
use Rattle.vab_update.proofs.installing.install.Goals as goal

pub returns-in_err-next : goal.returns-in_err-next
returns-in_err-next g c =
    let p = err_from_is_err_and c.from_residual.result c.from_residual.ensures.1 in
    rw (p.1, p.2)
    (subst
    (λ (l : List Order).
    CarriesOrders g.D.Disk c.args.device l c.args.d.now c.follow_order.new.d
    (Err c.in_err-next.field-0.0))
    (orders_both c.args.device.control.current c.args.set.now 0)
    (orders_short g.D.Disk c.args.device (order Begin ∷ [])
    (orders_behind c.args.device.control.current c.args.set.now 0)
    c.args.d.now c.follow_order.new.d c.in_err-next.field-0.0
    (c.in_err-next.ensures (order Begin) refl refl)))

pub loop-image-preserved : goal.loop-image-preserved
loop-image-preserved g c =
    let set : List SetImage = c.args.set.now in
    let image : SetImage = c.image-item.result in
    let source : ℕ = c.current-source.result in
    let i : ℕ = c.loop-image.image-index in
    let below : i < length set =
    omega (arith, ap length c.as_slice-image-items.ensures, c.loop-image-test.true) in
    let here : get_or set i image ≡ image =
    sym
    (c.image-item.is
    ∙ ap (λ (l : List SetImage). get_or l i image) c.as_slice-image-items.ensures) in
    subst
    (λ (l : List Order).
    CarriesOrders g.D.Disk c.args.device l c.args.d.now c.install_image.new.d
    (Ok c.in_ok-next-2.next))
    (orders_next source set i image below here)
    (orders_more g.D.Disk c.args.device c.loop-image.next
    (order Begin ∷ flat_map (image_orders source) (take i set)) (image_orders source image)
    c.args.d.now c.loop-image.d c.install_image.new.d (Ok c.in_ok-next-2.next)
    c.requires.represents c.loop-image.invariant c.in_ok-next-2.ensures)

pub returns-in_err-next-2 : goal.returns-in_err-next-2
returns-in_err-next-2 g c =
    let p = err_from_is_err_and c.from_residual-in_err-next-2.result
    c.from_residual-in_err-next-2.ensures.1 in
    let set : List SetImage = c.args.set.now in
    let image : SetImage = c.image-item.result in
    let source : ℕ = c.current-source.result in
    let i : ℕ = c.loop-image.image-index in
    let old = c.args.d.now in
    let new = c.install_image.new.d in
    let stop = c.in_err-next-2.field-0.0 in
    let below : i < length set =
    omega (arith, ap length c.as_slice-image-items.ensures, c.loop-image-test.true) in
    let here : get_or set i image ≡ image =
    sym
    (c.image-item.is
    ∙ ap (λ (l : List SetImage). get_or l i image) c.as_slice-image-items.ensures) in
    let some = order Begin ∷ flat_map (image_orders source) (take (i + 1) set) in
    rw (p.1, p.2)
    (subst
    (λ (k : ℕ). CarriesOrders g.D.Disk c.args.device (install_orders k set) old new (Err stop))
    c.current-source.ensures
    (subst
    (λ (l : List Order). CarriesOrders g.D.Disk c.args.device l old new (Err stop))
    (orders_both source set (i + 1))
    (orders_short g.D.Disk c.args.device some (orders_behind source set (i + 1)) old new stop
    (subst
    (λ (l : List Order). CarriesOrders g.D.Disk c.args.device l old new (Err stop))
    (orders_next source set i image below here)
    (orders_more g.D.Disk c.args.device c.loop-image.next
    (order Begin ∷ flat_map (image_orders source) (take i set)) (image_orders source image)
    old c.loop-image.d new (Err stop)
    c.requires.represents c.loop-image.invariant c.in_err-next-2.ensures)))))

pub returns-in_err-next-3 : goal.returns-in_err-next-3
returns-in_err-next-3 g c =
    let p = err_from_is_err_and c.from_residual-in_err-next-3.result
    c.from_residual-in_err-next-3.ensures.1 in
    let set : List SetImage = c.args.set.now in
    let source : ℕ = c.current-source.result in
    let i : ℕ = c.loop-image.image-index in
    let old = c.args.d.now in
    let new = c.follow_order-2.new.d in
    let stop = c.in_err-next-3.field-0.0 in
    let above : length set ≤ i =
    omega (arith, ap length c.as_slice-image-items.ensures, c.loop-image-test.false) in
    let all = order Begin ∷ flat_map (image_orders source) set in
    let last = order (SetActive (other_slot source)) in
    rw (p.1, p.2)
    (subst
    (λ (k : ℕ). CarriesOrders g.D.Disk c.args.device (install_orders k set) old new (Err stop))
    c.current-source.ensures
    (orders_more g.D.Disk c.args.device c.loop-image.next all (order Finish ∷ last ∷ [])
    old c.loop-image.d new (Err stop) c.requires.represents
    (subst
    (λ (l : List Order).
    CarriesOrders g.D.Disk c.args.device l old c.loop-image.d (Ok c.loop-image.next))
    (orders_all source set i above) c.loop-image.invariant)
    (orders_short g.D.Disk c.loop-image.next (order Finish ∷ []) (last ∷ [])
    c.loop-image.d new stop (c.in_err-next-3.ensures (order Finish) refl refl))))

pub follow_order-requires-3-clause-kept : goal.follow_order-requires-3-clause-kept
follow_order-requires-3-clause-kept g c =
    kept_next g.D.Disk c.loop-image.next c.in_ok-next-3.next (order Finish ∷ [])
    c.loop-image.d c.follow_order-2.new.d (c.in_ok-next-3.ensures (order Finish) refl refl)

pub follow_order-requires-3-clause-represents : goal.follow_order-requires-3-clause-represents
follow_order-requires-3-clause-represents g c =
    represents_next g.D.Disk c.loop-image.next c.in_ok-next-3.next (order Finish ∷ [])
    c.loop-image.d c.follow_order-2.new.d (c.in_ok-next-3.ensures (order Finish) refl refl)

pub returns : goal.returns
returns g c =
    let set : List SetImage = c.args.set.now in
    let source : ℕ = c.current-source.result in
    let i : ℕ = c.loop-image.image-index in
    let old = c.args.d.now in
    let new = c.follow_order-3.new.d in
    let r = c.follow_order-3.result in
    let above : length set ≤ i =
    omega (arith, ap length c.as_slice-image-items.ensures, c.loop-image-test.false) in
    let all = order Begin ∷ flat_map (image_orders source) set in
    let last = order (SetActive (other_slot source)) in
    let finished = c.in_ok-next-3.ensures (order Finish) refl refl in
    subst
    (λ (k : ℕ). CarriesOrders g.D.Disk c.args.device (install_orders k set) old new r)
    c.current-source.ensures
    (orders_more g.D.Disk c.args.device c.loop-image.next all (order Finish ∷ last ∷ [])
    old c.loop-image.d new r c.requires.represents
    (subst
    (λ (l : List Order).
    CarriesOrders g.D.Disk c.args.device l old c.loop-image.d (Ok c.loop-image.next))
    (orders_all source set i above) c.loop-image.invariant)
    (orders_more g.D.Disk c.loop-image.next c.in_ok-next-3.next (order Finish ∷ []) (last ∷ [])
    c.loop-image.d c.follow_order-2.new.d new r
    (represents_next g.D.Disk c.args.device c.loop-image.next
    (order Begin ∷ flat_map (image_orders source) (take i set)) old c.loop-image.d
    c.loop-image.invariant)
    finished
    (c.follow_order-3.ensures last refl refl)))
