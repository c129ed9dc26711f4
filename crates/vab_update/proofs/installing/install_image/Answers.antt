use Rattle.std.proofs.Common.{◌≡◌, ◌∙◌, [], ◌∷◌, List, ℕ, Err, Some, None, refl, sym, ap, arith}
use Rattle.std.proofs.lemmas.Result.{err_from_is_err_and}
use Rattle.vab_set.proofs.SetLaws.{base_short}
use Rattle.vab_space.specs.declared.Chunk.TheVariants.{One}
use Rattle.vab_model.specs.Commands.{Command, Snapshot, Flash, command_of}
use Rattle.vab_update.specs.Install.{order, target_name, size_command, flash_order}
use Rattle.vab_update.specs.Orders.{Order}
use Rattle.vab_update.proofs.WrittenLaws.{kept_next, orders_more, orders_short}
use Rattle.vab_update.proofs.WrittenLaws.{represents_next}
use Rattle.vab_update.proofs.installing.install_image.Goals as goal

pub full_name-full-requires-clause-short : goal.full_name-full-requires-clause-short
full_name-full-requires-clause-short g c =
    omega (arith, base_short c.args.image.now.name c.requires.image.name)

pub returns-in_err-next : goal.returns-in_err-next
returns-in_err-next g c =
    let old = c.args.d.now in
    let source = c.args.source in
    let image = c.args.image.now in
    let p = err_from_is_err_and c.from_residual.result c.from_residual.ensures.1 in
    let first : Order = record { command = size_command source image; staged = None } in
    rw (p.1, p.2)
    (orders_short g.D.Disk c.args.device (first ∷ [])
    (order (Snapshot (target_name source image) image.store) ∷ flash_order source image ∷ [])
    old c.follow_order.new.d c.in_err-next.field-0.0
    (c.in_err-next.ensures first (c.size_command-sized.ensures.is (g.D.Disk.seen old)) refl))

pub follow_order-requires-2-clause-kept : goal.follow_order-requires-2-clause-kept
follow_order-requires-2-clause-kept g c =
    let sized : Command = command_of c.size_command-sized.result in
    kept_next g.D.Disk c.args.device c.in_ok-next.next (order sized ∷ [])
    c.args.d.now c.follow_order.new.d (c.in_ok-next.ensures (order sized) refl refl)

pub follow_order-requires-2-clause-represents : goal.follow_order-requires-2-clause-represents
follow_order-requires-2-clause-represents g c =
    let sized : Command = command_of c.size_command-sized.result in
    represents_next g.D.Disk c.args.device c.in_ok-next.next (order sized ∷ [])
    c.args.d.now c.follow_order.new.d (c.in_ok-next.ensures (order sized) refl refl)

pub returns-in_err-next-2 : goal.returns-in_err-next-2
returns-in_err-next-2 g c =
    let old = c.args.d.now in
    let source = c.args.source in
    let image = c.args.image.now in
    let p = err_from_is_err_and c.from_residual-in_err-next-2.result
    c.from_residual-in_err-next-2.ensures.1 in
    let named : c.text-name.result.now ≡ target_name source image =
    c.text-name.ensures.value ∙ c.full_name-full.ensures in
    let first : Order = record { command = size_command source image; staged = None } in
    let second : Order = order (Snapshot (target_name source image) image.store) in
    let third : Order = flash_order source image in
    rw (p.1, p.2)
    (orders_more g.D.Disk c.args.device c.in_ok-next.next (first ∷ []) (second ∷ third ∷ [])
    old c.follow_order.new.d c.follow_order-2.new.d (Err c.in_err-next-2.field-0.0)
    c.requires.represents
    (c.in_ok-next.ensures first (c.size_command-sized.ensures.is (g.D.Disk.seen old)) refl)
    (orders_short g.D.Disk c.in_ok-next.next (second ∷ []) (third ∷ [])
    c.follow_order.new.d c.follow_order-2.new.d c.in_err-next-2.field-0.0
    (c.in_err-next-2.ensures second
    (ap (λ (n : List ℕ). Snapshot n image.store) (sym named)) refl)))

pub follow_order-requires-3-clause-kept : goal.follow_order-requires-3-clause-kept
follow_order-requires-3-clause-kept g c =
    let snapshot : Command = Snapshot c.text-name.result.now c.args.image.now.store in
    kept_next g.D.Disk c.in_ok-next.next c.in_ok-next-2.next (order snapshot ∷ [])
    c.follow_order.new.d c.follow_order-2.new.d (c.in_ok-next-2.ensures (order snapshot) refl refl)

pub follow_order-requires-3-clause-represents : goal.follow_order-requires-3-clause-represents
follow_order-requires-3-clause-represents g c =
    let snapshot : Command = Snapshot c.text-name.result.now c.args.image.now.store in
    represents_next g.D.Disk c.in_ok-next.next c.in_ok-next-2.next (order snapshot ∷ [])
    c.follow_order.new.d c.follow_order-2.new.d (c.in_ok-next-2.ensures (order snapshot) refl refl)

pub returns : goal.returns
returns g c =
    let old = c.args.d.now in
    let source = c.args.source in
    let image = c.args.image.now in
    let named : c.text-name.result.now ≡ target_name source image =
    c.text-name.ensures.value ∙ c.full_name-full.ensures in
    let sized : Command = command_of c.size_command-sized.result in
    let first : Order = record { command = size_command source image; staged = None } in
    let second : Order = order (Snapshot (target_name source image) image.store) in
    let third : Order = flash_order source image in
    orders_more g.D.Disk c.args.device c.in_ok-next.next (first ∷ []) (second ∷ third ∷ [])
    old c.follow_order.new.d c.follow_order-3.new.d c.follow_order-3.result
    c.requires.represents
    (c.in_ok-next.ensures first (c.size_command-sized.ensures.is (g.D.Disk.seen old)) refl)
    (orders_more g.D.Disk c.in_ok-next.next c.in_ok-next-2.next (second ∷ []) (third ∷ [])
    c.follow_order.new.d c.follow_order-2.new.d c.follow_order-3.new.d c.follow_order-3.result
    (represents_next g.D.Disk c.args.device c.in_ok-next.next (order sized ∷ [])
    old c.follow_order.new.d (c.in_ok-next.ensures (order sized) refl refl))
    (c.in_ok-next-2.ensures second
    (ap (λ (n : List ℕ). Snapshot n image.store) (sym named)) refl)
    (c.follow_order-3.ensures third (ap (λ (n : List ℕ). Flash n One) (sym named))
    (ap Some (sym c.as_slice-bytes.ensures))))
