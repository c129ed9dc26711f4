use Rattle.std.proofs.Common.{◌≡◌, length, refl, arith}
use Rattle.vab_disk.proofs.Moments.{adds_wider}
use Rattle.vab_disk.specs.Calls.{Touches}
use Rattle.vab_copies.specs.Copies.{with_text, IsOfEither, LeavesCopies}
use Rattle.vab_lpstore.specs.Layout.{text_sectors}
use Rattle.vab_lpstore.proofs.StoreLaws.{copies_apart, text_fits, text_room, text_some}
use Rattle.vab_lpstore.proofs.Outcomes.{stored_table, stored_both, places, on_ok_map}
use Rattle.vab_lpstore.proofs.store.store_table.Goals as goal

pub store_copies-requires-clause-some : goal.store_copies-requires-clause-some
store_copies-requires-clause-some g c = omega
    (arith, text_some (length c.args.text.now), c.sectors-count.ensures)

pub store_copies-requires-clause-apart : goal.store_copies-requires-clause-apart
store_copies-requires-clause-apart g c =
    let apart = copies_apart c.args.geometry.now c.args.slot c.requires.slot in
    let fits = text_fits c.args.geometry.now (length c.args.text.now) c.requires.rules
    c.requires.fits in
    omega (arith, apart, fits, c.sectors-count.ensures, c.primary.ensures, c.backup.ensures)

pub store_copies-requires-clause-on_disk : goal.store_copies-requires-clause-on_disk
store_copies-requires-clause-on_disk g c =
    let fits = text_fits c.args.geometry.now (length c.args.text.now) c.requires.rules
    c.requires.fits in
    omega (arith, fits, c.requires.on_disk, c.sectors-count.ensures, c.backup.ensures)

pub returns-clause-stored : goal.returns-clause-stored
returns-clause-stored g c = λ t.
    let text = c.args.text.now in
    let old = g.D.Disk.seen c.args.d.now in
    let image = g.D.Disk.seen c.store_copies.new.d in
    on_ok_map c.store_copies.result _ _
    (λ is. stored_both c.args.geometry.now c.args.slot (text_sectors (length text)) text old
    c.requires.slot (text_some (length text))
    (text_fits c.args.geometry.now (length text) c.requires.rules c.requires.fits)
    (text_room (length text)) image
    (places (λ n p b l. image ≡ with_text n l (with_text n l old p) b) _ _ _ _ _ _ text text
    c.sectors-count.ensures c.primary.ensures c.backup.ensures refl is))
    (c.store_copies.ensures.written t)

pub returns-clause-touches : goal.returns-clause-touches
returns-clause-touches g c =
    places
    (λ n p b l. Touches g.D.Disk (IsOfEither n p b l) c.args.d.now c.store_copies.new.d)
    _ _ _ _ _ _ c.args.text.now c.args.text.now
    c.sectors-count.ensures c.primary.ensures c.backup.ensures refl c.store_copies.ensures.touches

pub returns-clause-table : goal.returns-clause-table
returns-clause-table g c = λ t settled a b is_primary is_backup is_text.
    let text = c.args.text.now in
    let old = g.D.Disk.seen c.args.d.now in
    let told = g.D.Disk.told c.args.d.now in
    adds_wider g.D.Disk.moment g.D.Disk.outcomes _ _ _ _ (c.store_copies.ensures.copies t settled)
    (λ o leaves. stored_table c.args.geometry.now c.args.slot (text_sectors (length text)) text old
    c.requires.slot (text_some (length text))
    (text_fits c.args.geometry.now (length text) c.requires.rules c.requires.fits)
    (text_room (length text)) told a b is_primary is_backup is_text o
    (places (λ n p b l. LeavesCopies told old n p b l o) _ _ _ _ _ _ text text
    c.sectors-count.ensures c.primary.ensures c.backup.ensures refl leaves))
