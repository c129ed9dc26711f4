use Rattle.std.proofs.Common.{◌≡◌, ℕ, ◌+◌, ◌*◌, ◌/◌, length, ap, arith}
use Rattle.vab_disk.proofs.CallLaws.{touches_wider}
use Rattle.vab_lpstore.specs.Layout.{backup_of, text_sectors}
use Rattle.vab_lpstore.proofs.StoreLaws.{text_some}
use Rattle.vab_make.proofs.StateLaws.{geometry_fits}
use Rattle.vab_make.proofs.TouchLaws.{table_of_copies}
use Rattle.vab_make.proofs.tables.put_table.Goals as goal

pub store_table-requires-clause-on_disk : goal.store_table-requires-clause-on_disk
unfolding backup_of
store_table-requires-clause-on_disk g c =
    let two : (c.args.geometry.now.slots + 0) * (c.args.geometry.now.max / 512)
    ≡ 2 * (c.args.geometry.now.max / 512) =
    ap (λ (k : ℕ). (k + 0) * (c.args.geometry.now.max / 512)) c.requires.two in
    omega (arith, two, c.requires.most.most, c.requires.on_disk)

pub returns-clause-touches : goal.returns-clause-touches
returns-clause-touches g c =
    touches_wider g.D.Disk _ _ _ _ c.store_table.ensures.touches
    (λ s b is.
    table_of_copies c.args.geometry.now (text_sectors (length c.args.text.now)) c.args.text.now s b
    c.requires.two (text_some (length c.args.text.now))
    (geometry_fits c.args.geometry.now (length c.args.text.now) c.requires.most c.requires.two
    c.requires.fits) is)
