use Rattle.std.proofs.Common.{◌*◌, arith}
use Rattle.vab_store.proofs.PartLaws.{run_on_disk}
use Rattle.vab_store_tests.proofs.overlay.scanned.Goals as goal

pub scan-requires : goal.scan-requires
scan-requires c =
    let pair = c.args.pair.now in
    let on = c.lies_on.ensures c.if-not-lies_on.false in
    run_on_disk pair.store (8 * pair.blocks) pair.room _ pair.store_is (omega (arith, on))
