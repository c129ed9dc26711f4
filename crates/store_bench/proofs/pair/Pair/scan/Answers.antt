use Rattle.std.proofs.Common.{◌*◌, arith}
use Rattle.vab_store.proofs.PartLaws.{run_on_disk}
use Rattle.store_bench.proofs.pair.Pair.scan.Goals as goal

pub scan-requires : goal.scan-requires
scan-requires g c =
    let pair = c.args.self.now in
    let on = c.lies_on.ensures c.if-not-lies_on.false in
    run_on_disk pair.store (8 * pair.blocks) pair.room _ pair.store_is (omega (arith, on))
