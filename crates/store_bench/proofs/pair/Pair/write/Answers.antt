use Rattle.std.proofs.Common.{◌*◌, arith}
use Rattle.vab_store.proofs.PartLaws.{run_long, run_on_disk, run_apart}
use Rattle.store_bench.proofs.pair.Pair.write.Goals as goal

pub write_store-requires-clause-room : goal.write_store-requires-clause-room
write_store-requires-clause-room g c =
    let pair = c.args.self.now in
    omega (arith, run_long pair.store (8 * pair.blocks) pair.room pair.store_is)

pub write_store-requires-clause-on_disk : goal.write_store-requires-clause-on_disk
write_store-requires-clause-on_disk g c =
    let pair = c.args.self.now in
    run_on_disk pair.store (8 * pair.blocks) pair.room _ pair.store_is (omega arith)

pub write_store-requires-clause-apart : goal.write_store-requires-clause-apart
write_store-requires-clause-apart g c = λ _.
    let pair = c.args.self.now in
    run_apart pair.store (8 * pair.blocks) pair.room pair.store_is
