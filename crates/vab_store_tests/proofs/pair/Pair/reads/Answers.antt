use Rattle.std.proofs.Common.{◌*◌, arith}
use Rattle.vab_store.proofs.PartLaws.{run_long, run_on_disk}
use Rattle.vab_merge.proofs.PairLaws.{fits_base}
use Rattle.vab_store_tests.proofs.pair.Pair.reads.Goals as goal

pub read_block-requires-clause-block : goal.read_block-requires-clause-block
read_block-requires-clause-block c =
    let pair = c.args.self.now in
    omega (arith, run_long pair.base 0 pair.blocks pair.base_is)

pub read_block-requires-clause-fits : goal.read_block-requires-clause-fits
read_block-requires-clause-fits c =
    let pair = c.args.self.now in
    fits_base pair.chunk pair.base pair.store c.args.view.now pair.blocks pair.base_is c.requires

pub read_block-requires-clause-base_on_disk : goal.read_block-requires-clause-base_on_disk
read_block-requires-clause-base_on_disk c =
    let pair = c.args.self.now in
    run_on_disk pair.base 0 pair.blocks _ pair.base_is (omega arith)

pub read_block-requires-clause-store_on_disk : goal.read_block-requires-clause-store_on_disk
read_block-requires-clause-store_on_disk c =
    let pair = c.args.self.now in
    run_on_disk pair.store (8 * pair.blocks) pair.room _ pair.store_is (omega arith)
