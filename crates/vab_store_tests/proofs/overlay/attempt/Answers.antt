use Rattle.std.proofs.Common.{◌*◌, arith}
use Rattle.vab_store.proofs.PartLaws.{run_on_disk, run_apart}
use Rattle.vab_store_tests.proofs.overlay.attempt.Goals as goal

pub overlay_write-requires-clause-may : goal.overlay_write-requires-clause-may
overlay_write-requires-clause-may c =
    let pair = c.args.pair.now in
    record {
      bound = pair.blocks;
      above = omega arith;
      fits = c.requires;
      on_disk =
          run_on_disk pair.store (8 * pair.blocks) pair.room _ pair.store_is (omega arith);
    }

pub overlay_write-requires-clause-apart : goal.overlay_write-requires-clause-apart
overlay_write-requires-clause-apart c = λ _.
    let pair = c.args.pair.now in
    run_apart pair.store (8 * pair.blocks) pair.room pair.store_is
