use Rattle.std.proofs.Common.{◌*◌, arith}
use Rattle.vab_space.specs.declared.Chunk.TheVariants.{One}
use Rattle.vab_space.proofs.ChunkLaws.{room_for}
use Rattle.vab_store.proofs.PartLaws.{run_long, run_on_disk}
use Rattle.vab_store_tests.proofs.pair.Pair.ends_clean.Goals as goal

pub ends_clean-requires-clause-on_disk : goal.ends_clean-requires-clause-on_disk
ends_clean-requires-clause-on_disk c =
    let pair = c.args.self.now in
    let on = c.lies_on.ensures c.if-not-lies_on.false in
    run_on_disk pair.store (8 * pair.blocks) pair.room _ pair.store_is (omega (arith, on))

pub ends_clean-requires-clause-there : goal.ends_clean-requires-clause-there
ends_clean-requires-clause-there c =
    let pair = c.args.self.now in
    let long = run_long pair.store (8 * pair.blocks) pair.room pair.store_is in
    room_for One c.args.count _
    (omega (arith, long, c.need_at.ensures, c.if-need_at-self.false))
