use Rattle.std.proofs.Common.{refl, arith}
use Rattle.vab_space.specs.Chunks.{block_in}
use Rattle.vab_space.proofs.ChunkLaws.{block_from}
use Rattle.vab_store.proofs.BlockLaws.{block_past}
use Rattle.vab_store.proofs.writer.image_block_in.Goals as goal

pub returns-else-old-image : goal.returns-else-old-image
returns-else-old-image c =
    block_past 4096 c.args.image.now (block_in c.args.chunk c.args.old c.args.place) refl
    (omega (arith, c.if-old-image.false, block_from c.args.chunk c.args.old c.args.place))
