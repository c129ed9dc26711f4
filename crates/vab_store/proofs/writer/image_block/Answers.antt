use Rattle.std.proofs.Common.{◌*◌, ◌-◌, ◌++◌, length, length-drop, drop, replicate, refl, ap, ◌∙◌}
use Rattle.std.proofs.Common.{arith}
use Rattle.std.proofs.lemmas.List.{take_all}
use Rattle.vab_store.proofs.BlockLaws.{block_whole, block_past}
use Rattle.vab_store.proofs.writer.image_block.Goals as goal

pub returns-then-block-image : goal.returns-then-block-image
returns-then-block-image c =
    ap (λ l. l ++ drop c.min-count.result (replicate 4096 0)) c.copy_from_slice.ensures.after
    ∙ block_whole 4096 c.args.image.now _ c.args.block c.min-count.result refl
    (take_all
    (length c.args.image.now - 4096 * c.args.block)
    (drop (4096 * c.args.block) c.args.image.now)
    (omega (arith, length-drop (4096 * c.args.block) c.args.image.now)))
    c.min-count.ensures

pub returns-else-block-image : goal.returns-else-block-image
returns-else-block-image c =
    block_past 4096 c.args.image.now c.args.block refl (omega (arith, c.if-block-image.false))
