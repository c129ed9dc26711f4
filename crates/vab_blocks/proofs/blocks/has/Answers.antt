use Rattle.vab_blocks.proofs.BlockLaws.{at_run, before_run}
use Rattle.vab_blocks.proofs.blocks.has.Goals as goal

pub returns-then-block-run : goal.returns-then-block-run
returns-then-block-run c =
    at_run c.args.run.0 c.args.run.1 c.args.block c.if-block-run.true

pub returns-else-block-run : goal.returns-else-block-run
returns-else-block-run c =
    before_run c.args.run.0 c.args.run.1 c.args.block c.if-block-run.false
