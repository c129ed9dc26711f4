use Rattle.vab_blocks.proofs.RunLaws.{runs_some}
use Rattle.vab_blocks.proofs.blocks.Blocks.runs.Goals as goal

pub returns-clause-some : goal.returns-clause-some
returns-clause-some c = runs_some c.args.self.now
