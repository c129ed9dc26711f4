use Rattle.vab_blocks.proofs.RunLaws.{none_maximal}
use Rattle.vab_blocks.proofs.blocks.Blocks.new.Goals as goal

pub invariant_of-result : goal.invariant_of-result
invariant_of-result c = none_maximal _ c.new.ensures.items
