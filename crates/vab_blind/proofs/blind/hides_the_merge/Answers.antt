use Rattle.vab_blind.proofs.Veils.{hidden}
use Rattle.vab_blind.proofs.blind.hides_the_merge.Goals as goal

pub returns : goal.returns
returns c = hidden
