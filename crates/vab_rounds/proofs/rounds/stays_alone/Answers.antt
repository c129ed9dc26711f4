use Rattle.vab_rounds.proofs.Alone.{stays}
use Rattle.vab_rounds.proofs.rounds.stays_alone.Goals as goal

pub returns : goal.returns
returns c = stays
